-- Column by column, by the lemmas of Turns. Assumes nothing.
use native.Mathlib.Omega.{arith}
use Rattle.field.specs.Field.{◌⊕◌}
use Rattle.field.proofs.Fields.{our-field}
use Rattle.equations.proofs.Rows.{row_fits}
use Rattle.elimination.proofs.Turns.{adding-start, adding-turn, adding-end, added_none}
use Rattle.elimination.proofs.Shape.add_row.Goals as goal

pub returns-then-f-eq0-clause-added : goal.returns-then-f-eq0-clause-added
returns-then-f-eq0-clause-added c = added_none _ (our-field c.args.self.field) _ _ _ _ _ c.if-f-eq0.true

pub loop-j-init : goal.loop-j-init
loop-j-init c = adding-start _ (our-field c.args.self.field) _ _ _ _ _ _ c.requires.held.elements c.requires.zero

pub loop-j-preserved : goal.loop-j-preserved
unfolding ◌⊕◌
loop-j-preserved c =
    let fits = row_fits c.args.self.rows c.args.self.width c.args.i c.requires.to in
    adding-turn _ (our-field c.args.self.field) _ _ _ _ _ _ _ _ c.loop-j.invariant (omega arith) (omega arith) c.product.ensures

pub returns-clause-added : goal.returns-clause-added
returns-clause-added c = adding-end _ (our-field c.args.self.field) _ _ _ _ _ _ _ c.loop-j.invariant (omega arith)

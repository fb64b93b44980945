-- The goals of `add_row` that the search leaves open.
use native.Mathlib.Omega.{arith}
use Rattle.field.specs.Field.{◌⊕◌}
use Rattle.field.proofs.Fields.{our-field}
use Rattle.codewords.proofs.Totals.{added-starts, added-turns, added-ends}
use Rattle.codewords.proofs.codeword.add_row.Goals as goal

pub loop-c-init : goal.loop-c-init
loop-c-init c = added-starts _ _ c.args.row.now c.args.total.now c.requires

pub loop-c-preserved : goal.loop-c-preserved
unfolding ◌⊕◌
loop-c-preserved c = added-turns _ _ c.args.row.now c.args.total.now c.requires c.loop-c.invariant (our-field _) (omega arith) c.weighted.ensures

pub returns : goal.returns
returns c = added-ends _ _ c.args.row.now c.args.total.now c.requires c.loop-c.invariant (omega arith)

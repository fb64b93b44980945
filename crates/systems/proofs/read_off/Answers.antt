-- A buffer of zeros begins; each turn writes one row's entry. Assumes nothing.
use native.Mathlib.Omega.{arith}
use Rattle.field.proofs.Fields.{our-field}
use Rattle.equations.proofs.Elements.{blank}
use Rattle.elimination.proofs.Turns.{reading-turn}
use Rattle.elimination.proofs.Elimination.{read-start}
use Rattle.systems.proofs.read_off.Goals as goal

pub loop-t-init : goal.loop-t-init
loop-t-init c = read-start _ (our-field c.args.shape.field) _ _ _ _ _ _ (λ j. rw (c.fill.ensures.after (λ y e. e)) (blank _ j))

pub loop-t-preserved : goal.loop-t-preserved
loop-t-preserved c =
    reading-turn _ (our-field c.args.shape.field) c.args.a.now c.args.pivots.now _ _ _ _ _ c.requires.held.elements c.requires.form
    c.loop-t.z _ (omega (arith, c.requires.form.col c.loop-t.t (omega arith))) (omega arith) c.loop-t.invariant

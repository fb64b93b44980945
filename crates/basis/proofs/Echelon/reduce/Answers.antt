-- `reduce`: what search leaves open, by the lemmas of Reducing.
use native.Mathlib.Omega.{arith}
use Rattle.std.proofs.Common.{◌<◌, length-take, get_or-take}
use Rattle.field.specs.Field.{◌⊕◌}
use Rattle.basis.proofs.Reducing.{reducing-start, reducing-turn}
use Rattle.basis.proofs.Echelon.reduce.Goals as goal

pub loop-pivot-init : goal.loop-pivot-init
loop-pivot-init c = reducing-start _ _ _ c.ranges.word.fits

pub loop-pivot-preserved : goal.loop-pivot-preserved
unfolding ◌⊕◌
loop-pivot-preserved c =
    let e = c.args.self.now in
    let l : c.loop-pivot.pivot-index < e.count = omega (arith, length-take e.count e.order) in
    rw (get_or-take e.count e.order c.loop-pivot.pivot-index 0 l) (reducing-turn e _ _ c.requires _ _ _ c.loop-pivot.invariant l)

-- `reduce`: the invariant `Reducing` is that what is left is 0 at the pivots before this one, and that word and mask moved together. Assumes nothing.
use Rattle.basis.proofs.Reducing.{Reducing}
use Rattle.basis.proofs.Echelon.reduce.Given as goal

abbrev pub invariant-loop-pivot : goal.invariant-loop-pivot
invariant-loop-pivot l = Reducing l.self l.word l.mask l.left l.made l.pivot-index

-- `put`: what search leaves open, by the lemmas of Writing.
use mathlib.Core.Path.{refl}
use native.Mathlib.Omega.{arith}
use Rattle.words.proofs.Writing.{writing-turns}
use Rattle.words.proofs.put.Goals as goal

pub loop-i-preserved : goal.loop-i-preserved
loop-i-preserved c = writing-turns _ _ _ c.loop-i.invariant (omega arith) refl refl

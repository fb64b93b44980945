-- `spread`: the invariant is that the bits so far are written. Assumes nothing.
use mathlib.Core.Path.{◌≡◌}
use Prim.Native.Nat.{ℕ, ◌<◌}
use Rattle.equations.specs.System.{vec}
use Rattle.equations.specs.Words.{bit_at}
use Rattle.gathering.proofs.spread.Given as goal

abbrev pub invariant-loop-t : goal.invariant-loop-t
invariant-loop-t l = (s : ℕ) → s < l.t → vec l.bits s ≡ bit_at l.word s

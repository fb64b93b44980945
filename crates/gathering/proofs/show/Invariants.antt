-- `show`: the invariant is that the copy, at the front of its room, has 0 at the places so far. Assumes nothing.
use mathlib.Core.Path.{◌≡◌}
use lib.ListN.{length, take}
use Rattle.gathering.specs.Steps.{scattered}
use Rattle.equations.specs.System.{vec}
use Rattle.gathering.proofs.show.Given as goal

abbrev pub invariant-loop-place : goal.invariant-loop-place
invariant-loop-place l = take (length l.v) l.shown ≡ scattered l.v (vec l.place-items) (λ _. 0) l.place-index

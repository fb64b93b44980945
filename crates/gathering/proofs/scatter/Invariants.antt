-- `scatter`: the invariant is that the vector is the one with the places so far written. Assumes nothing.
use mathlib.Core.Path.{◌≡◌}
use lib.ListN.{length}
use Rattle.gathering.specs.Steps.{scattered}
use Rattle.equations.specs.System.{vec}
use Rattle.gathering.proofs.scatter.Given as goal

abbrev pub invariant-loop-place : goal.invariant-loop-place
invariant-loop-place l = l.v ≡ scattered l.initial.v (vec l.places) (vec l.x) (length l.yielded)

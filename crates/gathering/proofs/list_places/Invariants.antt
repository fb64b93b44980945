-- `list_places`: the invariant `Placing` is that the places so far list the lowest marked columns, and `rest` has the marks of the others. Assumes nothing.
use Rattle.equations.specs.System.{vec}
use Rattle.gathering.proofs.Words.{Placing}
use Rattle.gathering.proofs.list_places.Given as goal

abbrev pub invariant-loop-place : goal.invariant-loop-place
invariant-loop-place l = Placing l.marks l.rest l.k l.place-index (vec l.place-items)

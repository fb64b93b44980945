-- `span`: the invariant `Building` is the echelon of the first t columns and a dependency of theirs; a column of which something is left
-- joins the echelon, one of which nothing is left is a dependency. Assumes nothing.
use Prim.Native.Nat.{◌%◌, ◌^◌}
use Rattle.equations.specs.System.{vec}
use Rattle.equations.specs.Words.{column_of}
use Rattle.basis.proofs.Building.{Building}
use Rattle.basis.proofs.span.Given as goal

abbrev pub invariant-loop-t : goal.invariant-loop-t
invariant-loop-t l = Building (λ j. column_of l.checks l.m l.n (vec l.places j) % 2 ^ l.m) l.t l.echelon l.dependency

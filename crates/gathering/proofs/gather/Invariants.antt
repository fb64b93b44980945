-- `gather`: the invariant is that the first i rows are gathered; row i is copied, and its last entry is what is left of the target. Assumes nothing.
use Prim.Native.Nat.{◌+◌}
use lib.ListN.{length}
use Rattle.field.specs.Ours.{field_of}
use Rattle.gathering.specs.Steps.{Gathered}
use Rattle.equations.specs.System.{vec, ent, Elements}
use Rattle.gathering.proofs.gather.Given as goal

abbrev pub invariant-loop-i : goal.invariant-loop-i
invariant-loop-i l =
    Elements (field_of l.q) (vec l.a)
    × Gathered (field_of l.q) l.checks l.target (vec l.shown) (length l.shown) l.k (vec l.places) (ent l.a (l.k + 1)) l.i

-- `gather_row`: the invariant is that the coefficients so far are copied and the rest is as it was. Assumes nothing.
use lib.ListN.{length}
use Rattle.field.specs.Field.{Field}
use Rattle.gathering.specs.Steps.{Copied}
use Rattle.equations.specs.System.{vec, Elements}
use Rattle.gathering.proofs.gather_row.Given as goal

abbrev pub invariant-loop-t : goal.invariant-loop-t
invariant-loop-t l =
    ((F : Field) → Elements F (vec l.checks) → Elements F (vec l.initial.a) → Elements F (vec l.a))
    × Copied l.checks l.n l.i (vec l.places) l.initial.a l.a (length l.places) l.t

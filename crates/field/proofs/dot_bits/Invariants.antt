-- The low bit of the columns passed and those to come make the whole sum. Assumes nothing.
use Prim.Native.Nat.{◌%◌}
use Rattle.field.specs.Field.{gf2}
use Rattle.field.proofs.Summing.{Summing}
use Rattle.field.proofs.dot_bits.Given as goal

abbrev pub invariant-loop-c : goal.invariant-loop-c
invariant-loop-c l = Summing gf2 l.check l.row l.c-iterator.a.rest.now l.c-iterator.b.rest.now (l.sum % 2)

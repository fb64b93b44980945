-- The columns passed and those to come make the whole sum. Assumes nothing.
use Rattle.field.specs.Ours.{field_of}
use Rattle.field.proofs.Summing.{Summing}
use Rattle.field.proofs.Gf.dot.Given as goal

abbrev pub invariant-loop-c : goal.invariant-loop-c
invariant-loop-c l = Summing (field_of l.self) l.check l.row l.c-iterator.a.rest.now l.c-iterator.b.rest.now l.sum

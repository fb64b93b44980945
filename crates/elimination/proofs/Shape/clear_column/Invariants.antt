-- The rows before i have their sums, and row p and those from i on what they had. Assumes nothing.
use Rattle.field.specs.Ours.{field_of}
use Rattle.elimination.proofs.Turns.{Clearing}
use Rattle.elimination.proofs.Shape.clear_column.Given as goal

abbrev pub invariant-loop-i : goal.invariant-loop-i
invariant-loop-i l = Clearing (field_of l.self.field) l.initial.a l.a l.self.width l.p l.c l.i

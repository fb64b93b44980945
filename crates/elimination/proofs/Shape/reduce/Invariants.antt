-- The matrix has the form after c columns, and the same vectors give 0 as at the start. Assumes nothing.
use Rattle.field.specs.Ours.{field_of}
use Rattle.elimination.proofs.Turns.{Reducing}
use Rattle.elimination.proofs.Shape.reduce.Given as goal

abbrev pub invariant-loop-c : goal.invariant-loop-c
invariant-loop-c l = Reducing (field_of l.self.field) l.initial.a l.a l.pivots l.self.rows l.self.width l.rank l.free l.c

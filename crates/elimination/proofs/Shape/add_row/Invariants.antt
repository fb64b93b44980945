-- Row i has the sum before column j, and every other place what it had. Assumes nothing.
use Rattle.field.specs.Ours.{field_of}
use Rattle.elimination.proofs.Turns.{Adding}
use Rattle.elimination.proofs.Shape.add_row.Given as goal

abbrev pub invariant-loop-j : goal.invariant-loop-j
invariant-loop-j l = Adding (field_of l.self.field) l.initial.a l.a l.self.width l.i l.p l.f l.j

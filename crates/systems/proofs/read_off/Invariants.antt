-- The rows before t are read off. Assumes nothing.
use Rattle.field.specs.Ours.{field_of}
use Rattle.equations.specs.System.{vec, ent}
use Rattle.elimination.specs.Steps.{ReadOff}
use Rattle.systems.proofs.read_off.Given as goal

abbrev pub invariant-loop-t : goal.invariant-loop-t
invariant-loop-t l = ReadOff (field_of l.shape.field) (ent l.a l.shape.width) l.shape.rows l.k (vec l.pivots) l.u l.t (vec l.z)

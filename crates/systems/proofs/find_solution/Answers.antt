-- A row below the pivots' with a right-hand side has no solution; where there is none, column k read off is one. Assumes nothing.
use Rattle.field.proofs.Fields.{our-field}
use Rattle.elimination.proofs.Elimination.{consistent-no}
use Rattle.systems.proofs.find_solution.Goals as goal

pub returns-then-is_some : goal.returns-then-is_some
returns-then-is_some c =
    consistent-no _ (our-field c.args.shape.field) _ _ _ _ _ _ _ c.requires.form c.find_row.ensures c.if-is_some.ensures

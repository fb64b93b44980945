-- Adding row i makes the entry of row r a 1 and leaves both 0 before column c; clearing then leaves only that 1. Assumes nothing.
use native.Mathlib.Omega.{arith}
use Rattle.field.proofs.Fields.{our-field}
use Rattle.elimination.proofs.Elimination.{added-zero, pivoted}
use Rattle.elimination.proofs.Shape.pivot.Goals as goal

pub clear_column-requires : goal.clear_column-requires
clear_column-requires c =
    let asked = c.requires in
    record {
      held = record { rows = omega (arith, c.add_row.auto.a); elements = c.add_row.ensures.elements };
      row = omega arith;
      column = asked.column;
      zero = λ j l. added-zero _ (our-field c.args.self.field) _ _ _ _ _ _ _ c.add_row.ensures.added (omega arith)
          (asked.low _ (omega arith) (omega arith) j l) (asked.low _ asked.least asked.most j l);
    }

pub returns-clause-pivoted : goal.returns-clause-pivoted
returns-clause-pivoted c =
    let asked = c.requires in
    pivoted _ (our-field c.args.self.field) _ _ _ _ _ _ _ _ _ (omega arith) asked.most asked.least asked.column
    (λ x l. asked.held.elements _) asked.nonzero c.factor-f.ensures asked.low c.add_row.ensures.added c.clear_column.ensures.cleared

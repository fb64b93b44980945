-- The rows passed and those to come make the whole total: row r stands from r times the columns on.
use Rattle.field.specs.Ours.{field_of}
use Rattle.codewords.proofs.Totals.{Adding}
use Rattle.codewords.proofs.codeword.add_rows.Given as goal

abbrev pub invariant-loop-r : goal.invariant-loop-r
invariant-loop-r l = Adding (field_of l.q) l.weights l.symbols l.initial.total l.total l.r

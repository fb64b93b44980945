-- `keep_column`: the rows passed are written, and a row less is to come. Assumes nothing.
use Rattle.levels.proofs.Keeping.{Keeping}
use Rattle.levels.proofs.keep_column.Given as goal

abbrev pub invariant-loop-r : goal.invariant-loop-r
invariant-loop-r l = Keeping l.at l.column l.initial.sums l.r l.sums

-- The totals of the levels passed are zero: the level that fails answers, or the end of the walk.
use Rattle.codewords.proofs.Holding.{LevelsHolding}
use Rattle.codewords.proofs.codeword.holds.Given as goal

abbrev pub invariant-loop-level : goal.invariant-loop-level
invariant-loop-level l = LevelsHolding l.plan l.stripe l.level

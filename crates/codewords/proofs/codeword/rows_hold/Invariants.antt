-- The sums of the rows passed are zero: row r stands from r times the columns on. The row that fails answers, or the end of the walk.
use Rattle.plans.specs.Plan.{plan_of}
use Rattle.plans.proofs.Scan.{Passing}
use Rattle.codewords.proofs.Holding.{row_holds}
use Rattle.codewords.proofs.codeword.rows_hold.Given as goal

abbrev pub invariant-loop-r : goal.invariant-loop-r
invariant-loop-r l = Passing (row_holds (plan_of l.plan) l.stripe) (plan_of l.plan).rows l.r

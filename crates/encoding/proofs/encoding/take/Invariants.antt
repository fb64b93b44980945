-- After r turns the symbols of the first r rows are taken, and those of the rows to come go behind them: row r stands from r times the columns on.
use Rattle.plans.specs.Plan.{plan_of, marks_at}
use Rattle.encoding.proofs.Placing.{Taking}
use Rattle.encoding.proofs.encoding.take.Given as goal

abbrev pub invariant-loop-r : goal.invariant-loop-r
invariant-loop-r l = Taking (marks_at (plan_of l.plan) l.words) l.stripe l.initial.data l.r l.next l.data

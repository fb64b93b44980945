-- After r turns the first r rows are written, and the data behind those placed go to the rows to come: row r stands from r times the columns on.
use Rattle.plans.specs.Plan.{plan_of, marks_at}
use Rattle.encoding.proofs.Placing.{Placing}
use Rattle.encoding.proofs.encoding.place.Given as goal

abbrev pub invariant-loop-r : goal.invariant-loop-r
invariant-loop-r l = Placing (marks_at (plan_of l.plan) l.words) l.data l.initial.stripe l.r l.next l.stripe

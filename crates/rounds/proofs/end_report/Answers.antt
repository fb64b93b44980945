-- `end_report`: the rows left decide between Restored and Stuck. Assumes nothing.
use Rattle.rounds.proofs.Leaving.{report-restored, report-stuck}
use Rattle.rounds.proofs.end_report.Goals as goal

pub returns-then-left-eq0 : goal.returns-then-left-eq0
returns-then-left-eq0 c = report-restored _ _ _ _ c.requires c.facts_of-facts.ensures.rows c.rows_left-left.ensures c.if-left-eq0.true

pub returns-else-left-eq0 : goal.returns-else-left-eq0
returns-else-left-eq0 c = report-stuck _ _ _ _ c.requires c.facts_of-facts.ensures.rows c.rows_left-left.ensures c.if-left-eq0.false

-- The turns and ends of `keep_column`, from its invariant.
use Rattle.levels.proofs.Keeping.{keeping-turns, keeping-ends}
use Rattle.levels.proofs.keep_column.Goals as goal

pub loop-r-preserved : goal.loop-r-preserved
loop-r-preserved c = keeping-turns c.requires c.loop-r.invariant c.loop-r-test.true

pub returns : goal.returns
returns c = keeping-ends c.requires c.loop-r.invariant c.loop-r-test.false

-- The turns and ends of `across`, from its invariant.
use Rattle.levels.proofs.Across.{across-turns, across-ends}
use Rattle.levels.proofs.sums.across.Goals as goal

pub loop-r-preserved : goal.loop-r-preserved
loop-r-preserved c = across-turns _ _ _ _ c.loop-r-test.true c.dot.ensures c.loop-r.invariant

pub returns : goal.returns
returns c = across-ends _ _ _ _ c.loop-r-test.false c.loop-r.invariant

-- The goals of `rows_hold` that the search leaves open.
use Rattle.codewords.proofs.Holding.{all_give0, row-pos, rows-turn, rows-fail, rows-end}
use Rattle.codewords.proofs.codeword.rows_hold.Goals as goal

pub returns-then-not-vanishes : goal.returns-then-not-vanishes
unfolding all_give0
returns-then-not-vanishes c =
    rows-fail c.args.plan c.facts_of-facts.ensures _ c.requires c.loop-r.r c.loop-r-test.true c.level_checks-checks.ensures c.vanishes.ensures c.if-not-vanishes.true

pub loop-r-preserved : goal.loop-r-preserved
unfolding all_give0
loop-r-preserved c =
    rows-turn c.args.plan c.facts_of-facts.ensures _ c.requires c.loop-r.r c.loop-r-test.true c.level_checks-checks.ensures c.vanishes.ensures c.if-not-vanishes.false
    c.loop-r.invariant

pub returns : goal.returns
returns c = rows-end c.args.plan c.facts_of-facts.ensures _ c.loop-r-test.false c.loop-r.invariant

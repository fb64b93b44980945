-- The goals of `holds` that the search leaves open.
use native.Mathlib.Omega.{arith}
use Prim.Native.Nat.{◌+◌, ◌<◌}
use lib.ListN.{length}
use Rattle.plans.specs.Plan.{plan_of}
use Rattle.codewords.proofs.Holding.{levels-start, levels-turn, levels-fail, levels-end, holds_not, holds_by}
use Rattle.codewords.proofs.codeword.holds.Goals as goal

pub returns-then-not-rows_hold : goal.returns-then-not-rows_hold
returns-then-not-rows_hold c = holds_not _ _ c.rows_hold.ensures c.if-not-rows_hold.true

pub loop-level-init : goal.loop-level-init
loop-level-init c = levels-start _ _

pub returns-then-not-totals_hold : goal.returns-then-not-totals_hold
returns-then-not-totals_hold c = holds_by _ _ c.rows_hold.ensures c.if-not-rows_hold.false
    (levels-fail _ _ c.loop-level.invariant (omega (arith, c.facts_of-level-end.ensures.levels)) c.totals_hold.ensures c.if-not-totals_hold.true)

pub loop-level-preserved : goal.loop-level-preserved
loop-level-preserved c = levels-turn _ _ c.loop-level.invariant (omega (arith, c.facts_of-level-end.ensures.levels)) c.totals_hold.ensures c.if-not-totals_hold.false

pub returns-else-not-rows_hold : goal.returns-else-not-rows_hold
returns-else-not-rows_hold c =
    holds_by _ _ c.rows_hold.ensures c.if-not-rows_hold.false (levels-end _ _ c.loop-level.invariant (omega (arith, c.facts_of-level-end.ensures.levels)))

pub returns-else-not-totals_hold : goal.returns-else-not-totals_hold
returns-else-not-totals_hold c =
    let more : c.loop-level.level < length (plan_of c.args.plan).levels + 1 = omega (arith, c.facts_of-level-end.ensures.levels) in
    holds_by _ _ c.rows_hold.ensures c.if-not-rows_hold.false
    (levels-end _ _ (levels-turn _ _ c.loop-level.invariant more c.totals_hold.ensures c.if-not-totals_hold.false) (omega (arith, c.facts_of-level-end.ensures.levels)))

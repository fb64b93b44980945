-- The turns and ends of `rounds`, from its invariants.
use mathlib.Core.Path.{refl, sym, ◌∙◌}
use native.Mathlib.Omega.{arith}
use Rattle.rounds.proofs.Rounding.{rounding-starts, walk-ready, level-place, rounded-clash, rounded-top, words-there, learn-ready, rounded-blocked, rounded-failing, rounding-turns}
use Rattle.rounds.proofs.rounds.Goals.{then-level-levels, else-level-levels+in-Blocked}
use Rattle.rounds.proofs.rounds.Goals as goal

pub loop-row-init : goal.loop-row-init
loop-row-init c = rounding-starts _ c.requires refl

pub walk_rows-walk-requires : goal.walk_rows-walk-requires
walk_rows-walk-requires c = walk-ready c.loop-row.invariant

pub returns-in-Some : goal.returns-in-Some
returns-in-Some c = rounded-clash c.loop-row.invariant _ _ _ _ c.walk_rows-walk.ensures c.in-Some.is _ c.bare_report.ensures

pub offset_bounds-restored-level : goal.offset_bounds-restored-level
offset_bounds-restored-level c = let h = level-place c.loop-row.invariant in omega arith

pub bounds-restored-level : goal.bounds-restored-level
bounds-restored-level c = level-place c.loop-row.invariant

pub learn-requires : goal.learn-requires
learn-requires c =
    learn-ready c.loop-row.invariant _ _ _ c.walk_rows-walk.ensures c.in_default.is (λ e. c.if-level-levels.false (e ∙ sym c.facts_of-levels.ensures.levels))

pub returns-in-Failing : goal.returns-in-Failing
returns-in-Failing c =
    let l = c.learn.ensures in
    rounded-failing c.loop-row.invariant _ _ _ c.walk_rows-walk.ensures c.in_default.is (λ e. c.if-level-levels.false (e ∙ sym c.facts_of-levels.ensures.levels))
    (l.value, l.sums_after) c.in-Failing.is _ c.bare_report-in-Failing.ensures

pub loop-row-preserved : goal.loop-row-preserved
loop-row-preserved c =
    let l = c.learn.ensures in
    rounding-turns c.loop-row.invariant _ _ _ c.walk_rows-walk.ensures c.in_default.is (λ e. c.if-level-levels.false (e ∙ sym c.facts_of-levels.ensures.levels))
    (l.value, l.sums_after) c.in-Learned.is

pub end_report-requires : goal.end_report-requires
end_report-requires c = words-there c.loop-row.invariant _ _ _ c.walk_rows-walk.ensures c.in_default.is

pub returns : goal.returns
returns c =
    let R = c.loop-row.invariant in
    let w = c.walk_rows-walk.ensures in
    let passed = c.in_default.is in
    elim c.if-level-levels.branch [
      | then-level-levels v ↦ rounded-top R _ _ _ w passed (v.if-level-levels.true ∙ c.facts_of-levels.ensures.levels) _ c.end_report.ensures
      | else-level-levels+in-Blocked v ↦
          let l = v.learn.ensures in
          rounded-blocked R _ _ _ w passed (λ e. v.if-level-levels.false (e ∙ sym c.facts_of-levels.ensures.levels)) (l.value, l.sums_after) v.in-Blocked.is _ c.end_report.ensures
    ]

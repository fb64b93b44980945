-- The turns and ends of `walk_rows`, from its invariants.
use mathlib.Core.Path.{◌∙◌}
use native.Mathlib.Nat.{lt_of_lt_of_le}
use native.Mathlib.Decide.{ℕ_discrete}
use native.Mathlib.Omega.{arith}
use Rattle.plans.proofs.Plans.{rows-most}
use Rattle.plans.proofs.Tables.{sums-most}
use Rattle.steps.proofs.Fit.{fit-sums}
use Rattle.walks.proofs.Walking.{tested-first, tested-later, tested-within, here, walking_start, walking-tested, answered-tied, answered-one, walked-failed, answered-none, walked_end}
use Rattle.walks.proofs.walk_rows.Goals.{then-word-eq0+else-loop-j-test, else-word-eq0+in-Tied, else-word-eq0+in-One}
use Rattle.walks.proofs.walk_rows.Goals as goal

pub loop-row-init : goal.loop-row-init
loop-row-init c = (
  elim (ℕ_discrete c.args.level 1) [
    | yes first ↦ tested-first _ first (grind arith)
    | no later ↦ tested-later _ later (grind arith)
  ],
  walking_start _ c.requires,
)

pub overflow_add-row : goal.overflow_add-row
overflow_add-row c =
    let high = c.facts_of-rows.ensures.rows in
    let inside = rw high at c.loop-row-test.true in
    omega (arith, inside, rows-most c.args.plan, c.loop-j-test.true, tested-within c.loop-row.invariant.1 inside c.loop-row.invariant.0, sums-most c.args.plan c.args.level)

pub bounds-sums-row : goal.bounds-sums-row
bounds-sums-row c =
    let high = c.facts_of-rows.ensures.rows in
    let inside = rw high at c.loop-row-test.true in
    omega (arith, inside, rows-most c.args.plan, c.loop-j-test.true, tested-within c.loop-row.invariant.1 inside c.loop-row.invariant.0, sums-most c.args.plan c.args.level)

pub fill_row-requires : goal.fill_row-requires
fill_row-requires c =
    let w = c.loop-row.invariant.1 in
    let inside = here w (rw c.facts_of-rows.ensures.rows at c.loop-row-test.true) in
    rw (← w.plan, ← w.level)
    record {
      inside = inside;
      marks = w.sound.fit.mark-lt _ inside;
      small = fit-sums _ _ _ w.sound.fit.sums-fits;
      symbols = w.sound.room.stripe.size;
      sums = w.sound.room.learned;
    }

pub loop-row-preserved : goal.loop-row-preserved
loop-row-preserved c =
    let tested = c.loop-row.invariant.0 in
    let w = c.loop-row.invariant.1 in
    let inside = rw c.facts_of-rows.ensures.rows at c.loop-row-test.true in (
      tested,
      elim c.if-word-eq0.branch [
        | then-word-eq0+else-loop-j-test v ↦ rw (v.symbols-is, v.marks-is, v.filled-is) (walking-tested w inside tested v.if-word-eq0.true (λ i l. v.loop-j.invariant i (lt_of_lt_of_le l v.loop-j-test.false)))
        | else-word-eq0+in-Tied v ↦ rw (v.symbols-is, v.marks-is, v.filled-is) (answered-tied w inside v.fill_row.ensures.value v.fill_row.ensures.symbols_after v.in-Tied.is)
        | else-word-eq0+in-One v ↦ rw (v.symbols-is, v.marks-is, v.filled-is) (answered-one w inside v.fill_row.ensures.value v.fill_row.ensures.symbols_after v.if-word-eq0.false v.in-One.is)
      ],
    )

pub returns-then-check_sum-sums : goal.returns-then-check_sum-sums
returns-then-check_sum-sums c =
    let w = c.loop-row.invariant.1 in
    let inside = rw c.facts_of-rows.ensures.rows at c.loop-row-test.true in
    walked-failed w inside c.if-word-eq0.true _ (lt_of_lt_of_le c.loop-j-test.true (tested-within w inside c.loop-row.invariant.0)) (λ e. c.if-check_sum-sums.true (c.check_sum.ensures ∙ e))

pub returns-in-None : goal.returns-in-None
returns-in-None c =
    answered-none c.loop-row.invariant.1 (rw c.facts_of-rows.ensures.rows at c.loop-row-test.true) c.fill_row.ensures.value c.fill_row.ensures.symbols_after c.in-None.is

pub returns-after-loop-row : goal.returns-after-loop-row
returns-after-loop-row c =
    let high = c.facts_of-rows.ensures.rows in
    walked_end c.loop-row.invariant.1 (rw high at c.loop-row-test.false) (rw high at c.loop-row.auto.row-end)

-- What is refused is refused of the bench as it came; else the row's fill answers. Only where it is one are symbols and marks changed.
-- Assumes nothing.
use native.Mathlib.Nat.{le_trans}
use native.Mathlib.Omega.{arith}
use Rattle.std.proofs.lemmas.Result.{err_from_is_err_and}
use Rattle.plans.specs.Answers.{numbered}
use Rattle.plans.specs.Plan.{plan_of, marks_at}
use Rattle.plans.proofs.Plans.{rows-most}
use Rattle.plans.proofs.Rows.{row-end}
use Rattle.steps.specs.Steps.{row_fill}
use Rattle.steps.proofs.Fit.{fit-sums}
use Rattle.rows.proofs.Stepping.{row-refused, row_fits, step-tied, step-none, step-whole, step-filled}
use Rattle.rows.proofs.step_row.Goals as goal

pub returns-in_err-bench_refusal : goal.returns-in_err-bench_refusal
unfolding numbered
returns-in_err-bench_refusal c =
    let p = err_from_is_err_and c.from_residual.result c.from_residual.ensures.1 in
    rw (p.1, p.2) (row-refused _ _ c.facts_of-facts.ensures.rows _ c.in_err-bench_refusal.ensures)

pub offset_bounds-marks-row : goal.offset_bounds-marks-row
offset_bounds-marks-row c =
    omega (arith, (row_fits _ _ c.facts_of-facts.ensures.rows c.in_ok-bench_refusal.ensures).1, rows-most c.args.plan)

pub bounds-marks-row : goal.bounds-marks-row
bounds-marks-row c = omega (arith, (row_fits _ _ c.facts_of-facts.ensures.rows c.in_ok-bench_refusal.ensures).1, c.requires.stripe.rows)

pub fill_row-requires : goal.fill_row-requires
fill_row-requires c =
    let f = row_fits _ _ c.facts_of-facts.ensures.rows c.in_ok-bench_refusal.ensures in
    record {
      inside = f.1;
      marks = f.0.mark-lt _ f.1;
      small = fit-sums _ _ _ f.0.sums-fits;
      symbols = c.requires.stripe.size;
      sums = c.requires.learned;
    }

pub offset_bounds-marks-row-in-One : goal.offset_bounds-marks-row-in-One
offset_bounds-marks-row-in-One c =
    omega (arith, (row_fits _ _ c.facts_of-facts.ensures.rows c.in_ok-bench_refusal.ensures).1, rows-most c.args.plan)

pub bounds-marks-row-in-One : goal.bounds-marks-row-in-One
bounds-marks-row-in-One c = omega (arith, (row_fits _ _ c.facts_of-facts.ensures.rows c.in_ok-bench_refusal.ensures).1, c.requires.stripe.rows)

pub returns-in-None : goal.returns-in-None
unfolding numbered row_fill marks_at
returns-in-None c =
    let high = c.facts_of-facts.ensures.rows in
    let fit = c.in_ok-bench_refusal.ensures in
    step-none _ _ high fit c.fill_row.ensures.value c.fill_row.ensures.symbols_after
    (le_trans (row-end (plan_of c.args.plan).columns (row_fits _ _ high fit).1) c.requires.stripe.size) c.in-None.is

pub returns-in-Tied : goal.returns-in-Tied
unfolding numbered row_fill marks_at
returns-in-Tied c =
    let high = c.facts_of-facts.ensures.rows in
    let fit = c.in_ok-bench_refusal.ensures in
    step-tied _ _ high fit c.fill_row.ensures.value c.fill_row.ensures.symbols_after
    (le_trans (row-end (plan_of c.args.plan).columns (row_fits _ _ high fit).1) c.requires.stripe.size) c.in-Tied.is

pub returns-then-word-eq0 : goal.returns-then-word-eq0
unfolding numbered row_fill marks_at
returns-then-word-eq0 c =
    step-whole _ _ c.facts_of-facts.ensures.rows c.in_ok-bench_refusal.ensures c.fill_row.ensures.value c.fill_row.ensures.symbols_after c.in-One.is
    c.if-word-eq0.true

pub returns-else-word-eq0 : goal.returns-else-word-eq0
unfolding numbered row_fill marks_at
returns-else-word-eq0 c =
    step-filled _ _ c.facts_of-facts.ensures.rows c.in_ok-bench_refusal.ensures c.fill_row.ensures.value c.fill_row.ensures.symbols_after c.in-One.is
    c.if-word-eq0.false

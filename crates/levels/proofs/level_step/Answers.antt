-- `level_step`: what is refused, and the last level, leave the bench as it came; so does a level that is not learned, and one that is
-- learned is raised. Assumes nothing.
use native.Mathlib.Omega.{arith}
use Rattle.std.proofs.lemmas.Result.{err_from_is_err_and}
use Rattle.plans.specs.Answers.{numbered}
use Rattle.plans.specs.Refusal.{unasked}
use Rattle.steps.proofs.Fit.{sized-room}
use Rattle.levels.proofs.Rising.{learns-failed, learns-stuck, learns-raised, step-refused, step-top, step-failing, step-blocked, step-raised}
use Rattle.levels.proofs.level_step.Goals as goal

pub bench_refusal-requires : goal.bench_refusal-requires
bench_refusal-requires c = sized-room c.args.bench.now (record { symbols = omega arith; marks = omega arith; sums = omega arith })

pub returns-in_err-bench_refusal : goal.returns-in_err-bench_refusal
unfolding numbered unasked
returns-in_err-bench_refusal c =
    let p = err_from_is_err_and c.from_residual.result c.from_residual.ensures.1 in rw (p.1, p.2) (step-refused _ _ c.in_err-bench_refusal.ensures)

pub returns-then-facts-bench : goal.returns-then-facts-bench
unfolding numbered unasked
returns-then-facts-bench c = step-top _ c.in_ok-bench_refusal.ensures (rw c.facts_of-facts.ensures.levels at c.if-facts-bench.true)

pub learn-learning-requires : goal.learn-learning-requires
learn-learning-requires c = record {
  level = rw c.facts_of-facts.ensures.levels at c.if-facts-bench.false;
  room = sized-room c.args.bench.now (record { symbols = omega arith; marks = omega arith; sums = omega arith });
}

pub returns-in-Failing : goal.returns-in-Failing
unfolding numbered unasked
returns-in-Failing c =
    let e = c.learn-learning.ensures in
    let low = rw c.facts_of-facts.ensures.levels at c.if-facts-bench.false in
    step-failing _ c.in_ok-bench_refusal.ensures low (learns-failed c.args.bench.now (e.value, e.sums_after) c.in-Failing.is) c.in-Failing.is

pub returns-in-Blocked : goal.returns-in-Blocked
unfolding numbered unasked
returns-in-Blocked c =
    let e = c.learn-learning.ensures in
    let low = rw c.facts_of-facts.ensures.levels at c.if-facts-bench.false in
    step-blocked _ c.in_ok-bench_refusal.ensures low (learns-stuck c.args.bench.now (e.value, e.sums_after) c.in-Blocked.is) c.in-Blocked.is

pub returns-in-Learned : goal.returns-in-Learned
unfolding numbered unasked
returns-in-Learned c =
    let e = c.learn-learning.ensures in
    let low = rw c.facts_of-facts.ensures.levels at c.if-facts-bench.false in
    step-raised _ c.in_ok-bench_refusal.ensures low (learns-raised c.args.bench.now (e.value, e.sums_after) c.in-Learned.is) c.in-Learned.is

-- A buffer of another size is 11; else the step is made on the bench in it, and its bench put back. Assumes nothing.
use Rattle.plans.specs.Answers.{refusal_number, numbered}
use Rattle.steps.specs.Steps.{stepped}
use Rattle.shelf.proofs.Benches.{steps-unfit, steps-fit}
use Rattle.shelf.proofs.Fitting.{level-small}
use Rattle.shelf.proofs.shelf_level_step.Goals as goal

pub returns-then-bench-ne-BENCH : goal.returns-then-bench-ne-BENCH
unfolding refusal_number
returns-then-bench-ne-BENCH c =
    let h = steps-unfit _ _ c.if-bench-ne-BENCH.true c.number.ensures in record { value = h.0; bench_after = h.1 }

pub put_bench-requires : goal.put_bench-requires
put_bench-requires c = record { small = level-small _ (numbered c.level_step-step.result) c.bench_in-stepped.ensures.small c.level_step-step.ensures; fits = c.if-bench-ne-BENCH.false }

pub returns : goal.returns
unfolding stepped
returns c =
    let e = c.bench_in-stepped.ensures.value in
    let h = steps-fit _ _ _ _ c.if-bench-ne-BENCH.false e c.level_step-step.ensures c.number-2.ensures c.put_bench.ensures in
    record { value = h.0; bench_after = h.1 }

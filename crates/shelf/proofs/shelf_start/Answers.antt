-- By the size of the buffer: the started bench is put over the whole of it. Assumes nothing.
use mathlib.Core.Path.{◌∙◌}
use Rattle.plans.specs.Answers.{numbered}
use Rattle.steps.specs.Steps.{stepped}
use Rattle.shelf.proofs.Benches.{starts-unfit, starts_fit}
use Rattle.shelf.proofs.Fitting.{start_small}
use Rattle.shelf.proofs.shelf_start.Goals as goal

pub returns-then-bench-ne-BENCH : goal.returns-then-bench-ne-BENCH
returns-then-bench-ne-BENCH c =
    let h = starts-unfit _ _ _ _ c.if-bench-ne-BENCH.true (c.number.ensures ∙ c.unfit.ensures) in record { value = h.0; bench_after = h.1 }

pub put_bench-requires : goal.put_bench-requires
put_bench-requires c = record { small = start_small _ _ _ (numbered c.start-told.result) c.start-told.ensures; fits = c.if-bench-ne-BENCH.false }

pub returns : goal.returns
unfolding stepped
returns c =
    let h = starts_fit _ _ _ _ _ c.if-bench-ne-BENCH.false c.start-told.ensures c.number-2.ensures c.put_bench.ensures in
    record { value = h.0; bench_after = h.1 }

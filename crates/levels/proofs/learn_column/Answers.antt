-- `learn_column`: the rows' sums under the check, filled by the weights of the next level, are the definition's. Assumes nothing.
use mathlib.Core.Path.{sym}
use mathlib.Core.List.{[]}
use native.Mathlib.Omega.{arith}
use Rattle.steps.specs.Parts.{bench_of}
use Rattle.tables.proofs.Numbers.{weighing}
use Rattle.levels.proofs.Columns.{few-totals, target-length, check-place, across-fits, column_fits, column-filled}
use Rattle.levels.proofs.learn_column.Goals as goal

pub overflow_mul-start : goal.overflow_mul-start
overflow_mul-start c = omega (arith, check-place _ (weighing _ _ c.facts_of-facts.ensures c.weights-weights.ensures c.totals-totals.ensures) c.checks-checks.ensures c.requires.ready)

pub overflow_add-end : goal.overflow_add-end
overflow_add-end c = omega (arith, check-place _ (weighing _ _ c.facts_of-facts.ensures c.weights-weights.ensures c.totals-totals.ensures) c.checks-checks.ensures c.requires.ready)

pub slice_bounds-across-end : goal.slice_bounds-across-end
slice_bounds-across-end c = check-place _ (weighing _ _ c.facts_of-facts.ensures c.weights-weights.ensures c.totals-totals.ensures) c.checks-checks.ensures c.requires.ready

pub across-requires : goal.across-requires
across-requires c =
    omega (arith, across-fits _ (weighing _ _ c.facts_of-facts.ensures c.weights-weights.ensures c.totals-totals.ensures) c.checks-checks.ensures c.requires.ready c.requires.symbols)

pub slice_bounds-target-end : goal.slice_bounds-target-end
slice_bounds-target-end c = few-totals (bench_of c.args.plan c.args.level c.args.symbols.now [] []) (weighing _ _ c.facts_of-facts.ensures c.weights-weights.ensures c.totals-totals.ensures)

pub slice_bounds-fill-end : goal.slice_bounds-fill-end
slice_bounds-fill-end c = sym (target-length (bench_of c.args.plan c.args.level c.args.symbols.now [] []) (weighing _ _ c.facts_of-facts.ensures c.weights-weights.ensures c.totals-totals.ensures))

pub fill-requires : goal.fill-requires
fill-requires c = column_fits _ (weighing _ _ c.facts_of-facts.ensures c.weights-weights.ensures c.totals-totals.ensures) c.checks-checks.ensures c.requires.ready c.across.ensures

pub returns : goal.returns
returns c =
    let e = column-filled _ (weighing _ _ c.facts_of-facts.ensures c.weights-weights.ensures c.totals-totals.ensures) c.checks-checks.ensures c.requires.ready c.across.ensures (c.fill.ensures.value, c.fill.ensures.v_after) in
    record { value = e.0; column_after = e.1 }

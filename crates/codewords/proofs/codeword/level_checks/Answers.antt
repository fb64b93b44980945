-- The goals of `level_checks` that the search leaves open.
use mathlib.Core.Path.{sym}
use Prim.Native.Nat.{◌-◌}
use native.Mathlib.Nat.{mul-le-mul, le_refl}
use native.Mathlib.Omega.{arith}
use Rattle.plans.proofs.Sizes.{checks-room}
use Rattle.codewords.proofs.Holding.{sums-fit, level-checks, checks-order}
use Rattle.codewords.proofs.codeword.level_checks.Goals as goal

pub overflow_mul-first : goal.overflow_mul-first
overflow_mul-first c = omega (arith, rw (sym c.sums_to.ensures, sym c.facts_of-columns.ensures.columns) at (sums-fit c.args.plan (c.args.level - 1)))

pub overflow_mul-last : goal.overflow_mul-last
overflow_mul-last c = omega (arith, rw (sym c.sums_to-2.ensures, sym c.facts_of-columns.ensures.columns) at (sums-fit c.args.plan c.args.level))

pub slice_bounds-result-count : goal.slice_bounds-result-count
slice_bounds-result-count c = rw (c.sums_to.ensures, c.sums_to-2.ensures) (mul-le-mul (checks-order c.args.plan c.requires) (le_refl _))

pub slice_bounds-result-start : goal.slice_bounds-result-start
slice_bounds-result-start c = rw (c.sums_to.ensures, c.sums_to-2.ensures) (mul-le-mul (checks-order c.args.plan c.requires) (le_refl _))

pub slice_bounds-result-end : goal.slice_bounds-result-end
slice_bounds-result-end c = rw (c.sums_to-2.ensures, c.facts_of-columns.ensures.columns, c.checks.ensures) (checks-room c.args.plan c.args.level)

pub returns : goal.returns
returns c = rw (c.sums_to.ensures, c.sums_to-2.ensures, c.facts_of-columns.ensures.columns, c.checks.ensures) (level-checks c.args.plan c.requires)

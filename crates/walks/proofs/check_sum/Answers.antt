-- `check_sum`: the check and the row are parts of the table and of the symbols, and their dot product is the row's sum. Assumes nothing.
use mathlib.Core.Path.{◌∙◌}
use native.Mathlib.Omega.{arith}
use Rattle.walks.proofs.Checks.{check-place, row-place, sum-of-parts}
use Rattle.walks.proofs.check_sum.Goals as goal

pub overflow_mul-first : goal.overflow_mul-first
overflow_mul-first c = omega (arith, check-place _ _ c.facts_of-facts.ensures c.checks-checks.ensures c.requires.below)

pub overflow_add-last : goal.overflow_add-last
overflow_add-last c = omega (arith, check-place _ _ c.facts_of-facts.ensures c.checks-checks.ensures c.requires.below)

pub slice_bounds-dot-end : goal.slice_bounds-dot-end
slice_bounds-dot-end c = check-place _ _ c.facts_of-facts.ensures c.checks-checks.ensures c.requires.below

pub slice_bounds-dot-end-2 : goal.slice_bounds-dot-end-2
slice_bounds-dot-end-2 c = row-place c.args.plan c.args.level c.facts_of-facts.ensures c.checks-checks.ensures _ c.requires.room c.requires.inside

pub returns : goal.returns
returns c = c.dot.ensures ∙ sum-of-parts _ _ c.facts_of-facts.ensures c.checks-checks.ensures _ c.args.row c.requires.below

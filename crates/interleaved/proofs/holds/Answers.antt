-- The rows are tested, then power sums 2 on of their plain sum and of their weighted sum: those before are 0 where the rows' are. Assumes nothing.
use mathlib.Core.Path.{sym}
use native.Mathlib.Nat.{le_of_eq}
use lib.Dec.{lit≤}
use Rattle.plans.specs.Plan.{plan3, plan_of}
use Rattle.interleaved.proofs.Testing.{checks-length, weights-length, plain-tested, weighted-tested, rows-not, plain-not, holds_by}
use Rattle.std.proofs.Common.{rules}
use Rattle.interleaved.proofs.holds.Goals as goal

pub rows_hold-requires : goal.rows_hold-requires
unfolding plan3 plan_of
rows_hold-requires c = le_of_eq (sym c.requires)

pub returns-then-not-rows_hold : goal.returns-then-not-rows_hold
returns-then-not-rows_hold c = rows-not c.args.stripe.now c.rows_hold.ensures c.if-not-rows_hold.true

pub slice_bounds-plain-end : goal.slice_bounds-plain-end
slice_bounds-plain-end c = rw (c.checks-checks.ensures, checks-length) (lit≤ tt)

pub returns-then-not-vanishes : goal.returns-then-not-vanishes
returns-then-not-vanishes c = plain-not c.args.stripe.now c.rows_hold.ensures c.if-not-rows_hold.false
    (plain-tested c.args.stripe.now c.checks-checks.ensures c.plain_sum-sum.ensures (search rules) c.vanishes.ensures) c.if-not-vanishes.true

pub slice_bounds-check-end : goal.slice_bounds-check-end
slice_bounds-check-end c = rw (c.checks-checks.ensures, checks-length) (lit≤ tt)

pub slice_bounds-weighted_total-end : goal.slice_bounds-weighted_total-end
slice_bounds-weighted_total-end c = rw (c.weights-weights.ensures, weights-length) (lit≤ tt)

pub returns : goal.returns
returns c = holds_by c.args.stripe.now c.rows_hold.ensures c.if-not-rows_hold.false
    (plain-tested c.args.stripe.now c.checks-checks.ensures c.plain_sum-sum.ensures (search rules) c.vanishes.ensures) c.if-not-vanishes.false
    (weighted-tested c.args.stripe.now c.checks-checks.ensures c.weights-weights.ensures c.weighted_total.ensures)

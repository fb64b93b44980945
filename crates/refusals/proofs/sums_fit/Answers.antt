-- The turns and ends of `sums_fit`, from its invariants.
use mathlib.Core.Path.{refl, sym, ap, ◌∙◌}
use native.Mathlib.Omega.{arith}
use lib.Dec.{lit<}
use lib.ListN.{length-append}
use lib.Seq.{length-take-le}
use Rattle.std.specs.Slice.Iter.{chunks_size, chunks_rest}
use Rattle.field.proofs.Ring.{size-pos}
use Rattle.plans.specs.Refusal.{sums_fit}
use Rattle.plans.proofs.Chunks.{walk-starts, walk-row, walk-turns, walk-stops, walk-ends}
use Rattle.plans.proofs.Tables.{sums-most}
use Rattle.tables.proofs.Numbers.{size-is}
use Rattle.refusals.proofs.Fits.{sums-below, sums-test}
use Rattle.refusals.proofs.sums_fit.Goals as goal

pub all_below-requires : goal.all_below-requires
all_below-requires c = rw c.size-q.ensures (size-pos _)

pub returns-then-all_below : goal.returns-then-all_below
returns-then-all_below c = sym
    (sums-below c.args.plan c.args.level c.args.sums.now c.requires
    (rw (← size-is c.facts_of-facts.ensures c.size-q.ensures) (sym c.all_below.ensures ∙ c.if-all_below.true)))

pub loop-row-init : goal.loop-row-init
loop-row-init c =
    let it = c.into_iter-row-iterator.ensures.into_iter_gives in
    walk-starts c.requires (ap chunks_size it ∙ c.chunks-row-items.ensures.size)
    (ap chunks_rest it ∙ c.chunks-row-items.ensures.rest ∙ rw c.facts_of-facts.ensures.rows refl)

pub slice_bounds-all_below-end : goal.slice_bounds-all_below-end
slice_bounds-all_below-end c =
    let row = walk-row c.loop-row.invariant c.next.new.self c.in-Some.row c.in-Some.ensures.steps in
    sym (length-take-le c.sums_to-count.result c.in-Some.row.now (omega (arith, row.long, sums-most c.args.plan c.args.level, c.sums_to-count.ensures)))

pub all_below-requires-in-loop-row : goal.all_below-requires-in-loop-row
all_below-requires-in-loop-row c = rw c.size-q.ensures (size-pos _)

pub returns-then-not-all_below : goal.returns-then-not-all_below
unfolding sums_fit
returns-then-not-all_below c = sym (
    walk-stops c.loop-row.invariant c.next.new.self c.in-Some.row c.in-Some.ensures.steps (λ is.
    sym (sums-test c.args.plan c.args.level c.args.sums.now (size-is c.facts_of-facts.ensures c.size-q.ensures) c.sums_to-count.ensures is)
    ∙ sym c.all_below-in-loop-row.ensures ∙ c.if-not-all_below.true))

pub loop-row-preserved : goal.loop-row-preserved
loop-row-preserved c = rw length-append
    (walk-turns c.loop-row.invariant c.next.new.self c.in-Some.row c.in-Some.ensures.steps (λ is.
    sym (sums-test c.args.plan c.args.level c.args.sums.now (size-is c.facts_of-facts.ensures c.size-q.ensures) c.sums_to-count.ensures is)
    ∙ sym c.all_below-in-loop-row.ensures ∙ c.if-not-all_below.false))

pub returns : goal.returns
unfolding sums_fit
returns c = sym (walk-ends c.loop-row.invariant c.next.new.self (lit< tt) c.in-None.ensures.steps)

-- The turns and ends of `symbols_fit`, from its invariants.
use mathlib.Core.Path.{refl, sym, ap, ◌∙◌}
use mathlib.Core.Logic.{inl, inr}
use native.Mathlib.Omega.{arith}
use lib.ListN.{length, take, length-append, length-drop}
use lib.Seq.{length-take-le}
use Rattle.std.specs.Iterator.Adapters.{zip_first, zip_second}
use Rattle.std.specs.Slice.Iter.{iter_rest, chunks_size, chunks_rest}
use Rattle.field.proofs.Ring.{size-pos}
use Rattle.plans.specs.Plan.{plan_of}
use Rattle.plans.specs.Refusal.{symbols_fit}
use Rattle.plans.proofs.Chunks.{front-turn, walk-starts, walk-row, walk-turns, walk-stops, walk-ends}
use Rattle.plans.proofs.Plans.{columns-most}
use Rattle.plans.proofs.Scan.{passing-all}
use Rattle.tables.proofs.Numbers.{size-is}
use Rattle.refusals.proofs.Fits.{symbols-below, some-columns, row-test}
use Rattle.refusals.proofs.symbols_fit.Goals as goal

pub all_below-requires : goal.all_below-requires
all_below-requires c = rw c.size-q.ensures (size-pos _)

pub returns-then-all_below : goal.returns-then-all_below
returns-then-all_below c = let f = c.facts_of-facts.ensures in
    sym
    (symbols-below _ c.args.marks.now c.args.symbols.now c.requires.size
    (rw (← size-is f c.size-q.ensures, ← f.symbols) (sym c.all_below.ensures ∙ c.if-all_below.true)))

pub chunks-requires : goal.chunks-requires
chunks-requires c = some-columns c.facts_of-facts.ensures c.size-q.result c.args.symbols.now (sym c.all_below.ensures ∙ c.if-all_below.false)

pub loop-word-init-derived : goal.loop-word-init-derived
loop-word-init-derived c =
    let rows = ap zip_second c.into_iter-word-iterator.ensures.into_iter_gives ∙ c.zip-word-items.ensures.second in
    let wide = ap chunks_size rows ∙ c.chunks.ensures.size in
    ((tt, rw wide (some-columns c.facts_of-facts.ensures c.size-q.result c.args.symbols.now (sym c.all_below.ensures ∙ c.if-all_below.false))), tt)

pub loop-word-init : goal.loop-word-init
loop-word-init c = let f = c.facts_of-facts.ensures in
    let it = c.into_iter-word-iterator.ensures.into_iter_gives in
    let rows = ap zip_second it ∙ c.zip-word-items.ensures.second in
    record {
      rows = walk-starts c.requires.size (ap chunks_size rows ∙ c.chunks.ensures.size ∙ f.columns) (ap chunks_rest rows ∙ c.chunks.ensures.rest ∙ rw f.symbols refl);
      words = ap (λ z. iter_rest (zip_first z)) it ∙ ap iter_rest c.zip-word-items.ensures.first ∙ c.iter.ensures.rest ∙ rw f.rows refl;
    }

pub row_fits-requires : goal.row_fits-requires
row_fits-requires c = rw (walk-row c.loop-word.invariant.rows c.next.new.self.b c.in-Some.row c.in-Some.ensures.steps.1).long (columns-most c.args.plan)

pub returns-then-not-row_fits : goal.returns-then-not-row_fits
unfolding symbols_fit
returns-then-not-row_fits c = let steps = c.in-Some.ensures.steps in
    let front = front-turn (length c.loop-word.yielded) (take (plan_of c.args.plan).rows c.args.marks.now) c.loop-word.invariant.words steps.0 in
    sym
    (walk-stops c.loop-word.invariant.rows c.next.new.self.b c.in-Some.row steps.1 (λ is.
    sym (row-test _ c.args.marks.now c.args.symbols.now c.requires.size (size-is c.facts_of-facts.ensures c.size-q.ensures) front.0 is)
    ∙ sym c.row_fits.ensures ∙ c.if-not-row_fits.true))

pub loop-word-preserved : goal.loop-word-preserved
loop-word-preserved c = let steps = c.in-Some.ensures.steps in
    let front = front-turn (length c.loop-word.yielded) (take (plan_of c.args.plan).rows c.args.marks.now) c.loop-word.invariant.words steps.0 in
    record {
      rows = rw length-append
          (walk-turns c.loop-word.invariant.rows c.next.new.self.b c.in-Some.row steps.1 (λ is.
          sym (row-test _ c.args.marks.now c.args.symbols.now c.requires.size (size-is c.facts_of-facts.ensures c.size-q.ensures) front.0 is)
          ∙ sym c.row_fits.ensures ∙ c.if-not-row_fits.false));
      words = rw length-append front.1;
    }

pub returns : goal.returns
unfolding symbols_fit
returns c = let f = c.facts_of-facts.ensures in
    let some = some-columns f c.size-q.result c.args.symbols.now (sym c.all_below.ensures ∙ c.if-all_below.false) in
    sym
    (elim c.in-None.ensures.steps [
      | inl no-word ↦ passing-all c.loop-word.invariant.rows.passed (omega (arith, no-word.1.0, ap length c.loop-word.invariant.words, length-drop (length c.loop-word.yielded) (take (plan_of c.args.plan).rows c.args.marks.now), length-take-le (plan_of c.args.plan).rows c.args.marks.now c.requires.rows))
      | inr no-row ↦ walk-ends c.loop-word.invariant.rows no-row.0 (rw f.columns at some) no-row.1
    ])

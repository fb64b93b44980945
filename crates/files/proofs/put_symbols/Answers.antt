-- The goals of `put_symbols` that the search leaves open.
use mathlib.Core.Path.{◌≡◌, refl, sym, ap, ◌∙◌}
use mathlib.Core.Logic.{inl, inr}
use Prim.Native.Nat.{◌*◌, ◌≤◌}
use native.Mathlib.Nat.{le_of_eq}
use native.Mathlib.Omega.{arith}
use lib.ListN.{length, length-append, length-drop}
use Rattle.std.specs.Iterator.Adapters.{zip_first, zip_second}
use Rattle.std.specs.Slice.Iter.{iter_rest, chunks_size, chunks_rest}
use Rattle.plans.specs.Plan.{plan_of}
use Rattle.plans.proofs.Plans.{shape}
use Rattle.plans.proofs.Rows.{row-end}
use Rattle.plans.proofs.Chunks.{front-turn, walk-starts, walk-row, walk-turns, walk-over}
use Rattle.files.proofs.Stripes.{columns-pos, length-kept, blanked-rows, blanked-turn, all-symbols}
use Rattle.words.proofs.Writing.{joining-starts, joining-length, counting-turns, counting-ends, put_is}
use Rattle.files.proofs.put_symbols.Goals as goal

pub chunks-requires : goal.chunks-requires
chunks-requires c = rw c.facts_of-columns.ensures.columns (columns-pos _ c.requires.sized.plan-known)

pub loop-word-init-derived : goal.loop-word-init-derived
loop-word-init-derived c =
    let wide = ap chunks_size (ap zip_second c.into_iter-word-iterator.ensures.into_iter_gives ∙ c.zip-word-items.ensures.second) ∙ c.chunks.ensures.size in
    ((tt, rw (wide, c.facts_of-columns.ensures.columns) (columns-pos _ c.requires.sized.plan-known)), tt)

pub loop-word-init : goal.loop-word-init
loop-word-init c =
    let it = c.into_iter-word-iterator.ensures.into_iter_gives in
    let rows = ap zip_second it ∙ c.zip-word-items.ensures.second in
    record {
      rows =
          walk-starts (le_of_eq (sym c.requires.sized.long)) (ap chunks_size rows ∙ c.chunks.ensures.size ∙ c.facts_of-columns.ensures.columns)
          (ap chunks_rest rows ∙ c.chunks.ensures.rest ∙ all-symbols c.requires.sized);
      words = ap (λ z. iter_rest (zip_first z)) it ∙ ap iter_rest c.zip-word-items.ensures.first ∙ c.iter.ensures.rest;
      place = omega arith;
      begun = joining-starts _ _ _ _;
    }

pub put_row-next-requires : goal.put_row-next-requires
put_row-next-requires c =
    let l = c.loop-word in
    let ask = c.requires in
    let is = walk-row l.invariant.rows c.next.new.self.b c.in-Some.row c.in-Some.ensures.steps.1 in
    record {
      narrow = omega (arith, is.long, shape _ ask.sized.plan-known);
      room = omega (arith, is.long, row-end (plan_of c.args.plan).columns is.more, ask.sized.long, ask.room, l.invariant.place, joining-length _ _ _ _ l.invariant.begun);
    }

pub loop-word-preserved : goal.loop-word-preserved
loop-word-preserved c =
    let l = c.loop-word in
    let steps = c.in-Some.ensures.steps in
    let is = walk-row l.invariant.rows c.next.new.self.b c.in-Some.row steps.1 in
    let front = front-turn (length l.yielded) c.args.marks.now l.invariant.words steps.0 in
    let put = c.put_row-next.ensures in
    record {
      rows = rw length-append (walk-turns l.invariant.rows c.next.new.self.b c.in-Some.row steps.1 (λ is. refl));
      words = rw length-append front.1;
      place = rw length-append (omega (arith, simp length-kept at put.reached, is.long, l.invariant.place));
      begun = rw length-append
          (counting-turns _ _ _ _ l.invariant.begun is.more (blanked-turn _ c.args.marks.now c.args.stripe.now is front.0) put.written put.reached);
    }

pub returns : goal.returns
returns c =
    let ask = c.requires in
    let l = c.loop-word in
    let P = plan_of c.args.plan in
    let all : P.rows ≤ length l.yielded = elim c.in-None.ensures.steps [
      | inl no-word ↦ omega (arith, no-word.1.0, ap length l.invariant.words, length-drop (length l.yielded) c.args.marks.now, ask.sized.words)
      | inr no-row ↦ walk-over l.invariant.rows no-row.0 (columns-pos _ ask.sized.plan-known) no-row.1
    ] in
    let passed : length l.yielded ≡ P.rows = omega (arith, all, l.invariant.rows.passed.within) in
    put_is (blanked-rows P c.args.marks.now c.args.stripe.now) (counting-ends _ _ _ _ l.invariant.begun all
    (omega (arith, l.invariant.place, ap (λ r. r * P.columns) passed, ask.sized.long, ask.room)))

-- The turns and ends of `learn`, from its invariant.
use Prim.Native.Nat.{ℕ, ◌*◌, ◌≤◌}
use mathlib.Core.Path.{◌≡◌, sym, ap, ap₂, ◌∙◌, subst}
use native.Mathlib.Nat.{lt_of_lt_of_le}
use native.Mathlib.Numerals.{add-one}
use native.Mathlib.Omega.{arith}
use mathlib.Core.List.{◌++◌}
use lib.ListN.{length, take, drop, replicate}
use lib.Seq.{length-take-le}
use Rattle.linear.specs.Answer.{answer_of, vector_of}
use Rattle.plans.specs.Plan.{plan_of}
use Rattle.plans.proofs.Plans.{rows-most}
use Rattle.plans.proofs.Tables.{sums-most}
use Rattle.plans.specs.Rooms.{row_room, sum_room, learned_room}
use Rattle.steps.specs.Parts.{bench_of}
use Rattle.levels.proofs.Rising.{LearnedTo, column-parts, sums-parts, learned-lossy, learned-starts, learned-here, learned-long, learned-blocked, learned-failing, learned-next, learned-ends, leaves-blocked, leaves-failing, leaves-learned}
use Rattle.levels.proofs.learn.Goals as goal

-- the part of its room that a column takes
column-long : (p : ℕ) {rows : ℕ} → rows ≡ (plan_of p).rows → length (take rows (replicate {A = ℕ} row_room 0)) ≡ rows
column-long p high = length-take-le _ (replicate {A = ℕ} row_room 0) (omega (arith, high, rows-most p))

-- and that the rows' sums take
places-few : (p : ℕ) {rows : ℕ} → rows ≡ (plan_of p).rows → rows * sum_room ≤ learned_room
places-few p high = omega (arith, high, rows-most p)

places-long : (p : ℕ) {rows : ℕ} → rows ≡ (plan_of p).rows → length (take (rows * sum_room) (replicate {A = ℕ} learned_room 0)) ≡ rows * sum_room
places-long p high = length-take-le _ (replicate {A = ℕ} learned_room 0) (places-few p high)

-- the rows' sums stand among those lent
sums-there : (p : ℕ) {rows : ℕ} → rows ≡ (plan_of p).rows → {n : ℕ} → (plan_of p).rows * sum_room ≤ n → rows * sum_room ≤ n
sums-there p high room = rw high room

pub lossy_word-lossy-requires : goal.lossy_word-lossy-requires
lossy_word-lossy-requires c = record {
  few = omega (arith, c.facts_of-rows.ensures.rows, rows-most c.args.plan);
  words = rw c.facts_of-rows.ensures.rows c.requires.room.stripe.rows;
}

pub returns-then-totals-lossy : goal.returns-then-totals-lossy
returns-then-totals-lossy c =
    let w = c.lossy_word-lossy.ensures in
    let e = leaves-blocked c.args.plan c.args.level c.args.symbols.now c.args.marks.now c.args.sums.now 0
    (learned-lossy _ c.facts_of-rows.ensures.rows (rw add-one at c.totals-totals.ensures) (w.result_value, w.upper_bound) c.if-totals-lossy.true) in
    record { value = e.0; sums_after = e.1 }

pub slice_bounds-places-end : goal.slice_bounds-places-end
slice_bounds-places-end c = places-few c.args.plan c.facts_of-rows.ensures.rows

pub slice_bounds-kept-end : goal.slice_bounds-kept-end
slice_bounds-kept-end c = sym (places-long c.args.plan c.facts_of-rows.ensures.rows)

pub slice_bounds-copy_from_slice-end : goal.slice_bounds-copy_from_slice-end
slice_bounds-copy_from_slice-end c = sums-there c.args.plan c.facts_of-rows.ensures.rows c.requires.room.learned

pub copy_from_slice-requires : goal.copy_from_slice-requires
copy_from_slice-requires c =
    places-long c.args.plan c.facts_of-rows.ensures.rows
    ∙ sym (length-take-le _ c.args.sums.now (sums-there c.args.plan c.facts_of-rows.ensures.rows c.requires.room.learned))

pub loop-j-init : goal.loop-j-init
loop-j-init c =
    let w = c.lossy_word-lossy.ensures in
    let b = bench_of c.args.plan c.args.level c.args.symbols.now c.args.marks.now (take (c.facts_of-rows.result.rows * sum_room) c.args.sums.now) in
    subst (LearnedTo b c.facts_of-rows.result.rows c.sums_to-last.result c.lossy_word-lossy.result c.sums_to-first.result) (sym c.copy_from_slice.ensures.after)
    (learned-starts b c.facts_of-rows.ensures.rows c.sums_to-first.ensures (rw add-one at c.sums_to-last.ensures) (w.result_value, w.upper_bound))

pub slice_bounds-room-end : goal.slice_bounds-room-end
slice_bounds-room-end c = omega (arith, c.facts_of-rows.ensures.rows, rows-most c.args.plan)

pub slice_bounds-column-end : goal.slice_bounds-column-end
slice_bounds-column-end c = sym (column-long c.args.plan c.facts_of-rows.ensures.rows)

pub learn_column-requires : goal.learn_column-requires
learn_column-requires c =
    let s = c.loop-j.invariant in
    record {
      symbols = c.requires.room.stripe.size;
      ready = record { level = c.requires.level; check = learned-here s c.loop-j-test.true; rows = s.small; places = column-long c.args.plan s.high ∙ s.high };
    }

pub returns-in-None : goal.returns-in-None
returns-in-None c =
    let e = leaves-failing c.args.plan c.args.level c.args.symbols.now c.args.marks.now c.args.sums.now (c.facts_of-rows.result.rows * sum_room)
    (learned-failing c.loop-j.invariant c.loop-j-test.true (c.learn_column.ensures.value ∙ ap answer_of (column-parts _ _ _)) c.in-None.is) in
    record { value = e.0; sums_after = e.1 }

pub returns-in-Tied : goal.returns-in-Tied
returns-in-Tied c =
    let e = leaves-blocked c.args.plan c.args.level c.args.symbols.now c.args.marks.now c.args.sums.now (c.facts_of-rows.result.rows * sum_room)
    (learned-blocked c.loop-j.invariant c.loop-j-test.true (c.learn_column.ensures.value ∙ ap answer_of (column-parts _ _ _)) c.in-Tied.is) in
    record { value = e.0; sums_after = e.1 }

pub keep_column-requires : goal.keep_column-requires
keep_column-requires c =
    let s = c.loop-j.invariant in
    let long = column-long c.args.plan s.high in
    let room = length-take-le _ c.args.sums.now (sums-there c.args.plan c.facts_of-rows.ensures.rows c.requires.room.learned) in
    record {
      place = lt_of_lt_of_le (learned-here s c.loop-j-test.true) (sums-most _ _);
      sums = omega (arith, c.learn_column.auto.column, long, learned-long s, room);
    }

pub loop-j-preserved : goal.loop-j-preserved
loop-j-preserved c =
    let s = c.loop-j.invariant in
    let long = column-long c.args.plan s.high in
    let told = c.learn_column.ensures in
    learned-next s c.loop-j-test.true (told.value ∙ ap answer_of (column-parts _ _ _)) (c.learn_column.auto.column ∙ long ∙ s.high) c.in-One.is
    (told.column_after ∙ ap₂ vector_of (column-parts _ _ _) (sums-parts _ _)) c.keep_column.ensures

pub returns : goal.returns
returns c =
    let high = c.facts_of-rows.ensures.rows in
    let room = sums-there c.args.plan high c.requires.room.learned in
    let e = leaves-learned c.args.plan c.args.level c.args.symbols.now c.args.marks.now c.args.sums.now (ap (λ r. r * sum_room) high) room
    (learned-ends c.loop-j.invariant c.requires.level c.loop-j-test.false) in
    record { value = e.0; sums_after = ap (λ l. l ++ drop (c.facts_of-rows.result.rows * sum_room) c.args.sums.now) c.copy_from_slice-2.ensures.after ∙ e.1 }

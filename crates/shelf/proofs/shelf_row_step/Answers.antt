-- A buffer of another size is 11; else the step is made on the bench in it: its symbols where they stand, its marks in a copy, of which the
-- row's word is put back. Assumes nothing.
use mathlib.Core.Path.{◌≡◌, refl, sym, subst}
use mathlib.Core.List.{List}
use Rattle.std.specs.Prelude.{Result}
use Prim.Native.Nat.{ℕ, ◌<◌}
use native.Mathlib.Omega.{arith}
use lib.ListN.{length, take, drop, get_or}
use Rattle.plans.specs.Answers.{refusal_number}
use Rattle.plans.specs.Rooms.{symbol_room}
use Rattle.plans.specs.declared.Bench.{Bench}
use Rattle.plans.specs.declared.Step.{Step}
use Rattle.steps.specs.Steps.{stepped, row_step}
use Rattle.steps.specs.Parts.{bench_of}
use Rattle.steps.proofs.Fit.{Sized, sized-room}
use Rattle.words.specs.Words.{byte_range}
use Rattle.layout.specs.Layout.{symbols_from, bench_size, bench_in}
use Rattle.layout.proofs.Benches.{bench-is}
use Rattle.shelf.proofs.Benches.{steps-unfit}
use Rattle.shelf.proofs.Rows.{sized-in, Taken, row-past, row_put}
use Rattle.std.proofs.Common.{rules}
use Rattle.shelf.proofs.shelf_row_step.Goals as goal

-- the bench in the bytes l, with these marks and sums
abbrev bench : (l marks sums : List ℕ) → Bench
bench l marks sums = bench_of (get_or l 0 0) (get_or l 1 0) (take symbol_room (drop symbols_from l)) marks sums

taken : (l : List ℕ) (row : ℕ) {marks sums v ms : List ℕ} {s : Result Step ℕ} → length l ≡ bench_size → ((i : ℕ) → get_or l i 0 < byte_range)
    → marks ≡ (bench_in l).marks → sums ≡ (bench_in l).sums → length v ≡ symbol_room
    → stepped (bench_of (get_or l 0 0) (get_or l 1 0) v ms sums) s ≡ row_step (bench l marks sums) row → Taken l row (bench l marks sums) v ms s
taken l row fits bytes em es long step = record { fits = fits; bytes = bytes; came = bench-is l refl em es; long = long; step = step }

pub returns-then-bench-ne-BENCH : goal.returns-then-bench-ne-BENCH
unfolding refusal_number
returns-then-bench-ne-BENCH c =
    let h = steps-unfit _ _ c.if-bench-ne-BENCH.true c.number.ensures in record { value = h.0; bench_after = h.1 }

pub step_row-step-requires : goal.step_row-step-requires
step_row-step-requires c =
    let l = c.args.bench.now in
    let came = bench-is l refl c.marks_in-marks.ensures c.sums_in-sums.ensures in
    sized-room (bench l c.marks_in-marks.result c.sums_in-sums.result) (subst Sized (sym came) (sized-in l c.if-bench-ne-BENCH.false))

pub returns-then-row-ge-ROWS : goal.returns-then-row-ge-ROWS
returns-then-row-ge-ROWS c =
    let l = c.args.bench.now in
    let bytes : (i : ℕ) → get_or l i 0 < byte_range = λ i. search rules in
    let long : length c.step_row-step.new.symbols ≡ symbol_room = omega arith in
    let step = c.step_row-step.ensures in
    let t = taken l c.args.row c.if-bench-ne-BENCH.false bytes c.marks_in-marks.ensures c.sums_in-sums.ensures long step in
    let h = row-past t c.number-number.ensures c.if-row-ge-ROWS.true in record { value = h.0; bench_after = h.1 }

pub returns : goal.returns
returns c =
    let l = c.args.bench.now in
    let bytes : (i : ℕ) → get_or l i 0 < byte_range = λ i. search rules in
    let long : length c.step_row-step.new.symbols ≡ symbol_room = omega arith in
    let step = c.step_row-step.ensures in
    let t = taken l c.args.row c.if-bench-ne-BENCH.false bytes c.marks_in-marks.ensures c.sums_in-sums.ensures long step in
    let h = row_put t c.number-number.ensures (omega (arith, c.if-row-ge-ROWS.false)) c.put_mark.ensures in
    record { value = h.0; bench_after = h.1 }

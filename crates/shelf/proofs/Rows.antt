-- A row step on a bench's bytes: nothing changes but the symbols and the row's mark word. Assumes nothing.
use mathlib.Core.Path.{◌≡◌, refl, sym, ap, ◌∙◌, subst}
use mathlib.Core.List.{List, ◌++◌}
use Rattle.std.specs.Prelude.{Result}
use Prim.Native.Nat.{ℕ, zero, suc, ◌+◌, ◌*◌, ◌<◌, ◌≤◌}
use native.Mathlib.Omega.{arith}
use lib.Dec.{ltb}
use lib.ListN.{length, take, drop, get_or, set, length-take, length-drop}
use lib.Seq.{sets, set-get_or, set-set, set_out}
use Rattle.field.proofs.Words.{at_each}
use Rattle.fills.specs.Fill.{Fill, none, tied, one}
use Rattle.plans.specs.Plan.{plan_of}
use Rattle.plans.specs.Answers.{step_number, as_number}
use Rattle.plans.specs.Refusal.{bench_refusal}
use Rattle.plans.specs.Rooms.{row_room, symbol_room}
use Rattle.plans.specs.declared.Bench.{Bench}
use Rattle.plans.specs.declared.Step.{Step}
use Rattle.plans.proofs.Parts.{part-back}
use Rattle.steps.specs.Steps.{Stepped, stepped, unless_refused, row_fill, put_row, row_step_by, row_step}
use Rattle.steps.specs.Parts.{bench_of}
use Rattle.steps.proofs.Fit.{Sized}
use Rattle.words.specs.Words.{byte_range, bytes_of}
use Rattle.words.proofs.Bytes.{length-words-at}
use Rattle.layout.specs.Layout.{mark_size, symbols_from, marks_from, bench_size, bench_bytes, bench_in}
use Rattle.layout.proofs.Benches.{symbols-set, mark_set}
use Rattle.shelf.specs.Calls.{step_answer, step_buffer}
use Rattle.shelf.proofs.Benches.{steps-fit}

-- the bench in a buffer has the code's arrays
pub sized-in : (l : List ℕ) → length l ≡ bench_size → Sized (bench_in l)
unfolding bench_in
sized-in l e = record {
  symbols = simp (length-take, length-drop) (omega arith);
  marks = length-words-at mark_size l marks_from row_room;
  sums = simp (length-take, length-drop) (omega arith);
}

-- a row step leaves the marks that came, but for the row's
row-marks : (b : Bench) (r : ℕ) → let ms = (row_step b r).bench.marks in ms ≡ set b.marks r (get_or ms r 0)
unfolding stepped unless_refused put_row row_step_by row_step
row-marks b r = go (bench_refusal b (ltb r (plan_of b.plan).rows)) (row_fill b r)
  where
    go : (n : ℕ) (f : Fill) → let ms = (unless_refused n b (row_step_by b r f)).bench.marks in ms ≡ set b.marks r (get_or ms r 0)
    go zero none = sym (set-get_or b.marks r 0)
    go zero tied = sym (set-get_or b.marks r 0)
    go zero (one row) = sym (set-get_or (set b.marks r 0) r 0) ∙ set-set b.marks r 0 (get_or (set b.marks r 0) r 0)
    go (suc n) f = sym (set-get_or b.marks r 0)

-- the step was taken on the bench b in the bytes l, and left the symbols v and the marks ms
pub record Taken (l : List ℕ) (row : ℕ) (b : Bench) (v ms : List ℕ) (s : Result Step ℕ) : Type 0 where
  pub fits : length l ≡ bench_size
  pub bytes : (i : ℕ) → get_or l i 0 < byte_range
  pub came : b ≡ bench_in l
  pub long : length v ≡ symbol_room
  pub step : stepped (bench_of b.plan b.level v ms b.sums) s ≡ row_step b row

module _ {l : List ℕ} {row : ℕ} {b : Bench} {v ms : List ℕ} {s : Result Step ℕ} (t : Taken l row b v ms s) where
  -- the bench with these symbols, and with other marks
  abbrev with : List ℕ → Bench
  with ms = bench_of (bench_in l).plan (bench_in l).level v ms (bench_in l).sums

  taken : stepped (with ms) s ≡ row_step (bench_in l) row
  taken = subst (λ b. stepped (bench_of b.plan b.level v ms b.sums) s ≡ row_step b row) t.came t.step

  marks-are : ms ≡ set (bench_in l).marks row (get_or ms row 0)
  unfolding stepped
  marks-are =
      let e : ms ≡ (row_step (bench_in l) row).bench.marks = ap (λ (s : Stepped Step). s.bench.marks) taken in
      e ∙ row-marks (bench_in l) row ∙ ap (λ ms. set (bench_in l).marks row (get_or ms row 0)) (sym e)

  -- the bytes with these symbols in their place
  abbrev filled : List ℕ
  filled = take symbols_from l ++ (v ++ drop symbol_room (drop symbols_from l))

  filled_is : filled ≡ bench_bytes (with (bench_in l).marks)
  unfolding bench_in
  filled_is =
      part-back symbols_from symbol_room l v (omega (arith, t.fits)) t.long
      ∙ symbols-set l (at_each (λ x. x < byte_range) l (λ i h. t.bytes i)) t.fits v t.long

  -- the answer's number and the buffer
  abbrev Told : ℕ → List ℕ → Type 0
  Told n new = (n ≡ step_answer (λ b. row_step b row) l) × (new ≡ step_buffer (λ b. row_step b row) l)

  module _ {n : ℕ} (number : n ≡ as_number step_number s) where
    told : {new : List ℕ} → new ≡ bench_bytes (with ms) → Told n new
    unfolding stepped
    told e = steps-fit (λ b. row_step b row) l (bench_in l) (stepped (with ms) s) t.fits refl taken number e

    -- past the rows there is no mark word
    pub row-past : row_room ≤ row → Told n filled
    row-past h =
        let none = set_out (bench_in l).marks row (get_or ms row 0) (omega (arith, (sized-in l t.fits).marks)) in
        told (filled_is ∙ ap (λ ms. bench_bytes (with ms)) (sym (marks-are ∙ none)))

    -- the row's is put back
    pub row_put : row < row_room → {new : List ℕ} → new ≡ sets filled (marks_from + mark_size * row) (bytes_of mark_size (get_or ms row 0)) → Told n new
    row_put h e =
        told
        (e ∙ ap (λ l. sets l (marks_from + mark_size * row) (bytes_of mark_size (get_or ms row 0))) filled_is
        ∙ mark_set (with (bench_in l).marks) t.long (sized-in l t.fits).marks row (get_or ms row 0) h
        ∙ ap (λ ms. bench_bytes (with ms)) (sym marks-are))

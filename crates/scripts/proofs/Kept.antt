-- A bench and its bytes say the same, benches that are read, started and stepped are of the code, and a step that is neither Filled nor Raised
-- leaves the buffer. Assumes nothing.
use mathlib.Core.Path.{◌≡◌, refl, sym, ap, ap₂, ◌∙◌, subst}
use mathlib.Core.Logic.{◌≢◌, inl, inr}
use mathlib.Core.Bool.{Bool, true, false}
use mathlib.Core.List.{List, [], ◌∷◌, ◌++◌, flat_map, append_assoc}
use Prim.Native.Nat.{ℕ, zero, suc, ◌+◌, ◌*◌, ◌-◌, ◌^◌, ◌<◌, ◌≤◌}
use native.Mathlib.Nat.{le_of_eq, le_trans, add-sub_of_le, pow-suc}
use native.Mathlib.Omega.{arith}
use borrow.Author.Tests.{eqb-true, eqb-false}
use lib.Dec.{T, eqb, ltb, ltb→lt, nltb→le}
use lib.ListN.{length, take, drop, get_or, set, replicate, length-append, length-replicate, get_or-replicate}
use lib.Pow.{pow_pos, pow_mono}
use lib.Seq.{take-add, take_all, take_at, drop_at, ext_get_or, get_or-append-add, get_or-set_same, get_or-set_other}
use Rattle.std.specs.Prelude.{Ok}
use Rattle.field.specs.Lists.{when◌then◌else◌}
use Rattle.fills.specs.Fill.{Fill, tied, none, one}
use Rattle.fills.proofs.Tests.{either}
use Rattle.plans.specs.Plan.{Plan, plan_of}
use Rattle.plans.specs.Answers.{step_number, as_number}
use Rattle.plans.specs.Refusal.{unasked, all_below, lent_refusal, bench_refusal}
use Rattle.plans.specs.Rooms.{row_room, symbol_room, learned_room}
use Rattle.words.specs.Words.{byte_range, word_bits, bytes_of, number_at, words_at}
use Rattle.steps.specs.Steps.{fresh, empty, started_by, started, Stepped, stepped, unless_refused, row_fill, put_row, row_step_by, row_step, Learned, blocked, failing, learned, level_fill, raise, level_step_by, level_step}
use Rattle.steps.specs.Parts.{bench_of}
use Rattle.plans.specs.declared.Bench.{Bench}
use Rattle.plans.specs.declared.Step.{Step}
use Rattle.plans.specs.declared.Step.TheVariants.{Whole, Filled, Top}
use Rattle.plans.proofs.Rows.{same-or-other}
use Rattle.plans.proofs.Plans.{shape}
use Rattle.steps.proofs.Fit.{LentFit, lent-fit, Sized, sized-room, sized_fresh, fresh-mark, BenchFit, bench-fit}
use Rattle.steps.proofs.Sound.{Sound, sized-put, sized-raise}
use Rattle.walks.proofs.Settled.{whole_row, put_whole}
use Rattle.files.proofs.Laws.{bytes_fit}
use Rattle.words.proofs.Bytes.{word-behind, words-bytes, words-at, length-words-at, get_or-words-at}
use Rattle.numbers.proofs.Values.{below_at}
use Rattle.layout.specs.Layout.{mark_size, symbols_from, marks_from, sums_from, bench_size, bench_bytes, bench_in}
use Rattle.layout.proofs.Benches.{length-words, bench-length, first_two}
use Rattle.shelf.specs.Calls.{step_answer, step_buffer}
use Rattle.shelf.proofs.Sizing.{sized-fit, sized-unfit}
use Rattle.shelf.proofs.Rows.{sized-in}
use Rattle.scripts.specs.Kept.{OfCode, ReadOfCode, StartOfCode, RowStepOfCode, LevelStepOfCode, WrittenLong, WrittenIsRead, ReadIsWritten, RowStepStays, LevelStepStays}

-- ---- what was written is read

module _ (b : Bench) (c : OfCode b) where
  abbrev front : List ℕ
  front = b.plan ∷ b.level ∷ b.symbols

  abbrev words : List ℕ
  words = flat_map (bytes_of mark_size) b.marks

  front_long : length front ≡ marks_from
  front_long = length-append (b.plan ∷ b.level ∷ []) b.symbols ∙ ap (λ n. 2 + n) c.symbols

  middle-long : length (front ++ words) ≡ sums_from
  middle-long = length-append front words ∙ ap₂ ◌+◌ front_long (length-words b c.symbols c.marks c.sums)

  symbols-read : take symbol_room (drop symbols_from (bench_bytes b)) ≡ b.symbols
  unfolding bench_bytes
  symbols-read = ap (take symbol_room) (append_assoc b.symbols words b.sums) ∙ take_at b.symbols (words ++ b.sums) symbol_room c.symbols

  word_read : (r : ℕ) → r < row_room → number_at mark_size (bench_bytes b) (marks_from + mark_size * r) ≡ get_or b.marks r 0
  unfolding bench_bytes
  word_read r h =
      ap₂ (number_at mark_size) (append_assoc front words b.sums) (ap (λ n. n + mark_size * r) (sym front_long))
      ∙ word-behind mark_size front (words ++ b.sums) (mark_size * r)
      ∙ words-bytes mark_size b.marks b.sums r (omega (arith, c.marks)) (c.words r h)

  marks-read : words_at mark_size (bench_bytes b) marks_from row_room ≡ b.marks
  marks-read =
      let long = length-words-at mark_size (bench_bytes b) marks_from row_room in
      ext_get_or 0 (words_at mark_size (bench_bytes b) marks_from row_room) b.marks (long ∙ sym c.marks)
      (λ r h. get_or-words-at mark_size (bench_bytes b) marks_from row_room r (omega (arith, long)) ∙ word_read r (omega (arith, long)))

  sums-read : take learned_room (drop sums_from (bench_bytes b)) ≡ b.sums
  unfolding bench_bytes
  sums-read = ap (take learned_room) (drop_at (front ++ words) b.sums sums_from middle-long) ∙ take_all learned_room b.sums (le_of_eq c.sums)

pub written-long : WrittenLong
written-long b c = bench-length b c.symbols c.marks c.sums

pub written-is-read : WrittenIsRead
unfolding bench_bytes bench_in
written-is-read b c =
    ap (λ s. bench_of b.plan b.level s (words_at mark_size (bench_bytes b) marks_from row_room) (take learned_room (drop sums_from (bench_bytes b)))) (symbols-read b c)
    ∙ ap₂ (λ m s. bench_of b.plan b.level b.symbols m s) (marks-read b c) (sums-read b c)

-- ---- what was read is written

pub read-is-written : ReadIsWritten
unfolding bench_bytes bench_in
read-is-written l t e =
    ap₂ (λ a w. ((a ++ take symbol_room (drop symbols_from l)) ++ w) ++ take learned_room (drop sums_from l)) (sym (first_two l (omega arith))) (words-at l (bytes_fit l t) mark_size marks_from row_room (omega arith))
    ∙ sym (take-add sums_from learned_room l ∙ ap (λ k. k ++ take learned_room (drop sums_from l)) (take-add marks_from (mark_size * row_room) l ∙ ap (λ k. k ++ take (mark_size * row_room) (drop marks_from l)) (take-add symbols_from symbol_room l)))
    ∙ take_all bench_size l (le_of_eq e)

-- ---- benches of the code

-- arrays of the code's sizes, and mark words of so many bits
of_code : (b : Bench) → Sized b → ((r : ℕ) → r < row_room → get_or b.marks r 0 < 2 ^ word_bits) → OfCode b
of_code b s h = record { symbols = s.symbols; marks = s.marks; words = h; sums = s.sums }

-- n bytes are a number below the range of so many
number_lt : (n : ℕ) (l : List ℕ) → T (all_below byte_range l) → (i : ℕ) → i + n ≤ length l → number_at n l i < byte_range ^ n
unfolding number_at
number_lt zero l t i h = omega arith
number_lt (suc n) l t i h =
    omega (arith, pow-suc byte_range n, below_at byte_range l t i (omega arith), number_lt n l t (suc i) (omega arith))

pub read-of-code : ReadOfCode
unfolding bench_in
read-of-code l t e =
    of_code (bench_in l) (sized-in l e) (λ r h.
    subst (λ w. w < 2 ^ word_bits) (sym (get_or-words-at mark_size l marks_from row_room r h)) (number_lt mark_size l t (marks_from + mark_size * r) (omega arith)))

-- zeros behind a list
zeros-behind : (l : List ℕ) (n r : ℕ) → length l ≤ r → r < length l + n → get_or (l ++ replicate n 0) r 0 ≡ 0
zeros-behind l n r h k =
    ap (λ i. get_or (l ++ replicate n 0) i 0) (sym (add-sub_of_le h)) ∙ get_or-append-add l (replicate n 0) (r - length l) 0
    ∙ get_or-replicate n (r - length l) 0 0 (omega arith)

module _ (p : ℕ) (stripe marks : List ℕ) (f : LentFit p stripe marks) where
  fresh-word : (r : ℕ) → r < row_room → get_or (fresh p stripe marks).marks r 0 < 2 ^ word_bits
  unfolding fresh
  fresh-word r h =
      let sh = shape p f.plan-known in
      elim (either (ltb r (plan_of p).rows)) [
        | inl t ↦
            let l = ltb→lt r (plan_of p).rows t in
            subst (λ w. w < 2 ^ word_bits) (sym (fresh-mark p stripe marks f r l)) (le_trans (f.mark-lt r l) (pow_mono sh.columns-le))
        | inr t ↦
            let l = nltb→le r (plan_of p).rows t in
            subst (λ w. w < 2 ^ word_bits)
            (sym (zeros-behind marks (row_room - length marks) r (omega (arith, f.words)) (omega (arith, f.words, sh.rows-le)))) (pow_pos word_bits)
      ]

empty-of-code : OfCode empty
unfolding empty
empty-of-code = record {
  symbols = length-replicate {A = ℕ} symbol_room 0;
  marks = refl;
  words = λ r h. subst (λ w. w < 2 ^ word_bits) (sym (get_or-replicate row_room r 0 0 h)) (pow_pos word_bits);
  sums = length-replicate {A = ℕ} learned_room 0;
}

pub start-of-code : StartOfCode
unfolding stepped started_by started
start-of-code p stripe marks = go (lent_refusal p stripe marks) refl
  where
    go : (n : ℕ) → lent_refusal p stripe marks ≡ n → OfCode (started_by n p stripe marks).bench
    go zero e =
        let f = lent-fit p stripe marks e in of_code (fresh p stripe marks) (sized_fresh p stripe marks f) (fresh-word p stripe marks f)
    go (suc n) e = empty-of-code

module _ (b : Bench) (c : OfCode b) where
  sized_of : Sized b
  sized_of = record { symbols = c.symbols; marks = c.marks; sums = c.sums }

  put-of-code : (r : ℕ) (row : List ℕ) → OfCode (put_row b r row)
  unfolding put_row
  put-of-code r row = of_code (put_row b r row) (sized-put b sized_of r row) words
    where
      words : (k : ℕ) → k < row_room → get_or (set b.marks r 0) k 0 < 2 ^ word_bits
      words k l =
          elim (same-or-other k r) [
            | inl e ↦ rw (e, get_or-set_same b.marks r 0 0 (omega (arith, e, c.marks))) (pow_pos word_bits)
            | inr ne ↦ rw (get_or-set_other b.marks r k 0 0 ne) (c.words k l)
          ]

  raise-of-code : (cs : List (List ℕ)) → OfCode (raise b cs)
  unfolding raise
  raise-of-code cs = of_code (raise b cs) (sized-raise b sized_of cs) c.words

pub row-step-of-code : RowStepOfCode
unfolding stepped unless_refused row_step_by row_step
row-step-of-code b c r = go (bench_refusal b (ltb r (plan_of b.plan).rows)) (row_fill b r)
  where
    go : (n : ℕ) (f : Fill) → OfCode (unless_refused n b (row_step_by b r f)).bench
    go zero tied = c
    go zero none = c
    go zero (one row) = put-of-code b c r row
    go (suc n) f = c

pub level-step-of-code : LevelStepOfCode
unfolding when◌then◌else◌ stepped unless_refused level_step_by level_step
level-step-of-code b c = go (bench_refusal b unasked) (ltb b.level (length (plan_of b.plan).levels)) (level_fill b)
  where
    go : (n : ℕ) (low : Bool) (l : Learned) → OfCode (unless_refused n b (when low then level_step_by b l else stepped b (Ok Top))).bench
    go zero true blocked = c
    go zero true failing = c
    go zero true (learned cs) = raise-of-code b c cs
    go zero false l = c
    go (suc n) low l = c

-- ---- steps that change nothing

module _ (b : Bench) (s : Sized b) (r : ℕ) where
  abbrev P : Plan
  P = plan_of b.plan

  put_back : BenchFit b → r < P.rows → get_or b.marks r 0 ≡ 0 → (row : List ℕ) → row_fill b r ≡ one row → put_row b r row ≡ b
  put_back f h z row e =
      let sound : Sound b = record { fit = f; room = sized-room b s } in ap (put_row b r) (whole_row b sound r h z row e) ∙ put_whole b sound r h z

  row_stays : as_number step_number (row_step b r).answer ≢ 4 → (row_step b r).bench ≡ b
  unfolding when◌then◌else◌ step_number as_number stepped unless_refused row_step_by row_step
  row_stays h = go (bench_refusal b (ltb r P.rows)) refl (row_fill b r) refl h
    where
      go : (n : ℕ) → bench_refusal b (ltb r P.rows) ≡ n → (f : Fill) → row_fill b r ≡ f
          → as_number step_number (unless_refused n b (row_step_by b r f)).answer ≢ 4 → (unless_refused n b (row_step_by b r f)).bench ≡ b
      go (suc n) e f q h = refl
      go zero e tied q h = refl
      go zero e none q h = refl
      go zero e (one row) q h = by (eqb (get_or b.marks r 0) 0) refl h
        where
          by : (c : Bool) → eqb (get_or b.marks r 0) 0 ≡ c → step_number (when c then Whole else Filled) ≢ 4 → put_row b r row ≡ b
          by true z h =
              let f = bench-fit b (ltb r P.rows) e in put_back f.0 (ltb→lt r P.rows f.1) (eqb-true (get_or b.marks r 0) 0 z) row q
          by false z h = absurd (h refl)

level-stays : (b : Bench) → as_number step_number (level_step b).answer ≢ 6 → (level_step b).bench ≡ b
unfolding when◌then◌else◌ step_number as_number stepped unless_refused level_step_by level_step
level-stays b h = go (bench_refusal b unasked) (ltb b.level (length (plan_of b.plan).levels)) (level_fill b) h
  where
    go : (n : ℕ) (c : Bool) (l : Learned) → let s = unless_refused n b (when c then level_step_by b l else stepped b (Ok Top)) in
        as_number step_number s.answer ≢ 6 → s.bench ≡ b
    go zero true blocked h = refl
    go zero true failing h = refl
    go zero true (learned cs) h = absurd (h refl)
    go zero false l h = refl
    go (suc n) c l h = refl

-- ---- buffers

module _ (step : Bench → Stepped Step) (l : List ℕ) (t : T (all_below byte_range l)) (n : ℕ) where
  buffer-stays : (length l ≡ bench_size → as_number step_number (step (bench_in l)).answer ≢ n → (step (bench_in l)).bench ≡ bench_in l)
      → step_answer step l ≢ n → step_buffer step l ≡ l
  unfolding step_answer step_buffer
  buffer-stays stays h = go (eqb (length l) bench_size) refl
    where
      go : (c : Bool) → eqb (length l) bench_size ≡ c → step_buffer step l ≡ l
      go false e = sized-unfit bench_size l _ _ (eqb-false (length l) bench_size e)
      go true e =
          let fits = eqb-true (length l) bench_size e in
          sized-fit bench_size l _ _ fits
          ∙ ap bench_bytes (stays fits (λ q. h (sized-fit bench_size l (as_number step_number (step (bench_in l)).answer) 11 fits ∙ q)))
          ∙ read-is-written l t fits

pub row-step-stays : RowStepStays
row-step-stays l t r = buffer-stays (λ b. row_step b r) l t 4 (λ fits. row_stays (bench_in l) (sized-in l fits) r)

pub level-step-stays : LevelStepStays
level-step-stays l t = buffer-stays level_step l t 6 (λ fits. level-stays (bench_in l))

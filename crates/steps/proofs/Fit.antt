-- What is not refused: the tests in memory taken apart and put together, lent stripes and benches that are fit, fresh benches. Assumes nothing.
use mathlib.Core.Path.{◌≡◌, refl, sym, ◌∙◌, subst}
use mathlib.Core.Bool.{Bool, true, false, not}
use mathlib.Core.List.{List, [], ◌∷◌, map}
use Prim.Native.Nat.{ℕ, zero, suc, ◌*◌, ◌-◌, ◌^◌, ◌<◌, ◌≤◌, zero-le}
use native.Mathlib.Nat.{suc-ne-zero, zero-lt-suc, le_of_suc-le-suc}
use native.Mathlib.Omega.{arith}
use lib.Dec.{T, eqb, ltb, leb, eqb→eq, eqb_refl, ltb→lt, lt→ltb, leb→le, le→leb}
use lib.ListN.{length, take, drop, get_or, replicate, length-append, length-map, length-replicate, take-append-drop, get_or-append}
use lib.Pow.{pow_pos}
use Rattle.field.specs.Lists.{when◌then◌else◌, up_from}
use Rattle.field.specs.Field.{size}
use Rattle.field.proofs.Test.{both_left, both_right, both}
use Rattle.field.proofs.Ring.{size-pos}
use Rattle.fills.specs.Lists.{all, vanish}
use Rattle.fills.proofs.Tests.{all_in, in_all, all_left, all_right, up_in, in-up}
use Rattle.plans.specs.Plan.{Plan, plan_of, known, checks_to, row_at, marks_at}
use Rattle.plans.specs.Refusal.{stripe_fits, words_fit, marks_fit, all_below, unmarked_below, symbols_fit, sums_at, sums_fit, level_fits, lent_refusal, bench_refusal, lent_tests, bench_tests}
use Rattle.plans.specs.Rooms.{row_room, symbol_room, sum_room, learned_room}
use Rattle.steps.specs.Steps.{fresh}
use Rattle.steps.specs.Parts.{Room}
use Rattle.plans.specs.declared.Bench.{Bench}
use Rattle.field.proofs.Words.{◌&◌}
use Rattle.plans.proofs.Refusals.{all-passed, none-refused}
use Rattle.plans.proofs.Rows.{row-end, row-append}
use Rattle.plans.proofs.Rooms.{bench-holds}
use Rattle.plans.proofs.Plans.{shape}

-- ---- a choice by a test

pub if-true : {A : Type 0} (b : Bool) (x y : A) → T b → (when b then x else y) ≡ x
unfolding when◌then◌else◌
if-true true x y t = refl
if-true false x y t = absurd t

pub if-false : {A : Type 0} (b : Bool) (x y : A) → T (not b) → (when b then x else y) ≡ y
unfolding when◌then◌else◌
if-false true x y t = absurd t
if-false false x y t = refl

-- ---- the order in memory

pub eq→eqb : (m n : ℕ) → m ≡ n → T (eqb m n)
eq→eqb m n e = subst (λ k. T (eqb m k)) e (eqb_refl m)

-- a test in the order that is passed
pub pass : (n : ℕ) (b : Bool) (rest : ℕ) → (when b then rest else suc n) ≡ 0 → T b × (rest ≡ 0)
unfolding when◌then◌else◌
pass n true rest e = (tt, e)
pass n false rest e = absurd (suc-ne-zero n e)

-- a part of elements, and zeros behind it, are elements
pub take-lt : (s k : ℕ) (l : List ℕ) → 0 < s → ((j : ℕ) → get_or l j 0 < s) → (j : ℕ) → get_or (take k l) j 0 < s
take-lt s zero l pos h j = pos
take-lt s (suc k) [] pos h j = pos
take-lt s (suc k) (x ∷ l) pos h zero = h 0
take-lt s (suc k) (x ∷ l) pos h (suc j) = take-lt s k l pos (λ i. h (suc i)) j

-- ---- tests over rows and words, one by one

module _ (p : ℕ → Bool) where
  pub all-rows : (n : ℕ) → T (all p (up_from 0 n)) → (r : ℕ) → r < n → T (p r)
  all-rows n t r h = all_in p (up_from 0 n) t (in-up 0 n r zero-le (omega arith))

  pub rows_all : (n : ℕ) → ((r : ℕ) → r < n → T (p r)) → T (all p (up_from 0 n))
  rows_all n h = in_all p (up_from 0 n) (λ r m. h r (let l = up_in 0 n m in omega arith))

  all_words : T (p 0) → (n : ℕ) (l : List ℕ) → T (all p (take n l)) → (r : ℕ) → r < n → T (p (get_or l r 0))
  unfolding all
  all_words z zero l t r h = absurd (omega arith)
  all_words z (suc n) [] t r h = z
  all_words z (suc n) (x ∷ l) t zero h = both_left (p x) (all p (take n l)) t
  all_words z (suc n) (x ∷ l) t (suc r) h = all_words z n l (both_right (p x) (all p (take n l)) t) r (le_of_suc-le-suc h)

  words-all : (n : ℕ) (l : List ℕ) → ((r : ℕ) → r < n → T (p (get_or l r 0))) → T (all p (take n l))
  unfolding all
  words-all zero l h = tt
  words-all (suc n) [] h = tt
  words-all (suc n) (x ∷ l) h =
      both (p x) (all p (take n l)) (h 0 (zero-lt-suc n)) (words-all n l (λ r g. h (suc r) (omega arith)))

-- row r's unmarked symbols are symbols
abbrev pub RowFits : Plan → (marks symbols : List ℕ) → ℕ → Type 0
RowFits P marks symbols r = T (unmarked_below (size P.field) (marks_at P marks r) (row_at P symbols r))

-- and so are its sums
abbrev pub SumsFit : Plan → (t : ℕ) → (sums : List ℕ) → ℕ → Type 0
SumsFit P t sums r = T (all_below (size P.field) (sums_at P t sums r))

-- a test of all rows says it of each, and back
module _ (P : Plan) where
  pub marks-fit : (marks : List ℕ) → T (marks_fit P marks) → (r : ℕ) → r < P.rows → get_or marks r 0 < 2 ^ P.columns
  unfolding marks_fit
  marks-fit marks t r h =
      ltb→lt (get_or marks r 0) (2 ^ P.columns)
      (all_words (λ w. ltb w (2 ^ P.columns)) (lt→ltb 0 (2 ^ P.columns) (pow_pos P.columns)) P.rows marks t r h)

  pub fit-marks : (marks : List ℕ) → ((r : ℕ) → r < P.rows → get_or marks r 0 < 2 ^ P.columns) → T (marks_fit P marks)
  unfolding marks_fit
  fit-marks marks h = words-all (λ w. ltb w (2 ^ P.columns)) P.rows marks (λ r l. lt→ltb (get_or marks r 0) (2 ^ P.columns) (h r l))

  pub symbols-fit : (marks symbols : List ℕ) → T (symbols_fit P marks symbols) → (r : ℕ) → r < P.rows → RowFits P marks symbols r
  unfolding symbols_fit
  symbols-fit marks symbols = all-rows (λ r. unmarked_below (size P.field) (marks_at P marks r) (row_at P symbols r)) P.rows

  pub fit-symbols : (marks symbols : List ℕ) → ((r : ℕ) → r < P.rows → RowFits P marks symbols r) → T (symbols_fit P marks symbols)
  unfolding symbols_fit
  fit-symbols marks symbols = rows_all (λ r. unmarked_below (size P.field) (marks_at P marks r) (row_at P symbols r)) P.rows

  pub sums-fit : (t : ℕ) (sums : List ℕ) → T (sums_fit P t sums) → (r : ℕ) → r < P.rows → SumsFit P t sums r
  unfolding sums_fit
  sums-fit t sums = all-rows (λ r. all_below (size P.field) (sums_at P t sums r)) P.rows

  pub fit-sums : (t : ℕ) (sums : List ℕ) → ((r : ℕ) → r < P.rows → SumsFit P t sums r) → T (sums_fit P t sums)
  unfolding sums_fit
  fit-sums t sums = rows_all (λ r. all_below (size P.field) (sums_at P t sums r)) P.rows

-- ---- what a lent stripe and a bench are where nothing of them is refused

pub record LentFit (p : ℕ) (stripe marks : List ℕ) : Type 0 where
  pub plan-known : T (known p)
  pub long : length stripe ≡ (plan_of p).rows * (plan_of p).columns
  pub words : length marks ≡ (plan_of p).rows
  pub mark-lt : (r : ℕ) → r < (plan_of p).rows → get_or marks r 0 < 2 ^ (plan_of p).columns
  pub row_fits : (r : ℕ) → r < (plan_of p).rows → RowFits (plan_of p) marks stripe r

pub record BenchFit (b : Bench) : Type 0 where
  pub plan-known : T (known b.plan)
  pub level-pos : 0 < b.level
  pub level-le : b.level ≤ length (plan_of b.plan).levels
  pub mark-lt : (r : ℕ) → r < (plan_of b.plan).rows → get_or b.marks r 0 < 2 ^ (plan_of b.plan).columns
  pub row_fits : (r : ℕ) → r < (plan_of b.plan).rows → RowFits (plan_of b.plan) b.marks b.symbols r
  pub sums-fits : (r : ℕ) → r < (plan_of b.plan).rows → SumsFit (plan_of b.plan) b.level b.sums r

-- a bench's arrays are as long as the code's
pub record Sized (b : Bench) : Type 0 where
  pub symbols : length b.symbols ≡ symbol_room
  pub marks : length b.marks ≡ row_room
  pub sums : length b.sums ≡ learned_room

-- as the code's arrays show it
pub sized-by : {b : Bench} → length (map (λ v. v) b.symbols) ≡ symbol_room → length (map (λ v. v) b.marks) ≡ row_room
    → length (map (λ v. v) b.sums) ≡ learned_room → Sized b
sized-by {b} es em ek = record { symbols = sym (length-map b.symbols _) ∙ es; marks = sym (length-map b.marks _) ∙ em; sums = sym (length-map b.sums _) ∙ ek }

-- then they have room for every plan
pub sized-room : (b : Bench) → Sized b → Room b
sized-room b s = bench-holds b.plan s.symbols s.marks s.sums

module _ (p : ℕ) (stripe marks : List ℕ) where
  abbrev P : Plan
  P = plan_of p

  pub lent-fit : lent_refusal p stripe marks ≡ 0 → LentFit p stripe marks
  unfolding all stripe_fits words_fit lent_tests lent_refusal
  lent-fit e =
      let h = all-passed (lent_tests p stripe marks) tt e in
      record {
        plan-known = h.0;
        long = eqb→eq (length stripe) (P.rows * P.columns) (both_left (stripe_fits P stripe) (words_fit P marks) h.1.0);
        words = eqb→eq (length marks) P.rows (both_right (stripe_fits P stripe) (words_fit P marks) h.1.0);
        mark-lt = marks-fit P marks h.1.1.0;
        row_fits = symbols-fit P marks stripe h.1.1.1.0;
      }

  pub fit-lent : LentFit p stripe marks → lent_refusal p stripe marks ≡ 0
  unfolding stripe_fits words_fit lent_tests lent_refusal
  fit-lent f =
      none-refused (lent_tests p stripe marks)
      (f.plan-known
      & both (stripe_fits P stripe) (words_fit P marks) (eq→eqb (length stripe) (P.rows * P.columns) f.long)
      (eq→eqb (length marks) P.rows f.words)
      & fit-marks P marks f.mark-lt & fit-symbols P marks stripe f.row_fits & tt)

module _ (b : Bench) (row : Bool) where
  abbrev Q : Plan
  Q = plan_of b.plan

  pub bench-fit : bench_refusal b row ≡ 0 → BenchFit b × T row
  unfolding all level_fits bench_tests bench_refusal
  bench-fit e =
      let h = all-passed (bench_tests b row) tt e in
      let inside = symbols_fit Q b.marks b.symbols in (
        record {
          plan-known = h.0;
          level-pos = ltb→lt 0 b.level (both_left (ltb 0 b.level) (leb b.level (length Q.levels)) h.1.0);
          level-le = leb→le b.level (length Q.levels) (both_right (ltb 0 b.level) (leb b.level (length Q.levels)) h.1.0);
          mark-lt = marks-fit Q b.marks h.1.1.0;
          row_fits = symbols-fit Q b.marks b.symbols (both_left inside (sums_fit Q b.level b.sums) h.1.1.1.0);
          sums-fits = sums-fit Q b.level b.sums (both_right inside (sums_fit Q b.level b.sums) h.1.1.1.0);
        },
        h.1.1.1.1.0,
      )

  pub fit-bench : BenchFit b → T row → bench_refusal b row ≡ 0
  unfolding level_fits bench_tests bench_refusal
  fit-bench f t =
      none-refused (bench_tests b row)
      (f.plan-known
      & both (ltb 0 b.level) (leb b.level (length Q.levels)) (lt→ltb 0 b.level f.level-pos)
      (le→leb b.level (length Q.levels) f.level-le)
      & fit-marks Q b.marks f.mark-lt
      & both (symbols_fit Q b.marks b.symbols) (sums_fit Q b.level b.sums) (fit-symbols Q b.marks b.symbols f.row_fits)
      (fit-sums Q b.level b.sums f.sums-fits)
      & t & tt)

-- ---- a fresh bench

module _ (p : ℕ → Bool) where
  pub all-zeros : T (p 0) → (n : ℕ) → T (all p (replicate n 0))
  unfolding all
  all-zeros z zero = tt
  all-zeros z (suc n) = both (p 0) (all p (replicate n 0)) z (all-zeros z n)

  pub all_take : (n : ℕ) (l : List ℕ) → T (all p l) → T (all p (take n l))
  all_take n l t = all_left p (take n l) (drop n l) (rw take-append-drop t)

  pub all_drop : (n : ℕ) (l : List ℕ) → T (all p l) → T (all p (drop n l))
  all_drop n l t = all_right p (take n l) (drop n l) (rw take-append-drop t)

  -- a part of zeros
  zeros-part : T (p 0) → (k i n : ℕ) → T (all p (take k (drop i (replicate n 0))))
  zeros-part z k i n = all_take k (drop i (replicate n 0)) (all_drop i (replicate n 0) (all-zeros z n))

-- a fresh bench's sums are zero
pub fresh-sums : (p : ℕ) (stripe marks : List ℕ) (r : ℕ) → T (vanish (sums_at (plan_of p) 1 (fresh p stripe marks).sums r))
unfolding fresh sums_at vanish
fresh-sums p stripe marks r = zeros-part (λ x. eqb x 0) tt (length (checks_to (plan_of p) 1)) (r * sum_room) learned_room

module _ (p : ℕ) (stripe marks : List ℕ) (f : LentFit p stripe marks) where
  pub sized_fresh : Sized (fresh p stripe marks)
  unfolding fresh
  sized_fresh =
      let s = shape p f.plan-known in
      record {
        symbols = simp (length-append, length-replicate) (omega (arith, f.long, s.symbols-le));
        marks = simp (length-append, length-replicate) (omega (arith, f.words, s.rows-le));
        sums = length-replicate {A = ℕ} learned_room 0;
      }

  -- mark words and rows as lent
  pub fresh-mark : (r : ℕ) → r < (plan_of p).rows → get_or (fresh p stripe marks).marks r 0 ≡ get_or marks r 0
  unfolding fresh
  fresh-mark r h = get_or-append marks (replicate (row_room - length marks) 0) 0 r (omega (arith, f.words))

  pub fresh-row : (r : ℕ) → r < (plan_of p).rows → row_at (plan_of p) (fresh p stripe marks).symbols r ≡ row_at (plan_of p) stripe r
  unfolding fresh
  fresh-row r h =
      row-append (plan_of p) stripe (replicate (symbol_room - length stripe) 0) r (omega (arith, f.long, row-end (plan_of p).columns h))

  pub fit-fresh : BenchFit (fresh p stripe marks)
  unfolding fresh marks_at sums_at all_below
  fit-fresh = record {
    plan-known = f.plan-known;
    level-pos = zero-lt-suc 0;
    level-le = (shape p f.plan-known).levels-pos;
    mark-lt = λ r h. rw (fresh-mark r h) (f.mark-lt r h);
    row_fits = λ r h. rw (fresh-row r h, fresh-mark r h) (f.row_fits r h);
    sums-fits = λ r h.
        let q = size (plan_of p).field in
        zeros-part (λ x. ltb x q) (lt→ltb 0 q (size-pos (plan_of p).field)) (length (checks_to (plan_of p) 1)) (r * sum_room) learned_room;
  }

-- Tests of every place, scanned from the front: the loops that refuse cite these. Assumes nothing.
use mathlib.Core.Path.{◌≡◌, refl, sym, ap, ap₂, ◌∙◌}
use mathlib.Core.Bool.{Bool, true, false, ◌&&◌, ◌||◌, and-true, and-false, and_assoc, or_comm}
use mathlib.Core.List.{List, [], ◌∷◌}
use Prim.Native.Nat.{ℕ, zero, suc, ◌+◌, ◌/◌, ◌%◌, ◌^◌, ◌≤◌, ◌<◌, zero-le, max}
use native.Mathlib.Nat.{le_refl, not-suc-le-zero, le_of_suc-le-suc}
use native.Mathlib.Numerals.{add-one}
use native.Mathlib.Omega.{arith}
use borrow.Author.Count.{below_none, below_more}
use borrow.Author.Tests.{lt-ltb}
use Rattle.std.proofs.lemmas.Bool.Decides.{nat_tests}
use lib.Dec.{eqb, ltb}
use lib.ListN.{length, get_or, take}
use lib.Seq.{take_all, take-length}
use Rattle.std.specs.Bool.{MatchBool}
use Rattle.std.specs.List.{AllWithin, HoldsAt}
use Rattle.field.specs.Lists.{up_from}
use Rattle.fills.specs.Lists.{all, first, rest, beside}
use Rattle.fills.specs.Marks.{bits_of}
use Rattle.fills.proofs.Marked.{length-bits, bits_at}
use Rattle.plans.specs.Refusal.{all_below, unmarked_below}

pub true-and : (a b : Bool) → (a && b) ≡ true → (a ≡ true) × (b ≡ true)
true-and true b e = (refl, e)
true-and false b e = (e, cc)

-- ---- each number below n passes a test

all-up-suc : (f : ℕ → Bool) (k n : ℕ) → all f (up_from (suc k) n) ≡ all (λ i. f (suc i)) (up_from k n)
unfolding up_from all
all-up-suc f k zero = refl
all-up-suc f k (suc n) = ap (λ b. f (suc k) && b) (all-up-suc f (suc k) n)

pub up-true : (f : ℕ → Bool) (n : ℕ) → ((k : ℕ) → k < n → f k ≡ true) → all f (up_from 0 n) ≡ true
unfolding up_from all
up-true f zero h = refl
up-true f (suc n) h =
    ap₂ ◌&&◌ (h 0 (omega arith)) (all-up-suc f 0 n ∙ up-true (λ i. f (suc i)) n (λ k l. h (suc k) (omega arith)))

pub all-up-same : (f g : ℕ → Bool) (n : ℕ) → ((k : ℕ) → k < n → f k ≡ g k) → all f (up_from 0 n) ≡ all g (up_from 0 n)
unfolding up_from all
all-up-same f g zero same = refl
all-up-same f g (suc n) same =
    ap₂ ◌&&◌ (same 0 (omega arith))
    (all-up-suc f 0 n ∙ all-up-same (λ i. f (suc i)) (λ i. g (suc i)) n (λ k h. same (suc k) (omega arith)) ∙ sym (all-up-suc g 0 n))

pub up-false : (f : ℕ → Bool) (n k : ℕ) → k < n → f k ≡ false → all f (up_from 0 n) ≡ false
unfolding up_from all
up-false f zero k h e = absurd (not-suc-le-zero h)
up-false f (suc n) zero h e = rw e
up-false f (suc n) (suc k) h e =
    ap (λ b. f 0 && b) (all-up-suc f 0 n ∙ up-false (λ i. f (suc i)) n k (le_of_suc-le-suc h) e) ∙ and-false (f 0)

-- where all pass, each does
pub up-each : (f : ℕ → Bool) (n : ℕ) → all f (up_from 0 n) ≡ true → (k : ℕ) → k < n → f k ≡ true
up-each f n e k h = go (f k) refl
  where
    go : (b : Bool) → f k ≡ b → b ≡ true
    go true e' = refl
    go false e' = sym (up-false f n k h e') ∙ e

-- a loop has come to i, and all before it passed
pub record Passing (f : ℕ → Bool) (n i : ℕ) : Type 0 where
  pub within : i ≤ n
  pub passed : (k : ℕ) → k < i → f k ≡ true

module _ {f : ℕ → Bool} {n : ℕ} where
  pub passing-none : Passing f n 0
  passing-none = record { within = omega arith; passed = below_none (λ k. f k ≡ true) }

  pub passing-more : {i : ℕ} → Passing f n i → i < n → f i ≡ true → Passing f n (i + 1)
  passing-more {i} h more e = record { within = omega arith; passed = below_more (λ k. f k ≡ true) i h.passed e }

  pub passing-all : {i : ℕ} → Passing f n i → n ≤ i → all f (up_from 0 n) ≡ true
  passing-all h end = up-true f n (λ k l. h.passed k (omega arith))

-- a test of a list's first n is one of their places
pub all_take : {A : Type 0} (p : A → Bool) (d : A) (l : List A) (n : ℕ) → n ≤ length l
    → all p (take n l) ≡ all (λ k. p (get_or l k d)) (up_from 0 n)
unfolding up_from all
all_take p d l zero h = refl
all_take p d [] (suc n) h = absurd (not-suc-le-zero h)
all_take p d (x ∷ l) (suc n) h =
    ap (λ b. p x && b) (all_take p d l n (le_of_suc-le-suc h) ∙ sym (all-up-suc (λ k. p (get_or (x ∷ l) k d)) 0 n))

-- whether all pass, where a walk that stops at the first that fails says so
pub decided_up : (f : ℕ → Bool) (n : ℕ) (r : Bool) → MatchBool r ((k : ℕ) → k < n → f k ≡ true) ((k : ℕ) × (k < n) × (f k ≡ false))
    → r ≡ all f (up_from 0 n)
decided_up f n true h = sym (up-true f n h)
decided_up f n false h = sym (up-false f n h.0 h.1 h.2)

pub decided : {A : Type 0} (p : A → Bool) (d : A) (xs : List A) (r : Bool)
    → MatchBool r (AllWithin (λ x. p x ≡ true) xs 0 (length xs)) ((k : ℕ) × (k < length xs) × HoldsAt (λ x. p x ≡ false) xs k) → r ≡ all p xs
decided p d xs r told = go r told ∙ sym (ap (all p) (sym (take-length xs)) ∙ all_take p d xs (length xs) (le_refl _))
  where
    go : (r : Bool) → MatchBool r (AllWithin (λ x. p x ≡ true) xs 0 (length xs)) ((k : ℕ) × (k < length xs) × HoldsAt (λ x. p x ≡ false) xs k)
        → r ≡ all (λ k. p (get_or xs k d)) (up_from 0 (length xs))
    go true h = decided_up _ _ true (λ k l. h k d zero-le l)
    go false h = decided_up _ _ false (h.0, h.1, h.2 d)

-- ---- each unmarked symbol is below q

-- a place is marked, or its symbol is below q
abbrev pub fits_at : ℕ → List Bool → List ℕ → ℕ → Bool
fits_at q ms xs k = get_or ms k false || ltb (get_or xs k 0) q

unmarked-up : (q : ℕ) (ms : List Bool) (xs : List ℕ) → unmarked_below q ms xs ≡ all (fits_at q ms xs) (up_from 0 (length ms))
unfolding up_from all beside first rest unmarked_below
unmarked-up q [] xs = refl
unmarked-up q (m ∷ ms) [] = ap (λ b. (m || ltb 0 q) && b) (unmarked-up q ms [] ∙ sym (all-up-suc (fits_at q (m ∷ ms) []) 0 (length ms)))
unmarked-up q (m ∷ ms) (x ∷ xs) =
    ap (λ b. (m || ltb x q) && b) (unmarked-up q ms xs ∙ sym (all-up-suc (fits_at q (m ∷ ms) (x ∷ xs)) 0 (length ms)))

-- a row under a mark word: place k's mark is bit k
module _ (q w : ℕ) (row : List ℕ) where
  abbrev pub fits_in : ℕ → Bool
  fits_in k = ltb (get_or row k 0) q || eqb (w / 2 ^ k % 2) 1

  pub row_decided : (r : Bool) → MatchBool r ((k : ℕ) → k < length row → fits_in k ≡ true) ((k : ℕ) × (k < length row) × (fits_in k ≡ false))
      → r ≡ unmarked_below q (bits_of (length row) w) row
  row_decided r told =
      decided_up fits_in (length row) r told ∙ all-up-same fits_in (fits_at q (bits_of (length row) w) row) (length row) same
      ∙ sym (unmarked-up q (bits_of (length row) w) row ∙ ap (λ n. all (fits_at q (bits_of (length row) w) row) (up_from 0 n)) (length-bits (length row) w))
    where
      same : (k : ℕ) → k < length row → fits_in k ≡ fits_at q (bits_of (length row) w) row k
      same k h = rw (bits_at (length row) w k h) (or_comm (ltb (get_or row k 0) q) (eqb (w / 2 ^ k % 2) 1))

-- ---- each number is below q where the highest is

-- one more
all_more : (p : ℕ → Bool) (l : List ℕ) (k : ℕ) → k < length l → all p (take (suc k) l) ≡ (all p (take k l) && p (get_or l k 0))
unfolding all
all_more p [] k h = absurd (not-suc-le-zero h)
all_more p (x ∷ xs) zero h = and-true (p x)
all_more p (x ∷ xs) (suc k) h = ap (λ b. p x && b) (all_more p xs k (le_of_suc-le-suc h)) ∙ sym (and_assoc (p x) _ _)

-- m is the highest of the first i
pub record Highest (q : ℕ) (xs : List ℕ) (i m : ℕ) : Type 0 where
  pub within : i ≤ length xs
  pub tells : ltb m q ≡ all_below q (take i xs)

module _ {q : ℕ} {xs : List ℕ} where
  pub highest-none : 0 < q → Highest q xs 0 0
  unfolding all all_below
  highest-none h = record { within = omega arith; tells = lt-ltb 0 q h }

  pub highest-more : {i m : ℕ} → Highest q xs i m → i < length xs → Highest q xs (i + 1) (max m (get_or xs i 0))
  unfolding all_below
  highest-more {i} {m} h more = record {
    within = omega arith;
    tells = below-max m (get_or xs i 0) q ∙ ap (λ b. b && ltb (get_or xs i 0) q) h.tells ∙ sym (rw (add-one i) (all_more (λ x. ltb x q) xs i more));
  }
    where
      below-max : (m x q : ℕ) → ltb (max m x) q ≡ (ltb m q && ltb x q)
      below-max m x q = grind (arith, nat_tests)

  pub highest-all : {i m : ℕ} → Highest q xs i m → length xs ≤ i → ltb m q ≡ all_below q xs
  highest-all {i} h end = h.tells ∙ ap (all_below q) (take_all i xs end)

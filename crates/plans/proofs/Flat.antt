-- Lists that stand one behind the other; rows in a table, read back; and tests of a list, read at a place. Assumes nothing.
use mathlib.Core.Path.{◌≡◌, refl, sym, ap, ◌∙◌, subst}
use mathlib.Core.Logic.{inl, inr}
use mathlib.Core.Bool.{Bool}
use mathlib.Core.List.{List, [], ◌∷◌, ◌++◌, map, flat_map, append_assoc}
use Prim.Native.Nat.{ℕ, zero, suc, ◌+◌, ◌*◌, ◌≤◌, ◌<◌}
use native.Mathlib.Nat.{zero-mul, suc-mul, add_comm, not-suc-le-zero, le_of_suc-le-suc, eq-or-lt_of_le}
use native.Mathlib.Omega.{arith}
use lib.Dec.{T}
use lib.ListN.{length, get_or, take, drop, length-append}
use lib.Seq.{drop-drop, drop-cons, take_at, drop_at, drop-append_seam, take-append_seam}
use Rattle.field.specs.Lists.{up_from}
use Rattle.field.proofs.Test.{both_left, both_right}
use Rattle.field.proofs.Lists.{map-up-same}
use Rattle.field.proofs.Words.{Each, EachBelow, each-get_or}
use Rattle.fills.specs.Lists.{all}

-- what all pass, and the default too, passes wherever it is read
pub all_get_d : {A : Type 0} (p : A → Bool) (d : A) → T (p d) → (l : List A) → T (all p l) → (i : ℕ) → T (p (get_or l i d))
unfolding all
all_get_d p d td [] t i = td
all_get_d p d td (x ∷ xs) t zero = both_left (p x) (all p xs) t
all_get_d p d td (x ∷ xs) t (suc i) = all_get_d p d td xs (both_right (p x) (all p xs) t) i

-- what all pass, each passes
pub all-at : {A : Type 0} (p : A → Bool) (d : A) (l : List A) → T (all p l) → (i : ℕ) → i < length l → T (p (get_or l i d))
unfolding all
all-at p d [] t i h = absurd (not-suc-le-zero h)
all-at p d (x ∷ l) t zero h = both_left (p x) (all p l) t
all-at p d (x ∷ l) t (suc i) h = all-at p d l (both_right (p x) (all p l) t) i (le_of_suc-le-suc h)

-- ---- every member

module _ {A : Type 0} (Q : A → Type 0) where
  pub each_append : (a b : List A) → Each Q a → Each Q b → Each Q (a ++ b)
  each_append [] b h k = k
  each_append (x ∷ a) b h k = (h.0, each_append a b h.1 k)

  pub each-flat : {B : Type 0} (f : B → List A) → ((x : B) → Each Q (f x)) → (l : List B) → Each Q (flat_map f l)
  unfolding flat_map
  each-flat f h [] = tt
  each-flat f h (x ∷ l) = each_append (f x) (flat_map f l) (h x) (each-flat f h l)

-- n numbers from k on
pub each-up : (Q : ℕ → Type 0) (k n : ℕ) → Each Q (up_from k n) → (i : ℕ) → k ≤ i → i < k + n → Q i
unfolding up_from
each-up Q k zero each i l h = absurd (omega arith)
each-up Q k (suc n) each i l h =
    elim (eq-or-lt_of_le l) [ inl e ↦ subst Q e each.0 | inr m ↦ each-up Q (suc k) n each.1 i m (omega arith) ]

-- a part with something before it and something behind it
pub between : {A : Type 0} (a l b : List A) → take (length l) (drop (length a) ((a ++ l) ++ b)) ≡ l
between a l b = rw (append_assoc, drop-append_seam) (take-append_seam l b)

-- ---- lists one behind the other

-- n lists of N members each
pub flat-length : {A : Type 0} (f : ℕ → List A) (N k n : ℕ) → ((r : ℕ) → r < k + n → length (f r) ≡ N) → length (flat_map f (up_from k n)) ≡ n * N
unfolding flat_map up_from
flat-length f N k zero wide = sym (zero-mul N)
flat-length f N k (suc n) wide =
    length-append (f k) (flat_map f (up_from (suc k) n))
    ∙ omega (arith, wide k (omega arith), flat-length f N (suc k) n (λ r l. wide r (omega arith)), suc-mul n N)

-- ---- rows

-- each row has w numbers, all below q
abbrev pub Rows : (q w : ℕ) → List (List ℕ) → Type 0
Rows q w rows = Each (λ row. (length row ≡ w) × EachBelow q row) rows

-- rows one behind the other
abbrev pub flat : List (List ℕ) → List ℕ
flat rows = flat_map (λ row. row) rows

-- row j of a table whose rows have w numbers
abbrev pub row_in : ℕ → List ℕ → ℕ → List ℕ
row_in w table j = take w (drop (j * w) table)

module _ (q w : ℕ) where
  row-in : (rows : List (List ℕ)) → Rows q w rows → (j : ℕ) → j < length rows → row_in w (flat rows) j ≡ get_or rows j []
  unfolding flat_map
  row-in [] t j h = absurd (not-suc-le-zero h)
  row-in (row ∷ rows) t zero h = rw zero-mul (take_at row _ w t.0.0)
  row-in (row ∷ rows) t (suc j) h =
      rw (suc-mul, add_comm (j * w) w, ← drop-drop (j * w) w, drop_at row _ w t.0.0) (row-in rows t.1 j (le_of_suc-le-suc h))

  -- m rows, from row k on
  pub rows_in : (rows : List (List ℕ)) → Rows q w rows → (k m : ℕ) → k + m ≤ length rows
      → map (row_in w (flat rows)) (up_from k m) ≡ take m (drop k rows)
  unfolding up_from
  rows_in rows t k m h = map-up-same _ (λ j. get_or rows j []) k m (λ i l. row-in rows t (k + i) (omega arith)) ∙ part rows k m h
    where
      part : (rows : List (List ℕ)) (k m : ℕ) → k + m ≤ length rows → map (λ j. get_or rows j []) (up_from k m) ≡ take m (drop k rows)
      part rows k zero h = refl
      part rows k (suc m) h = rw (drop-cons rows k [] (omega arith)) (ap (λ l. get_or rows k [] ∷ l) (part rows (suc k) m (omega arith)))

  pub rows-length : (rows : List (List ℕ)) → Rows q w rows → length (flat rows) ≡ length rows * w
  unfolding flat_map
  rows-length [] t = sym (zero-mul w)
  rows-length (row ∷ rows) t =
      length-append row (flat rows) ∙ omega (arith, t.0.0, rows-length rows t.1, suc-mul (length rows) w)

  -- each number of the table is below q
  pub rows-lt : 0 < q → (rows : List (List ℕ)) → Rows q w rows → (i : ℕ) → get_or (flat rows) i 0 < q
  unfolding flat_map
  rows-lt pos rows t = each-get_or (λ x. x < q) 0 pos (flat rows) (each rows t)
    where
      each : (rows : List (List ℕ)) → Rows q w rows → EachBelow q (flat rows)
      each [] t = tt
      each (row ∷ rows) t = each_append (λ x. x < q) row (flat rows) t.0.1 (each rows t.1)

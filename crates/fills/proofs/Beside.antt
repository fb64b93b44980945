-- Marks and symbols side by side: how long, place by place, in two parts, what is not read, in rows, and under a mark word. Assumes nothing.
use mathlib.Core.Path.{◌≡◌, refl, sym, ap, ap₂, ◌∙◌, subst}
use mathlib.Core.Bool.{Bool, true, false}
use mathlib.Core.List.{List, [], ◌∷◌, ◌++◌, flat_map}
use Prim.Native.Nat.{ℕ, zero, suc, ◌+◌, ◌*◌, ◌<◌}
use native.Mathlib.Nat.{add-zero, suc-mul, not-suc-le-zero, le_of_suc-le-suc}
use lib.Dec.{eqb}
use lib.ListN.{length, get_or, take, drop}
use lib.Seq.{drop-nil, drop-drop, get_or-drop}
use Rattle.field.specs.Lists.{up_from}
use Rattle.equations.specs.Words.{bit_at}
use Rattle.fills.specs.Lists.{first, rest, beside}
use Rattle.fills.specs.Marks.{bits_of}
use Rattle.fills.proofs.Choices.{Alike, get_or-first, get_or-rest}
use Rattle.fills.proofs.Marked.{length-bits, bits_at}

pub drop-rest : (n : ℕ) (xs : List ℕ) → drop (suc n) xs ≡ drop n (rest xs)
unfolding rest
drop-rest n [] = sym (drop-nil n)
drop-rest n (x ∷ xs) = refl

pub first-drop : (n : ℕ) (xs : List ℕ) → first (drop n xs) ≡ get_or xs n 0
first-drop n xs = sym (get_or-first (drop n xs)) ∙ get_or-drop n xs 0 0 ∙ ap (λ i. get_or xs i 0) (add-zero n)

module _ {A : Type 0} (f : Bool → ℕ → A) where
  pub length-beside : (ms : List Bool) (xs : List ℕ) → length (beside f ms xs) ≡ length ms
  unfolding beside
  length-beside [] xs = refl
  length-beside (m ∷ ms) xs = ap suc (length-beside ms (rest xs))

  pub beside_at : (ms : List Bool) (xs : List ℕ) (i : ℕ) (d : A) → i < length ms → get_or (beside f ms xs) i d ≡ f (get_or ms i false) (get_or xs i 0)
  unfolding beside
  beside_at [] xs i d h = absurd (not-suc-le-zero h)
  beside_at (m ∷ ms) xs zero d h = ap (f m) (sym (get_or-first xs))
  beside_at (m ∷ ms) xs (suc i) d h =
      beside_at ms (rest xs) i d (le_of_suc-le-suc h) ∙ ap (f (get_or ms i false)) (sym (get_or-rest xs i))

  pub beside-append : (ms ns : List Bool) (xs : List ℕ) → beside f (ms ++ ns) xs ≡ beside f ms xs ++ beside f ns (drop (length ms) xs)
  unfolding beside
  beside-append [] ns xs = refl
  beside-append (m ∷ ms) ns xs =
      ap (λ l. f m (first xs) ∷ l)
      (beside-append ms ns (rest xs) ∙ ap (λ l. beside f ms (rest xs) ++ beside f ns l) (sym (drop-rest (length ms) xs)))

  -- what stands behind the marks is not read
  pub beside-front : (ms : List Bool) (xs : List ℕ) → beside f ms (take (length ms) xs) ≡ beside f ms xs
  unfolding beside first rest
  beside-front [] xs = refl
  beside-front (m ∷ ms) [] = refl
  beside-front (m ∷ ms) (x ∷ xs) = ap (λ l. f m x ∷ l) (beside-front ms xs)

  -- nor, where f does not look there, is what stands under them
  pub beside-alike : ((x y : ℕ) → f true x ≡ f true y) → (ms : List Bool) (v w : List ℕ) → Alike ms v w → beside f ms v ≡ beside f ms w
  unfolding beside
  beside-alike h [] v w a = refl
  beside-alike h (true ∷ ms) v w a = ap₂ ◌∷◌ (h (first v) (first w)) (beside-alike h ms (rest v) (rest w) a)
  beside-alike h (false ∷ ms) v w a = ap₂ (λ x l. f false x ∷ l) a.0 (beside-alike h ms (rest v) (rest w) a.1)

  -- rows of N marks, one behind the other
  pub beside-rows : (N : ℕ) (ms : ℕ → List Bool) → ((r : ℕ) → length (ms r) ≡ N) → (xs : List ℕ) (k n : ℕ)
      → beside f (flat_map ms (up_from k n)) (drop (k * N) xs) ≡ flat_map (λ r. beside f (ms r) (take N (drop (r * N) xs))) (up_from k n)
  unfolding up_from flat_map beside
  beside-rows N ms wide xs k zero = refl
  beside-rows N ms wide xs k (suc n) =
      beside-append (ms k) (flat_map ms (up_from (suc k) n)) (drop (k * N) xs)
      ∙ ap₂ (λ a b. a ++ beside f (flat_map ms (up_from (suc k) n)) b)
      (sym (beside-front (ms k) (drop (k * N) xs)) ∙ ap (λ i. beside f (ms k) (take i (drop (k * N) xs))) (wide k))
      (drop-drop (length (ms k)) (k * N) xs ∙ ap (λ i. drop i xs) (ap (λ i. k * N + i) (wide k) ∙ sym (suc-mul k N)))
      ∙ ap (λ l. beside f (ms k) (take N (drop (k * N) xs)) ++ l) (beside-rows N ms wide xs (suc k) n)

  -- the marks are a word's bits
  module _ (w : ℕ) (row : List ℕ) where
    pub length-beside-bits : length (beside f (bits_of (length row) w) row) ≡ length row
    length-beside-bits = length-beside (bits_of (length row) w) row ∙ length-bits (length row) w

    pub beside-bits-at : (c : ℕ) (d : A) → c < length row → f (eqb (bit_at w c) 1) (get_or row c 0) ≡ get_or (beside f (bits_of (length row) w) row) c d
    beside-bits-at c d h =
        ap (λ b. f b (get_or row c 0)) (sym (bits_at (length row) w c h))
        ∙ sym (beside_at (bits_of (length row) w) row c d (subst (λ n. c < n) (sym (length-bits (length row) w)) h))

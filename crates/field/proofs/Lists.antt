-- Lists over ascending numbers, and places in a list. Assumes nothing.
use mathlib.Core.Path.{◌≡◌, refl, sym, ap, ap₂, ◌∙◌}
use mathlib.Core.Bool.{Bool, true, false}
use mathlib.Core.List.{List, [], ◌∷◌, map}
use Prim.Native.Nat.{ℕ, zero, suc, ◌+◌, ◌≤◌, ◌<◌}
use native.Mathlib.Nat.{add-zero, zero-add, add-suc, suc-add, not-suc-le-zero, le_of_suc-le-suc}
use native.Mathlib.Omega.{arith}
use lib.Dec.{eqb}
use lib.ListN.{length, get_or}
use Rattle.field.specs.Lists.{when◌then◌else◌, up_from, place_from}

pub length_up : (k n : ℕ) → length (up_from k n) ≡ n
unfolding up_from
length_up k zero = refl
length_up k (suc n) = ap suc (length_up (suc k) n)

-- what a map over the numbers from k on has at place i
pub get_or-map-up : {A : Type 0} (f : ℕ → A) (k n i : ℕ) (d : A) → i < n → get_or (map f (up_from k n)) i d ≡ f (k + i)
unfolding up_from
get_or-map-up f k zero i d h = absurd (not-suc-le-zero h)
get_or-map-up f k (suc n) zero d h = ap f (sym (add-zero k))
get_or-map-up f k (suc n) (suc i) d h = get_or-map-up f (suc k) n i d (le_of_suc-le-suc h) ∙ ap f (suc-add k i ∙ sym (add-suc k i))

-- the same from 0 on
pub get_or-map-below : {A : Type 0} (f : ℕ → A) (n i : ℕ) (d : A) → i < n → get_or (map f (up_from 0 n)) i d ≡ f i
get_or-map-below f n i d h = get_or-map-up f 0 n i d h ∙ ap f (zero-add i)

-- two maps that agree on the numbers are equal
pub map-up-same : {A : Type 0} (f g : ℕ → A) (k n : ℕ) → ((i : ℕ) → i < n → f (k + i) ≡ g (k + i)) → map f (up_from k n) ≡ map g (up_from k n)
unfolding up_from
map-up-same f g k zero h = refl
map-up-same f g k (suc n) h =
    ap₂ ◌∷◌ (ap f (sym (add-zero k)) ∙ h 0 (omega arith) ∙ ap g (add-zero k))
    (map-up-same f g (suc k) n (λ i l. ap f (suc-add k i ∙ sym (add-suc k i)) ∙ h (suc i) (omega arith) ∙ ap g (add-suc k i ∙ sym (suc-add k i))))

-- a map over the numbers from k + 1 on
pub map-up-suc : {A : Type 0} (f : ℕ → A) (k n : ℕ) → map f (up_from (suc k) n) ≡ map (λ i. f (suc i)) (up_from k n)
unfolding up_from
map-up-suc f k zero = refl
map-up-suc f k (suc n) = ap (λ l. f (suc k) ∷ l) (map-up-suc f (suc k) n)

-- a place in a list is below its length, and so is 0 where nothing is found
pub place-lt : (k : ℕ) (l : List ℕ) (x n : ℕ) → 0 < n → k + length l ≤ n → place_from k l x < n
unfolding when◌then◌else◌ place_from
place-lt k [] x n pos h = pos
place-lt k (y ∷ l) x n pos h = go (eqb y x) (place_from (suc k) l x) (place-lt (suc k) l x n pos (omega arith))
  where
    go : (b : Bool) (r : ℕ) → r < n → (when b then k else r) < n
    go true r l = omega arith
    go false r l = l

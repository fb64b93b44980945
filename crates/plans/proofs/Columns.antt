-- The kinds of row checks and of weights, over any field: their coefficients are elements, and which of their columns are independent. Assumes nothing.
use mathlib.Core.Path.{◌≡◌, refl, sym, ap, ap₂, ◌∙◌}
use mathlib.Core.Bool.{Bool, ◌&&◌}
use mathlib.Core.List.Memᴰ
use mathlib.Core.List.{List, [], ◌∷◌, map}
use Prim.Native.Nat.{ℕ, zero, suc, ◌+◌, ◌/◌, ◌^◌, ◌≤◌, ◌<◌, zero-le}
use native.Mathlib.Nat.{le_of_suc-le-suc, suc_inj}
use native.Mathlib.Omega.{arith}
use lib.Arith.{le-zero}
use lib.Dec.{T, ltb, ltb→lt}
use lib.ListN.{length, length-map, length-replicate}
use Rattle.field.specs.Lists.{up_from, weight}
use Rattle.field.specs.Field.{◌⊕◌, Field, size, dot, gf2}
use Rattle.field.specs.Power.{power, power_sum}
use Rattle.field.proofs.Sum.{bit, ⊕-zero, zero-⊕}
use Rattle.field.proofs.Test.{both_left, both_right}
use Rattle.field.proofs.Laws.{IsField, mul-zero, mul-one}
use Rattle.field.proofs.Fields.{gf2-field}
use Rattle.field.proofs.Words.{EachBelow, each_map, fit, distinct, are-fit, are-distinct, fit-le}
use Rattle.field.proofs.Powers.{power-lt, independent}
use Rattle.fills.specs.Lists.{vanish}
use Rattle.fills.specs.Fill.{sums_of}
use Rattle.fills.proofs.Tests.{in-up}
use Rattle.fills.proofs.Vectors.{sum-zero}
use Rattle.fills.proofs.Filling.{Independent}
use Rattle.fills.proofs.Weights.{marked, weightless-vanish, light-independent}
use Rattle.fills.proofs.Picked.{dot-vanish}
use Rattle.fills.proofs.Spread.{Spread}
use Rattle.plans.specs.Plan.{all_ones, bit_checks}
use Rattle.plans.proofs.Flat.{Rows, each-flat}
use Rattle.plans.proofs.Binary.{binary_checks, power-sums-zero}

-- rows of n elements; any columns fewer than d are independent
pub record Columns (F : Field) (n d : ℕ) (rows : List (List ℕ)) : Type 0 where
  pub fit : Rows (size F) n rows
  pub free : (ms : List Bool) → length ms ≡ n → marked ms < d → Independent F rows ms

-- it is shown of the words that have zero sums
columns : (F : Field) (n d : ℕ) (rows : List (List ℕ)) → Rows (size F) n rows
    → ((w : List ℕ) → EachBelow (size F) w → T (vanish (sums_of F rows w)) → length w ≡ n → weight w ≤ d → weight w ≡ 0) → Columns F n (suc d) rows
columns F n d rows fit light = record { fit = fit; free = λ ms l h. light-independent F rows n d light ms l (le_of_suc-le-suc h) }

-- as many columns as rows are spread
pub spread : {F : Field} {n d : ℕ} {rows : List (List ℕ)} → Columns F n d rows → length rows < d → Spread F rows n
spread c h = record { free = λ ms l few. c.free ms l (omega arith) }

pub no_rows : (F : Field) (n : ℕ) → Columns F n 1 []
no_rows F n = columns F n 0 [] tt (λ w h z l le. le-zero le)

-- ---- parity, or the plain total

module _ (F : Field) (K : IsField F) where
  ones-fit : (n : ℕ) → EachBelow (size F) (all_ones n)
  unfolding all_ones
  ones-fit zero = tt
  ones-fit (suc n) = (K.one-lt, ones-fit n)

  lone-zero : (n : ℕ) (w : List ℕ) → EachBelow (size F) w → length w ≡ n → weight w ≤ 1 → dot F (all_ones n) w ≡ 0 → weight w ≡ 0
  unfolding all_ones weight dot
  lone-zero n [] h l le e = refl
  lone-zero zero (x ∷ w) h l le e = absurd (omega arith)
  lone-zero (suc n) (zero ∷ w) h l le e =
      lone-zero n w h.1 (suc_inj l) le (sym (ap (λ x. x ⊕ dot F (all_ones n) w) (mul-zero F K 1) ∙ zero-⊕ _) ∙ e)
  lone-zero (suc n) (suc x ∷ w) h l le e =
      let none : weight w ≡ 0 = le-zero (le_of_suc-le-suc le) in
      let alone : suc x ≡ 0 =
      sym (ap₂ ◌⊕◌ (K.unit (suc x) h.0) (dot-vanish F K (all_ones n) w (weightless-vanish w none)) ∙ ⊕-zero (suc x)) ∙ e in
      absurd (omega arith)

  ones-row : (n : ℕ) → (length (all_ones n) ≡ n) × EachBelow (size F) (all_ones n)
  unfolding all_ones
  ones-row n = (length-replicate n 1, ones-fit n)

  pub plain-total : (n : ℕ) → Columns F n 2 (all_ones n ∷ [])
  plain-total n =
      columns F n 1 (all_ones n ∷ []) (ones-row n, tt)
      (λ w h z l le. lone-zero n w h l le (sum-zero F (all_ones n ∷ []) w (all_ones n) z (Memᴰ.head refl)))

-- ---- power sums at distinct locations

-- power sums 0 to m - 1
abbrev pub power_checks : Field → List ℕ → ℕ → List (List ℕ)
power_checks L xs m = map (λ p. map (λ x. power L x p) xs) (up_from 0 m)

-- the test of locations: they are distinct elements of the field
abbrev pub are_locations : Field → List ℕ → Bool
are_locations L xs = distinct xs && fit (size L) xs

-- a location is its own first power
pub first-powers : (L : Field) → IsField L → (xs : List ℕ) → T (fit (size L) xs) → map (λ x. power L x 1) xs ≡ xs
unfolding power
first-powers L K [] t = refl
first-powers L K (x ∷ xs) t =
    ap₂ ◌∷◌ (mul-one L K x (ltb→lt x (size L) (both_left (ltb x (size L)) (fit (size L) xs) t)))
    (first-powers L K xs (both_right (ltb x (size L)) (fit (size L) xs) t))

module _ (L : Field) (K : IsField L) (xs : List ℕ) (t : T (are_locations L xs)) where
  -- as many power sums as weigh a word show that it is zero
  zero_word : (w : List ℕ) (m : ℕ) → EachBelow (size L) w → length w ≡ length xs → weight w ≤ m → ((p : ℕ) → p < m → power_sum L xs w p ≡ 0)
      → weight w ≡ 0
  zero_word w m =
      independent L K xs w m (are-distinct xs (both_left (distinct xs) (fit (size L) xs) t))
      (are-fit (size L) xs (both_right (distinct xs) (fit (size L) xs) t))

  pub power-sums : (m : ℕ) → Columns L (length xs) (suc m) (power_checks L xs m)
  unfolding power_sum
  power-sums m =
      columns L (length xs) m (power_checks L xs m)
      (each_map _ _ (λ p. (length-map xs _, each_map (λ y. y < size L) _ (λ x. power-lt L K x p) xs)) (up_from 0 m))
      (λ w h z l le. zero_word w m h l le (λ p lt. sum-zero L (power_checks L xs m) w _ z (Memᴰ.map _ (in-up 0 m p zero-le (omega arith)))))

  -- ---- bits: parity, and the bits of the power sums 1 to 2 j - 1

  bits_fit : (n m : ℕ) (ys : List ℕ) → length ys ≡ m → Rows 2 m (bit_checks n ys)
  unfolding bit_checks
  bits_fit n m ys e = each_map _ _ (λ k. (length-map ys _ ∙ e, each_map (λ y. y < 2) _ (λ y. bit (y / 2 ^ k)) ys)) (up_from 0 n)

  pub binary-sums : (j : ℕ) → Columns gf2 (length xs) (suc (suc (j + j))) (binary_checks L xs j)
  unfolding size gf2
  binary-sums j =
      columns gf2 (length xs) (suc (j + j)) (binary_checks L xs j)
      (ones-row gf2 gf2-field (length xs), each-flat _ _ (λ i. bits_fit L.width (length xs) _ (length-map xs _)) (up_from 0 j))
      (λ w h z l le. zero_word w (suc (j + j)) (fit-le 2 (size L) K.one-lt w h) l le (power-sums-zero L K xs w h j z))

-- Binary row checks: what they say of the power sums of a word of bits, in any location field. Assumes nothing.
use mathlib.Core.Path.{◌≡◌, refl, sym, ap, ap₂, ◌∙◌, subst}
use mathlib.Core.Logic.{inl, inr}
use mathlib.Core.List.Memᴰ
use mathlib.Core.List.{List, [], ◌∷◌, map, flat_map}
use Prim.Native.Nat.{ℕ, zero, suc, ◌+◌, ◌/◌, ◌%◌, ◌^◌, ◌<◌, zero-le}
use native.Mathlib.Nat.{mod-eq_of_lt, zero-mod, le_trans}
use native.Mathlib.Omega.{arith}
use lib.Arith.{bin_ind}
use lib.Dec.{T}
use lib.ListN.{length}
use Rattle.field.specs.Lists.{up_from}
use Rattle.field.specs.Field.{◌⊕◌, Field, size, mul, dot, gf2}
use Rattle.field.specs.Power.{power, power_sum}
use Rattle.field.proofs.Sum.{of-bits, bit}
use Rattle.field.proofs.Laws.{IsField, zero-mul, mul-zero, mul-one, dot-lt}
use Rattle.field.proofs.Fields.{gf2-field}
use Rattle.field.proofs.Words.{EachBelow, each_map}
use Rattle.field.proofs.Powers.{power-lt, square-sum}
use Rattle.equations.specs.Words.{bit_at}
use Rattle.equations.proofs.Bits.{bit-of-none, bit-sum, bits-low}
use Rattle.fills.specs.Lists.{vanish}
use Rattle.fills.specs.Fill.{sums_of}
use Rattle.fills.proofs.Vectors.{sum-zero}
use Rattle.fills.proofs.Tests.{In, in-up}
use Rattle.plans.specs.Plan.{all_ones, bit_checks}

-- parity, and the bits of the power sums 1, 3, … 2 j - 1
abbrev pub odd_bits : Field → List ℕ → ℕ → List (List ℕ)
odd_bits L xs j = flat_map (λ i. bit_checks L.width (map (λ x. power L x (suc (i + i))) xs)) (up_from 0 j)

abbrev pub binary_checks : Field → List ℕ → ℕ → List (List ℕ)
binary_checks L xs j = all_ones (length xs) ∷ odd_bits L xs j

-- ---- members

in-below : {n i : ℕ} → i < n → In i (up_from 0 n)
in-below {n} {i} h = in-up 0 n i zero-le (omega arith)

in-flat : {A B : Type 0} (f : A → List B) {x : A} {y : B} (l : List A) → In x l → In y (f x) → In y (flat_map f l)
unfolding flat_map
in-flat f [] m n = absurd (Memᴰ.not-nil m)
in-flat f {y = y} (z ∷ l) m n =
    elim (Memᴰ.cases_cons m) [
      | inl e ↦ Memᴰ.append_left (flat_map f l) (subst (λ z. In y (f z)) e n)
      | inr h ↦ Memᴰ.append_right (f z) (in-flat f l h n)
    ]

-- ---- bits

-- a number of n bits, each 0, is 0
all-bits : (n s : ℕ) → s < 2 ^ n → ((k : ℕ) → k < n → bit_at s k ≡ 0) → s ≡ 0
all-bits n s h z = sym (mod-eq_of_lt h) ∙ bits-low n s 0 (λ k l. z k l ∙ sym (bit-of-none k)) ∙ zero-mod (2 ^ n)

module _ (L : Field) (K : IsField L) where
  -- parity is power sum 0
  parity : (xs w : List ℕ) → EachBelow 2 w → dot gf2 (all_ones (length xs)) w ≡ power_sum L xs w 0
  unfolding all_ones dot power power_sum size gf2
  parity [] w h = refl
  parity (x ∷ xs) [] h = refl
  parity (x ∷ xs) (c ∷ w) h =
      ap₂ ◌⊕◌ (gf2-field.unit c h.0 ∙ sym (K.unit c (le_trans h.0 K.one-lt))) (parity xs w h.1)

  -- the sum of the numbers' k-th bits is the k-th bit of their sum
  bits-sum : (k : ℕ) (ys w : List ℕ) → EachBelow (size L) ys → EachBelow 2 w → dot gf2 (map (λ y. y / 2 ^ k % 2) ys) w ≡ dot L ys w / 2 ^ k % 2
  unfolding dot size gf2
  bits-sum k [] w hy h = sym (bit-of-none k)
  bits-sum k (y ∷ ys) [] hy h = sym (bit-of-none k)
  bits-sum k (y ∷ ys) (c ∷ w) hy h = ap₂ ◌⊕◌ term (bits-sum k ys w hy.1 h.1) ∙ sym (bit-sum (mul L y c) (dot L ys w) k)
    where
      term : mul gf2 (y / 2 ^ k % 2) c ≡ mul L y c / 2 ^ k % 2
      term =
          of-bits (λ c. mul gf2 (y / 2 ^ k % 2) c ≡ mul L y c / 2 ^ k % 2)
          (rw (mul-zero gf2 gf2-field, mul-zero L K) (sym (bit-of-none k)))
          (rw (mul-one gf2 gf2-field (y / 2 ^ k % 2) (bit (y / 2 ^ k)), mul-one L K y hy.0))
          c h.0

  -- so a sum whose bits all vanish is 0
  bits-zero : (ys w : List ℕ) → EachBelow (size L) ys → EachBelow 2 w → ((k : ℕ) → k < L.width → dot gf2 (map (λ y. y / 2 ^ k % 2) ys) w ≡ 0)
      → dot L ys w ≡ 0
  unfolding size
  bits-zero ys w hy h z = all-bits L.width (dot L ys w) (dot-lt L K ys w) (λ k l. sym (bits-sum k ys w hy h) ∙ z k l)

  -- ---- power sums

  module _ (xs w : List ℕ) (h : EachBelow 2 w) (j : ℕ) (t : T (vanish (sums_of gf2 (binary_checks L xs j) w))) where
    odd-zero : (i : ℕ) → i < j → power_sum L xs w (suc (i + i)) ≡ 0
    unfolding power_sum bit_checks
    odd-zero i l =
        bits-zero (map (λ x. power L x (suc (i + i))) xs) w (each_map (λ y. y < size L) _ (λ x. power-lt L K x (suc (i + i))) xs) h
        (λ k m. sum-zero gf2 (binary_checks L xs j) w _ t (Memᴰ.tail (in-flat _ (up_from 0 j) (in-below l) (Memᴰ.map _ (in-below m)))))

    -- the even ones follow by squaring
    pub power-sums-zero : (p : ℕ) → p < suc (j + j) → power_sum L xs w p ≡ 0
    power-sums-zero =
        bin_ind (λ p. p < suc (j + j) → power_sum L xs w p ≡ 0)
        (λ l. sym (parity xs w h) ∙ sum-zero gf2 (binary_checks L xs j) w (all_ones (length xs)) t (Memᴰ.head refl))
        (λ p ih l. go p (p % 2) refl (bit p) ih l)
      where
        go : (p b : ℕ) → p % 2 ≡ b → b < 2 → (p / 2 < suc (j + j) → power_sum L xs w (p / 2) ≡ 0) → p < suc (j + j)
            → power_sum L xs w p ≡ 0
        go p zero e b ih l =
            ap (power_sum L xs w) (omega arith) ∙ sym (square-sum L K xs w (p / 2) h)
            ∙ ap (λ z. mul L z (power_sum L xs w (p / 2))) (ih (omega arith)) ∙ zero-mul L K (power_sum L xs w (p / 2))
        go p (suc zero) e b ih l = ap (power_sum L xs w) (omega arith) ∙ odd-zero (p / 2) (omega arith)
        go p (suc (suc b)) e l ih m = absurd (omega arith)

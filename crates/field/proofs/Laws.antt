-- What it is to be a field, shown once for every width and polynomial; and the further laws of any field. Assumes nothing.
use mathlib.Core.Path.{◌≡◌, refl, sym, ap, ap₂, ◌∙◌}
use mathlib.Core.Logic.{◌≢◌}
use mathlib.Core.Bool.{Bool}
use mathlib.Core.List.{List, [], ◌∷◌}
use Prim.Native.Nat.{ℕ, zero, suc, pred, ◌/◌, ◌<◌}
use native.Mathlib.Nat.{zero-add}
use native.Mathlib.Omega.{arith}
use lib.Dec.{T, eqb, eqb→eq}
use lib.ListN.{get_or}
use Rattle.field.specs.Lists.{place_from}
use Rattle.field.specs.Field.{◌⊕◌, Field, size, mul, inverse, dot}
use Rattle.field.specs.Power.{power, orbit}
use Rattle.field.proofs.Sum.{⊕-self, ⊕-lt}
use Rattle.field.proofs.Test.{below, at}
use Rattle.field.proofs.Lists.{place-lt}
use Rattle.field.proofs.Ring.{mul_comm, ⊕-mul, one-mul', mul-lt, mul_assoc}
use Rattle.field.proofs.Exponents.{length-orbit, orbit-at, power-order, times-inverse}

-- The laws of the sum have no bounds and stand in Sum. The product's laws hold of all numbers but where a bound is named.
pub record IsField (F : Field) : Type 0 where
  pub one-lt : 1 < size F
  pub sum_lt : (a b : ℕ) → a < size F → b < size F → a ⊕ b < size F
  pub product_lt : (a b : ℕ) → mul F a b < size F
  pub comm : (a b : ℕ) → mul F a b ≡ mul F b a
  pub assoc : (a b c : ℕ) → mul F (mul F a b) c ≡ mul F a (mul F b c)
  pub distrib : (a b c : ℕ) → mul F (a ⊕ b) c ≡ mul F a c ⊕ mul F b c
  pub unit : (a : ℕ) → a < size F → mul F 1 a ≡ a
  pub inverts : (a : ℕ) → a < size F → a ≢ 0 → mul F a (inverse F a) ≡ 1

-- the test of a field: each element that is not 0 has its inverse
abbrev pub inverted : Field → ℕ → Bool
inverted F k = eqb (mul F (suc k) (inverse F (suc k))) 1

-- another: each element that is not 0 stands among the powers of one
abbrev pub among : (powers : List ℕ) → ℕ → Bool
among powers k = eqb (get_or powers (place_from 0 powers (suc k)) 0) (suc k)

-- the powers of a, up to where a field's begin again
abbrev pub powers_in : Field → (a : ℕ) → List ℕ
powers_in F a = orbit F a 1 (pred (size F))

pub place-power : (F : Field) → 1 < size F → (a k : ℕ) → T (among (powers_in F a) k) → power F a (place_from 0 (powers_in F a) (suc k)) ≡ suc k
unfolding power
place-power F one a k t =
    let n = pred (size F) in
    let i = place_from 0 (orbit F a 1 n) (suc k) in
    let there : i < n = place-lt 0 (orbit F a 1 n) (suc k) n (omega arith) (omega (arith, length-orbit F a 1 n)) in
    ap (power F a) (sym (zero-add i)) ∙ sym (orbit-at F a 0 n i there) ∙ eqb→eq _ _ t

module _ (F : Field) (degree : F.polynomial / size F ≡ 1) (one : 1 < size F) where
  -- a test of each element that is not 0, and why it shows that it is inverted
  by-test : (f : ℕ → Bool) → ((k : ℕ) → T (f k) → mul F (suc k) (inverse F (suc k)) ≡ 1) → T (below (pred (size F)) f) → IsField F
  unfolding size
  by-test f shows test = record {
    one-lt = one;
    sum_lt = ⊕-lt F.width;
    product_lt = mul-lt F degree;
    comm = mul_comm F;
    assoc = mul_assoc F degree;
    distrib = ⊕-mul F;
    unit = one-mul' F one;
    inverts = inverse-of;
  }
    where
      inverse-of : (a : ℕ) → a < size F → a ≢ 0 → mul F a (inverse F a) ≡ 1
      inverse-of zero h ne = absurd (ne refl)
      inverse-of (suc k) h ne = shows k (at (pred (size F)) f test k (omega arith))

  pub is_field : T (below (pred (size F)) (inverted F)) → IsField F
  is_field = by-test (inverted F) (λ k. eqb→eq _ _)

  -- where a ^ (size - 1) is 1, so is that power of each power of a, and it is x times its inverse
  pub generates : (a : ℕ) → power F a (pred (size F)) ≡ 1 → T (below (pred (size F)) (among (powers_in F a))) → IsField F
  generates a period = by-test (among (powers_in F a)) (λ k t.
      times-inverse F one (mul-lt F degree) (mul_comm F) (mul_assoc F degree) (one-mul' F one) (suc k)
      ∙ ap (λ x. power F x (pred (size F))) (sym (place-power F one a k t))
      ∙ power-order F one (mul-lt F degree) (mul_comm F) (mul_assoc F degree) (one-mul' F one) a (pred (size F)) _ period)

module _ (F : Field) (K : IsField F) where
  open K use {comm, assoc, distrib, unit, inverts, product_lt, sum_lt, one-lt}

  pub zero-mul : (a : ℕ) → mul F 0 a ≡ 0
  zero-mul a = ap (λ z. mul F z a) (sym (⊕-self 0)) ∙ distrib 0 0 a ∙ ⊕-self (mul F 0 a)

  pub mul-zero : (a : ℕ) → mul F a 0 ≡ 0
  mul-zero a = comm a 0 ∙ zero-mul a

  pub mul-one : (a : ℕ) → a < size F → mul F a 1 ≡ a
  mul-one a h = comm a 1 ∙ unit a h

  pub mul-⊕ : (a b c : ℕ) → mul F a (b ⊕ c) ≡ mul F a b ⊕ mul F a c
  mul-⊕ a b c = comm a (b ⊕ c) ∙ distrib b c a ∙ ap₂ ◌⊕◌ (comm b a) (comm c a)

  pub mul_left_comm : (a b c : ℕ) → mul F a (mul F b c) ≡ mul F b (mul F a c)
  mul_left_comm a b c = sym (assoc a b c) ∙ ap (λ z. mul F z c) (comm a b) ∙ assoc b a c

  -- no zero divisors
  pub domain : (a b : ℕ) → a < size F → b < size F → b ≢ 0 → mul F a b ≡ 0 → a ≡ 0
  domain a b ha hb ne e =
      sym (mul-one a ha) ∙ ap (mul F a) (sym (inverts b hb ne)) ∙ sym (assoc a b (inverse F b)) ∙ ap (λ z. mul F z (inverse F b)) e
      ∙ zero-mul (inverse F b)

  pub size-pos : 0 < size F
  size-pos = omega (arith, one-lt)

  pub dot-lt : (cs xs : List ℕ) → dot F cs xs < size F
  unfolding dot
  dot-lt [] xs = size-pos
  dot-lt (c ∷ cs) [] = size-pos
  dot-lt (c ∷ cs) (x ∷ xs) = sum_lt (mul F c x) (dot F cs xs) (product_lt c x) (dot-lt cs xs)

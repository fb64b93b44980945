-- Powers where the product is associative, stays below the size and has the unit 1, and nothing is known of inverses: exponents add and
-- multiply, and the field's inverse is a power. Assumes nothing.
use mathlib.Core.Path.{◌≡◌, refl, sym, ap, ◌∙◌}
use Prim.Native.Nat.{ℕ, zero, suc, pred, ◌+◌, ◌*◌, ◌^◌, ◌<◌}
use native.Mathlib.Nat.{add-zero, zero-add, add-suc, suc-add, suc-mul, zero-mul, add_comm, mul_comm as nat-mul-comm, pow-suc}
use native.Mathlib.Omega.{arith}
use lib.ListN.{length, get_or}
use Rattle.field.specs.Field.{Field, size, mul, squares, inverse}
use Rattle.field.specs.Power.{power, orbit}

-- 2 ^ (n + 1) - 2
unfoldable exponent : ℕ → ℕ
exponent zero = 0
exponent (suc n) = suc (exponent n) * 2

exponent-is : (n : ℕ) → suc (suc (exponent n)) ≡ 2 ^ suc n
unfolding exponent
exponent-is zero = refl
exponent-is (suc n) = omega (arith, exponent-is n, pow-suc 2 (suc n))

pub length-orbit : (F : Field) (a x n : ℕ) → length (orbit F a x n) ≡ n
unfolding orbit
length-orbit F a x zero = refl
length-orbit F a x (suc n) = ap suc (length-orbit F a (mul F a x) n)

-- an orbit that starts at a power is a list of powers
pub orbit-at : (F : Field) (a k n i : ℕ) → i < n → get_or (orbit F a (power F a k) n) i 0 ≡ power F a (k + i)
unfolding orbit power
orbit-at F a k zero i l = omega arith
orbit-at F a k (suc n) zero l = ap (power F a) (sym (add-zero k))
orbit-at F a k (suc n) (suc i) l = orbit-at F a (suc k) n i (omega arith) ∙ ap (power F a) (suc-add k i ∙ sym (add-suc k i))

module _ (F : Field) (one-lt : 1 < size F) (product_lt : (a b : ℕ) → mul F a b < size F) (comm : (a b : ℕ) → mul F a b ≡ mul F b a)
    (assoc : (a b c : ℕ) → mul F (mul F a b) c ≡ mul F a (mul F b c)) (unit : (a : ℕ) → a < size F → mul F 1 a ≡ a) where
  pub power-lt : (x p : ℕ) → power F x p < size F
  unfolding power
  power-lt x zero = one-lt
  power-lt x (suc p) = product_lt x (power F x p)

  pub power-add : (x p r : ℕ) → power F x (p + r) ≡ mul F (power F x p) (power F x r)
  unfolding power
  power-add x zero r = ap (power F x) (zero-add r) ∙ sym (unit (power F x r) (power-lt x r))
  power-add x (suc p) r = ap (power F x) (suc-add p r) ∙ ap (mul F x) (power-add x p r) ∙ sym (assoc x (power F x p) (power F x r))

  power-mul : (x p r : ℕ) → power F (power F x p) r ≡ power F x (r * p)
  unfolding power
  power-mul x p zero = sym (ap (power F x) (zero-mul p))
  power-mul x p (suc r) =
      ap (mul F (power F x p)) (power-mul x p r) ∙ sym (power-add x p (r * p)) ∙ ap (power F x) (add_comm p (r * p) ∙ sym (suc-mul r p))

  power-one : (p : ℕ) → power F 1 p ≡ 1
  unfolding power
  power-one zero = refl
  power-one (suc p) = unit (power F 1 p) (power-lt 1 p) ∙ power-one p

  -- where x ^ n is 1, so is the power n of each power of x
  pub power-order : (x n p : ℕ) → power F x n ≡ 1 → power F (power F x p) n ≡ 1
  power-order x n p e =
      power-mul x p n ∙ ap (power F x) (nat-mul-comm n p) ∙ sym (power-mul x n p) ∙ ap (λ z. power F z p) e ∙ power-one p

  square : (x : ℕ) → mul F x x ≡ power F x 2
  unfolding power
  square x = sym (unit (mul F x x) (product_lt x x)) ∙ comm 1 (mul F x x) ∙ assoc x x 1

  squares-power : (n x : ℕ) → squares F n x ≡ power F x (exponent n)
  unfolding squares power exponent
  squares-power zero x = refl
  squares-power (suc n) x =
      ap (mul F (mul F x x)) (squares-power n (mul F x x)) ∙ ap (λ s. power F s (suc (exponent n))) (square x) ∙ power-mul x 2 (suc (exponent n))

  -- so x times its inverse is the power size - 1 of x
  pub times-inverse : (x : ℕ) → mul F x (inverse F x) ≡ power F x (pred (size F))
  unfolding inverse size power
  times-inverse x = go F.width one-lt
    where
      go : (w : ℕ) → 1 < 2 ^ w → mul F x (squares F (pred w) x) ≡ power F x (pred (2 ^ w))
      go zero l = omega arith
      go (suc n) l = ap (mul F x) (squares-power n x) ∙ ap (λ k. power F x (pred k)) (exponent-is n)

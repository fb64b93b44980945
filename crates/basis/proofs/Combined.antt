-- Combinations of words add as what names them does. Assumes nothing.
use mathlib.Core.Path.{◌≡◌, refl, sym, ap, ap₂, ◌∙◌}
use mathlib.Core.Logic.{inl, inr}
use Prim.Native.Nat.{ℕ, zero, suc, ◌*◌, ◌%◌, ◌^◌, ◌≤◌, ◌<◌}
use native.Mathlib.Nat.{zero-mul, one-mul, zero-mod, eq-or-lt_of_le, le_of_suc-le-suc, lt_of_lt_of_le}
use native.Mathlib.Omega.{arith}
use lib.Arith.{le-zero}
use lib.Pow.{pow_mono}
use Rattle.field.specs.Field.{◌⊕◌}
use Rattle.field.proofs.Sum.{of-bits, bit, ⊕-zero, zero-⊕, ⊕-mod, ⊕-four, last-⊕}
use Rattle.equations.specs.Words.{bit_at}
use Rattle.basis.specs.Span.{combined}
use Rattle.equations.proofs.Bits.{bit-of-none, bit-above, power-own, power_below, bit-sum}

combined-same : (f x y : ℕ → ℕ) (n : ℕ) → ((j : ℕ) → j < n → x j % 2 ≡ y j % 2) → combined f x n ≡ combined f y n
unfolding combined
combined-same f x y zero h = refl
combined-same f x y (suc n) h = ap₂ ◌⊕◌ (combined-same f x y n (λ j l. h j (omega arith))) (ap (λ b. b * f n) (h n (omega arith)))

pub combined-sum : (f x y : ℕ → ℕ) (n : ℕ) → combined f (λ j. x j ⊕ y j) n ≡ combined f x n ⊕ combined f y n
unfolding combined
combined-sum f x y zero = sym (zero-⊕ 0)
combined-sum f x y (suc n) = ap₂ ◌⊕◌ (combined-sum f x y n) (last-⊕ (x n) (y n) (f n)) ∙ ⊕-four _ _ _ _

combined-none : (f x : ℕ → ℕ) (n : ℕ) → ((j : ℕ) → j < n → x j ≡ 0) → combined f x n ≡ 0
unfolding combined
combined-none f x zero h = refl
combined-none f x (suc n) h =
    ap₂ ◌⊕◌ (combined-none f x n (λ j l. h j (omega arith))) (ap (λ b. b % 2 * f n) (h n (omega arith)) ∙ zero-mul (f n)) ∙ zero-⊕ 0

-- ---- named by the bits of a word

pub combined-masks : (f : ℕ → ℕ) (a b n : ℕ) → combined f (bit_at (a ⊕ b)) n ≡ combined f (bit_at a) n ⊕ combined f (bit_at b) n
combined-masks f a b n =
    combined-same f (bit_at (a ⊕ b)) (λ j. bit_at a j ⊕ bit_at b j) n (λ j _. ap (λ x. x % 2) (bit-sum a b j)) ∙ combined-sum f (bit_at a) (bit_at b) n

pub combined-zero : (f : ℕ → ℕ) (n : ℕ) → combined f (bit_at 0) n ≡ 0
combined-zero f n = combined-none f (bit_at 0) n (λ j _. bit-of-none j)

-- a mask of the words before word t does not name it
pub combined-past : (f : ℕ → ℕ) (a t : ℕ) → a < 2 ^ t → combined f (bit_at a) (suc t) ≡ combined f (bit_at a) t
unfolding combined
combined-past f a t h =
    ap (λ b. combined f (bit_at a) t ⊕ b % 2 * f t) (bit-above t a t h (omega arith)) ∙ ap (λ z. combined f (bit_at a) t ⊕ z) (zero-mul (f t)) ∙ ⊕-zero _

-- nor any word behind it
pub combined-longer : (f : ℕ → ℕ) (a t k : ℕ) → a < 2 ^ t → t ≤ k → combined f (bit_at a) k ≡ combined f (bit_at a) t
combined-longer f a t zero h le = ap (combined f (bit_at a)) (sym (le-zero le))
combined-longer f a t (suc k) h le =
    elim (eq-or-lt_of_le le) [
      | inl e ↦ ap (combined f (bit_at a)) (sym e)
      | inr g ↦ combined-past f a k (lt_of_lt_of_le h (pow_mono {i = t} (le_of_suc-le-suc g))) ∙ combined-longer f a t k h (le_of_suc-le-suc g)
    ]

-- word t alone
pub combined-one : (f : ℕ → ℕ) (t : ℕ) → combined f (bit_at (2 ^ t)) (suc t) ≡ f t
unfolding combined
combined-one f t =
    ap₂ ◌⊕◌ (combined-none f (bit_at (2 ^ t)) t (power_below t)) (ap (λ b. b % 2 * f t) (power-own t) ∙ one-mul (f t)) ∙ zero-⊕ (f t)

-- ---- the low bits of the words

cut-times : (m a b : ℕ) → b < 2 → b * a % 2 ^ m ≡ b * (a % 2 ^ m)
cut-times m a b l =
    of-bits (λ b. b * a % 2 ^ m ≡ b * (a % 2 ^ m)) (ap (λ z. z % 2 ^ m) (zero-mul a) ∙ zero-mod (2 ^ m) ∙ sym (zero-mul _))
    (ap (λ z. z % 2 ^ m) (one-mul a) ∙ sym (one-mul _)) b l

pub combined-cut : (f x : ℕ → ℕ) (m n : ℕ) → combined f x n % 2 ^ m ≡ combined (λ j. f j % 2 ^ m) x n
unfolding combined
combined-cut f x m zero = zero-mod (2 ^ m)
combined-cut f x m (suc n) = ⊕-mod _ _ m ∙ ap₂ ◌⊕◌ (combined-cut f x m n) (cut-times m (f n) (x n % 2) (bit (x n)))

-- Laws of the sum ⊕. Assumes nothing.
use mathlib.Core.Path.{◌≡◌, refl, sym, ap, ap₂, ◌∙◌}
use Prim.Native.Nat.{ℕ, zero, suc, ◌+◌, ◌*◌, ◌/◌, ◌%◌, ◌^◌, ◌<◌}
use native.Mathlib.Nat.{mod-lt, zero-lt-suc, not-suc-le-zero, le_of_suc-le-suc, mul-div_cancel, mul-mod_left, zero-mul}
use native.Mathlib.Omega.{arith}
use lib.Arith.{bin_ind, digits_mod}
use lib.Bits.{bit_xor, differ, xor_step, xor_shr, xor_mod, xor_lt, xor_zero_r, xor_self, xor_comm, xor_shifted}
use Rattle.field.specs.Field.{◌⊕◌}

-- ---- bits

-- what holds of 0 and of 1 holds of every bit
pub of-bits {ℓ} : (P : ℕ → Type ℓ) → P 0 → P 1 → (n : ℕ) → n < 2 → P n
of-bits P p q zero h = p
of-bits P p q (suc zero) h = q
of-bits P p q (suc (suc n)) h = absurd (not-suc-le-zero (le_of_suc-le-suc (le_of_suc-le-suc h)))

pub bit : (n : ℕ) → n % 2 < 2
bit n = mod-lt n (zero-lt-suc 1)

differ-lt : (x y : ℕ) → x < 2 → y < 2 → differ x y < 2
differ-lt x y h k = of-bits (λ x. differ x y < 2) k (of-bits (λ y. differ 1 y < 2) (omega arith) (omega arith) y k) x h

differ-assoc : (x y z : ℕ) → x < 2 → y < 2 → z < 2 → differ (differ x y) z ≡ differ x (differ y z)
differ-assoc x y z h k l = of-bits (λ x. differ (differ x y) z ≡ differ x (differ y z)) refl one x h
  where
    one : differ (differ 1 y) z ≡ differ 1 (differ y z)
    one =
        of-bits (λ y. differ (differ 1 y) z ≡ differ 1 (differ y z)) refl
        (of-bits (λ z. differ 0 z ≡ differ 1 (differ 1 z)) refl refl z l) y k

-- the last bit of a sum
last : (a b : ℕ) → bit_xor a b % 2 ≡ differ (a % 2) (b % 2)
last a b = ap (λ x. x % 2) (xor_step a b) ∙ digits_mod (bit_xor (a / 2) (b / 2)) (differ-lt (a % 2) (b % 2) (bit a) (bit b))

-- ---- the group

pub ⊕-assoc : (a b c : ℕ) → a ⊕ b ⊕ c ≡ a ⊕ (b ⊕ c)
unfolding ◌⊕◌
⊕-assoc =
    bin_ind (λ a. (b c : ℕ) → bit_xor (bit_xor a b) c ≡ bit_xor a (bit_xor b c)) (λ b c. refl)
    (λ a ih b c.
    xor_step (bit_xor a b) c
    ∙ ap₂ (λ r d. r * 2 + d)
    (ap (λ r. bit_xor r (c / 2)) (xor_shr a b 1) ∙ ih (b / 2) (c / 2) ∙ ap (bit_xor (a / 2)) (sym (xor_shr b c 1)))
    (ap (λ d. differ d (c % 2)) (last a b) ∙ differ-assoc (a % 2) (b % 2) (c % 2) (bit a) (bit b) (bit c)
    ∙ ap (differ (a % 2)) (sym (last b c)))
    ∙ sym (xor_step a (bit_xor b c)))

pub ⊕-comm : (a b : ℕ) → a ⊕ b ≡ b ⊕ a
unfolding ◌⊕◌
⊕-comm = xor_comm

pub ⊕-self : (a : ℕ) → a ⊕ a ≡ 0
unfolding ◌⊕◌
⊕-self = xor_self

pub ⊕-zero : (a : ℕ) → a ⊕ 0 ≡ a
unfolding ◌⊕◌
⊕-zero = xor_zero_r

pub zero-⊕ : (a : ℕ) → 0 ⊕ a ≡ a
unfolding ◌⊕◌
zero-⊕ a = refl

pub ⊕-left-comm : (a b c : ℕ) → a ⊕ (b ⊕ c) ≡ b ⊕ (a ⊕ c)
⊕-left-comm a b c = rw (← ⊕-assoc a b c, ⊕-comm a b, ⊕-assoc)

-- the middle two of four change places
pub ⊕-four : (a b c d : ℕ) → a ⊕ b ⊕ (c ⊕ d) ≡ a ⊕ c ⊕ (b ⊕ d)
⊕-four a b c d = simp (⊕-assoc, ⊕-left-comm b c d)

-- the last two of three change places
pub ⊕-three : (a b c : ℕ) → a ⊕ b ⊕ c ≡ a ⊕ c ⊕ b
⊕-three a b c = simp (⊕-assoc, ⊕-comm b c)

-- the same number twice is nothing
pub ⊕-undo : (a b : ℕ) → a ⊕ (a ⊕ b) ≡ b
⊕-undo a b = rw (← ⊕-assoc a a b, ⊕-self a) (zero-⊕ b)

-- only equal numbers cancel
pub ⊕-cancel : (a b : ℕ) → a ⊕ b ≡ 0 → a ≡ b
⊕-cancel a b e = sym (⊕-zero a) ∙ ap (λ z. a ⊕ z) (sym e) ∙ ⊕-undo a b

-- ---- the sum and the number's digits

pub ⊕-lt : (k a b : ℕ) → a < 2 ^ k → b < 2 ^ k → a ⊕ b < 2 ^ k
unfolding ◌⊕◌
⊕-lt = xor_lt

pub ⊕-shr : (a b k : ℕ) → (a ⊕ b) / 2 ^ k ≡ a / 2 ^ k ⊕ b / 2 ^ k
unfolding ◌⊕◌
⊕-shr = xor_shr

pub ⊕-mod : (a b k : ℕ) → (a ⊕ b) % 2 ^ k ≡ a % 2 ^ k ⊕ b % 2 ^ k
unfolding ◌⊕◌
⊕-mod = xor_mod

pub ⊕-double : (a b : ℕ) → (a ⊕ b) * 2 ≡ a * 2 ⊕ b * 2
unfolding ◌⊕◌
⊕-double a b =
    sym
    (xor_step (a * 2) (b * 2)
    ∙ ap₂ (λ r d. r * 2 + d)
    (ap₂ bit_xor (mul-div_cancel a (zero-lt-suc 1)) (mul-div_cancel b (zero-lt-suc 1)))
    (ap₂ differ (mul-mod_left a 2) (mul-mod_left b 2))
    ∙ omega arith)

-- a bit behind an even number
pub ⊕-digit : (v b : ℕ) → b < 2 → b ⊕ v * 2 ≡ v * 2 + b
unfolding ◌⊕◌
⊕-digit v b h = xor_comm b (v * 2) ∙ xor_shifted v 1 b h

-- the last bit of a sum, times a number
pub last-⊕ : (a b v : ℕ) → (a ⊕ b) % 2 * v ≡ a % 2 * v ⊕ b % 2 * v
unfolding ◌⊕◌
last-⊕ a b v = ap (λ d. d * v) (last a b) ∙ go (a % 2) (b % 2) (bit a) (bit b)
  where
    one : (y : ℕ) → y < 2 → differ 1 y * v ≡ bit_xor (1 * v) (y * v)
    one =
        of-bits (λ y. differ 1 y * v ≡ bit_xor (1 * v) (y * v)) (sym (ap (bit_xor (1 * v)) (zero-mul v) ∙ xor_zero_r (1 * v)))
        (zero-mul v ∙ sym (xor_self (1 * v)))

    go : (x y : ℕ) → x < 2 → y < 2 → differ x y * v ≡ bit_xor (x * v) (y * v)
    go x y h k =
        of-bits (λ x. differ x y * v ≡ bit_xor (x * v) (y * v)) (ap (λ z. bit_xor z (y * v)) (sym (zero-mul v))) (one y k) x h

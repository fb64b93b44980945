-- The bits of words: of shifted words, of sums, of a power of two, the low bits and the lowest. Assumes nothing.
use mathlib.Core.Path.{◌≡◌, refl, sym, ap, ap₂, ◌∙◌, subst}
use mathlib.Core.Logic.{◌≢◌}
use Prim.Native.Nat.{ℕ, zero, suc, ◌+◌, ◌-◌, ◌*◌, ◌/◌, ◌%◌, ◌^◌, ◌≤◌, ◌<◌}
use native.Mathlib.Nat.{zero-add, zero-div, div-one, mod-one, div-eq_of_lt, lt_of_lt_of_le, div_self, one-mul, zero-mul, mul-zero, mul-one, mod-eq_of_lt}
use native.Mathlib.Numerals.{add-one, one-add}
use native.Mathlib.Decide.{dec_lt}
use native.Mathlib.Omega.{arith}
use lib.Arith.{lt-one}
use lib.Bits.{shifted_even, bit_and, and_mask, and_zero_r}
use lib.Count.{ones, ones_step, count_trailing_zeros, under}
use lib.Dec.{lit<}
use lib.Pow.{pow_mono, pow_pos, pow-add, shl-shr, shl_exact, shr-shr, shr_lt, mod-pow-add, field, mod-mod-pow}
use Rattle.field.specs.Field.{◌⊕◌, size, mul, gf2}
use Rattle.field.proofs.Sum.{of-bits, bit, ⊕-shr, ⊕-mod}
use Rattle.field.proofs.Laws as laws
use Rattle.field.proofs.Fields.{gf2-field}
use Rattle.equations.specs.Words.{bit_at}

-- ---- which bits a word has

-- bit d of a word that was shifted by c
pub bit_shifted : (w c d : ℕ) → bit_at (w / 2 ^ c) d ≡ bit_at w (c + d)
bit_shifted w c d = ap (λ x. x % 2) (shr-shr w c d)

pub bit-half : (w d : ℕ) → bit_at (w / 2) d ≡ bit_at w (suc d)
bit-half w d = bit_shifted w 1 d ∙ ap (bit_at w) (one-add d)

pub bit-zero : (w : ℕ) → bit_at w 0 ≡ w % 2
bit-zero w = ap (λ x. x % 2) (div-one w)

-- 0 has no set bit
pub bit-of-none : (d : ℕ) → bit_at 0 d ≡ 0
bit-of-none d = ap (λ x. x % 2) (zero-div (2 ^ d))

-- a set bit stands below any power of two that the word is below
pub bit-above : (n w c : ℕ) → w < 2 ^ n → n ≤ c → bit_at w c ≡ 0
bit-above n w c h l = ap (λ x. x % 2) (div-eq_of_lt (lt_of_lt_of_le h (pow_mono l)))

pub bit-bound : (n w c : ℕ) → w < 2 ^ n → bit_at w c ≡ 1 → c < n
bit-bound n w c h e = elim (dec_lt c n) [ yes l ↦ l | no nl ↦ absurd (omega (arith, bit-above n w c h (omega arith), e)) ]

-- a power of two has its own bit alone
pub power-own : (t : ℕ) → bit_at (2 ^ t) t ≡ 1
power-own t = ap (λ x. x % 2) (div_self (pow_pos t))

pub power_below : (t d : ℕ) → d < t → bit_at (2 ^ t) d ≡ 0
power_below t d l =
    let i = t - suc d in
    let e : suc i + d ≡ t = omega arith in
    ap (λ n. bit_at (2 ^ n) d) (sym e) ∙ ap (λ x. x / 2 ^ d % 2) (pow-add 2 (suc i) d)
    ∙ ap (λ x. x % 2) (shl-shr (2 ^ suc i) d) ∙ ap (λ x. x % 2) (sym (one-mul (2 ^ suc i))) ∙ shifted_even 1 i

-- ---- bits and the field

pub below-2 : (x : ℕ) → x < size gf2 → x < 2
unfolding size gf2
below-2 x l = l

pub bit-small : (w j : ℕ) → bit_at w j < size gf2
unfolding size gf2
bit-small w j = bit (w / 2 ^ j)

pub bit-sum : (x y j : ℕ) → bit_at (x ⊕ y) j ≡ bit_at x j ⊕ bit_at y j
bit-sum x y j = ap (λ z. z % 2) (⊕-shr x y j) ∙ ⊕-mod _ _ 1

-- a word, or none of it
pub bit-times : (x b j : ℕ) → b < 2 → bit_at (x * b) j ≡ mul gf2 b (bit_at x j)
bit-times x b j l =
    of-bits (λ b. bit_at (x * b) j ≡ mul gf2 b (bit_at x j))
    (ap (λ y. bit_at y j) (mul-zero x) ∙ ap (λ y. y % 2) (zero-div (2 ^ j)) ∙ sym (laws.zero-mul _ gf2-field _))
    (ap (λ y. bit_at y j) (mul-one x) ∙ sym (gf2-field.unit _ (bit-small x j))) b l

pub times-le : (x b : ℕ) → b < 2 → x * b ≤ x
times-le x b l = of-bits (λ b. x * b ≤ x) (omega (arith, mul-zero x)) (omega (arith, mul-one x)) b l

-- a word of k bits, or none of it
pub taken_is : (k w b : ℕ) → w < 2 ^ k → b < 2 → bit_and w (b * (2 ^ k - 1)) ≡ w * b
taken_is k w b h l =
    of-bits (λ b. bit_and w (b * (2 ^ k - 1)) ≡ w * b) (ap (bit_and w) (zero-mul _) ∙ and_zero_r w ∙ sym (mul-zero w))
    (ap (bit_and w) (one-mul _) ∙ and_mask w k ∙ mod-eq_of_lt h ∙ sym (mul-one w)) b l

-- ---- words that agree in their low bits

pub bits-low : (m a b : ℕ) → ((i : ℕ) → i < m → bit_at a i ≡ bit_at b i) → a % 2 ^ m ≡ b % 2 ^ m
bits-low zero a b h = mod-one a ∙ sym (mod-one b)
bits-low (suc m) a b h =
    rw (← one-add m) (mod-pow-add a 1 m ∙ ap₂ (λ x y. x * 2 ^ m + y) (h m (omega arith)) (bits-low m a b (λ i l. h i (omega arith))) ∙ sym (mod-pow-add b 1 m))

low_bit : (m a i : ℕ) → i < m → bit_at (a % 2 ^ m) i ≡ bit_at a i
low_bit m a i l =
    let j = m - suc i in
    let e : j + 1 + i ≡ m = omega arith in
    ap (λ n. bit_at (a % 2 ^ n) i) (sym e) ∙ ap (λ x. x % 2) (field a (j + 1) i) ∙ mod-mod-pow (a / 2 ^ i) j 1

pub low-bits-agree : (m a b : ℕ) → a % 2 ^ m ≡ b % 2 ^ m → (i : ℕ) → i < m → bit_at a i ≡ bit_at b i
low-bits-agree m a b e i l = sym (low_bit m a i l) ∙ ap (λ x. bit_at x i) e ∙ low_bit m b i l

-- ---- as the code has them

-- the mask of column t
pub shifted_one : (t : ℕ) → t < 64 → 1 * 2 ^ t % 2 ^ 64 ≡ 2 ^ t
shifted_one t l = shl_exact 1 t 64 (lit< tt) (omega arith) ∙ one-mul (2 ^ t)

-- a word's m low bits
pub low_bits : (x m : ℕ) → m ≤ 32 → bit_and x (1 * 2 ^ m % 2 ^ 64 - 1) ≡ x % 2 ^ m
low_bits x m l = ap (λ w. bit_and x (w - 1)) (shifted_one m (omega arith)) ∙ and_mask x m

-- ---- the lowest set bit

-- z is its place
pub record Lowest (w z : ℕ) : Type 0 where
  pub holds : bit_at w z ≡ 1
  pub below : (d : ℕ) → d < z → bit_at w d ≡ 0
  pub count : ones w ≡ suc (ones (w / 2 ^ z / 2))

lowest-odd : (w : ℕ) → w % 2 ≡ 1 → Lowest w 0
lowest-odd w e = record {
  holds = bit-zero w ∙ e;
  below = λ d l. absurd (omega arith);
  count = ones_step w ∙ rw (e, div-one w) (one-add _);
}

lowest-even : (w z : ℕ) → w % 2 ≡ 0 → Lowest (w / 2) z → Lowest w (suc z)
lowest-even w z e L = record {
  holds = sym (bit-half w z) ∙ L.holds;
  below = below;
  count = ones_step w ∙ rw (e, L.count, zero-add) (ap (λ x. suc (ones (x / 2))) (shr-shr w 1 z ∙ ap (λ x. w / 2 ^ x) (one-add z)));
}
  where
    below : (d : ℕ) → d < suc z → bit_at w d ≡ 0
    below zero l = bit-zero w ∙ e
    below (suc d) l = sym (bit-half w d) ∙ L.below d (omega arith)

pub lowest : (k w : ℕ) → w < 2 ^ k → w ≢ 0 → Lowest w (count_trailing_zeros k w)
unfolding count_trailing_zeros
lowest zero w h nz = absurd (nz (lt-one h))
lowest (suc k) w h nz =
    of-bits (λ b. w % 2 ≡ b → Lowest w (under b (count_trailing_zeros k (w / 2))))
    (λ e. lowest-even w (count_trailing_zeros k (w / 2)) e
    (lowest k (w / 2) (shr_lt k 1 (subst (λ n. w < 2 ^ n) (sym (add-one k)) h)) (λ g. nz (omega arith))))
    (lowest-odd w) (w % 2) (bit w) refl

pub lowest-lt : (k w : ℕ) → w < 2 ^ k → w ≢ 0 → count_trailing_zeros k w < k
lowest-lt k w h nz = bit-bound k w _ h (lowest k w h nz).holds

-- Words of given bits: their bits and their size, and the loop that gathers one from its last bit to its first: doubled, and the next
-- bit added. Assumes nothing.
use Prim.Native.Nat.{ℕ, zero, suc, ◌+◌, ◌-◌, ◌*◌, ◌/◌, ◌^◌, ◌≤◌, ◌<◌}
use mathlib.Core.Path.{◌≡◌, refl, sym, ap, ap₂, ◌∙◌}
use mathlib.Core.Bool.{Bool, true, false}
use mathlib.Core.List.{List}
use native.Mathlib.Nat.{pow-suc, mod-eq_of_lt}
use native.Mathlib.Omega.{arith}
use native.Mathlib.Decide.{ℕ_discrete}
use lib.Dec.{eqb}
use mir.Val.{bool_byte}
use Rattle.field.specs.Field.{gf2}
use Rattle.field.proofs.Sum.{of-bits, bit}
use Rattle.equations.specs.System.{vec, ent, Elements}
use Rattle.equations.specs.Words.{bit_at, packed, column_of}
use Rattle.equations.proofs.Bits.{bit-zero, bit-half, below-2, bits-low}

double-first : (w b : ℕ) → b < 2 → bit_at (w * 2 + b) 0 ≡ b
double-first w b l = bit-zero (w * 2 + b) ∙ omega arith

double-next : (w b d : ℕ) → b < 2 → bit_at (w * 2 + b) (suc d) ≡ bit_at w d
double-next w b d l = sym (bit-half (w * 2 + b) d) ∙ ap (λ x. bit_at x d) (omega arith)

-- of m bits, which b lists, those from i on are gathered
pub record Wording (b : ℕ → ℕ) (m i word : ℕ) : Type 0 where
  pub upto : i ≤ m
  pub made : word ≡ packed b i (m - i)

pub wording-start : (b : ℕ → ℕ) (m : ℕ) → Wording b m m 0
unfolding packed
wording-start b m = record { upto = omega arith; made = let e : m - m ≡ 0 = omega arith in rw e refl }

pub wording-turn : (b : ℕ → ℕ) (m i word x : ℕ) → Wording b m i word → 0 < i → x ≡ b (i - 1) → Wording b m (i - 1) (word * 2 + x)
unfolding packed
wording-turn b m i word x W l e =
    let more : m - (i - 1) ≡ suc (m - i) = omega (arith, W.upto) in
    let next : suc (i - 1) ≡ i = omega arith in
    record { upto = omega (arith, W.upto); made = rw (more, next) (ap₂ (λ w y. w * 2 + y) W.made e) }

pub wording-end : (b : ℕ → ℕ) (m i word : ℕ) → Wording b m i word → i ≡ 0 → word ≡ packed b 0 m
wording-end b m i word W e = W.made ∙ ap₂ (packed b) e (omega arith)

-- ---- where the numbers are bits

same_bit : (a b : ℕ) → a < 2 → b < 2 → eqb a 1 ≡ eqb b 1 → a ≡ b
same_bit a b la lb =
    of-bits (λ a. eqb a 1 ≡ eqb b 1 → a ≡ b)
    (of-bits (λ b. false ≡ eqb b 1 → 0 ≡ b) (λ e. refl) (λ e. cc) b lb)
    (of-bits (λ b. true ≡ eqb b 1 → 1 ≡ b) (λ e. cc) (λ e. refl) b lb) a la

module _ (b : ℕ → ℕ) (small : (i : ℕ) → b i < 2) where
  pub packed_lt : (i n : ℕ) → packed b i n < 2 ^ n
  unfolding packed
  packed_lt i zero = omega arith
  packed_lt i (suc n) = rw (pow-suc 2 n) (omega (arith, packed_lt (suc i) n, small i))

  packed-from : (i n s : ℕ) → s < n → bit_at (packed b i n) s ≡ b (i + s)
  unfolding packed
  packed-from i zero s l = absurd (omega arith)
  packed-from i (suc n) zero l = double-first _ _ (small i) ∙ ap b (omega arith)
  packed-from i (suc n) (suc s) l = double-next _ _ s (small i) ∙ packed-from (suc i) n s (omega arith) ∙ ap b (omega arith)

  pub packed-bit : (n s : ℕ) → s < n → bit_at (packed b 0 n) s ≡ b s
  packed-bit n s l = packed-from 0 n s l ∙ ap b (omega arith)

  -- the only word below 2 ^ n whose first n bits are set where b has a 1
  pub packed-is : (n w : ℕ) → w < 2 ^ n → ((i : ℕ) → i < n → eqb (bit_at w i) 1 ≡ eqb (b i) 1) → w ≡ packed b 0 n
  packed-is n w l h =
      sym (mod-eq_of_lt l)
      ∙ bits-low n w (packed b 0 n) (λ i li. same_bit _ _ (bit (w / 2 ^ i)) (small i) (h i li) ∙ sym (packed-bit n i li))
      ∙ mod-eq_of_lt (packed_lt 0 n)

-- ---- a word of given answers

-- of n bits those from i on are gathered: P says which answer each has
pub record Gathered (P : ℕ → Bool → Type 0) (n i word : ℕ) : Type 0 where
  pub small : word < 2 ^ (n - i)
  pub each : (j : ℕ) → i ≤ j → j < n → P j (eqb (bit_at word (j - i)) 1)

answer-first : (w : ℕ) (b : Bool) → eqb (bit_at (w * 2 + bool_byte b) 0) 1 ≡ b
answer-first w true = ap (λ x. eqb x 1) (double-first w 1 (omega arith))
answer-first w false = ap (λ x. eqb x 1) (double-first w 0 (omega arith))

bool-bit : (b : Bool) → bool_byte b < 2
bool-bit true = omega arith
bool-bit false = omega arith

pub gathered-turn : (P : ℕ → Bool → Type 0) (n i word : ℕ) (b : Bool) → Gathered P n i word → 0 < i → i ≤ n → P (i - 1) b
    → Gathered P n (i - 1) (word * 2 + bool_byte b)
gathered-turn P n i word b G l fit p =
    let more : n - (i - 1) ≡ suc (n - i) = omega arith in
    record {
      small = rw (more, pow-suc 2 (n - i)) (omega (arith, G.small, bool-bit b));
      each = λ j from upto. elim (ℕ_discrete j (i - 1)) [
        | yes e ↦ let first : j - (i - 1) ≡ 0 = omega arith in rw (first, answer-first word b, e) p
        | no ne ↦
            let next : j - (i - 1) ≡ suc (j - i) = omega arith in
            rw (next, double-next word (bool_byte b) (j - i) (bool-bit b)) (G.each j (omega arith) upto)
      ];
    }

pub gathered-end : (P : ℕ → Bool → Type 0) (n i word : ℕ) → Gathered P n i word → i ≡ 0 → (j : ℕ) → j < n → P j (eqb (bit_at word j) 1)
gathered-end P n i word G e j l =
    let at : j - i ≡ j = omega arith in
    rw at at (G.each j (omega arith) l)

-- ---- columns

module _ (checks : List ℕ) (n p : ℕ) (bits : Elements gf2 (vec checks)) where
  pub coefficient-bit : (i : ℕ) → ent checks n i p < 2
  coefficient-bit i = below-2 _ (bits _)

  pub column-bit : (m i : ℕ) → i < m → bit_at (column_of checks m n p) i ≡ ent checks n i p
  unfolding column_of
  column-bit = packed-bit (λ i. ent checks n i p) coefficient-bit

  pub column-lt : (m : ℕ) → column_of checks m n p < 2 ^ m
  unfolding column_of
  column-lt = packed_lt (λ i. ent checks n i p) coefficient-bit 0

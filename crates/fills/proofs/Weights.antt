-- How many places are marked, what a vector that is zero elsewhere weighs, and which columns light vectors leave independent. Assumes nothing.
use mathlib.Core.Path.{◌≡◌, sym, ap, ap₂, ◌∙◌, subst, fun_ext}
use mathlib.Core.Bool.{Bool, true, false}
use mathlib.Core.List.{List, [], ◌∷◌, map}
use Prim.Native.Nat.{ℕ, zero, suc, ◌+◌, ◌/◌, ◌%◌, ◌^◌, ◌≤◌, ◌<◌}
use native.Mathlib.Nat.{zero-add, le_trans}
use native.Mathlib.Numerals.{add-one, one-add}
use native.Mathlib.Omega.{arith}
use lib.Arith.{lt-one}
use lib.Count.{ones, ones_step}
use lib.Dec.{T, T_not, eqb}
use lib.ListN.{length}
use lib.Pow.{shr_lt}
use Rattle.field.specs.Lists.{when◌then◌else◌, up_from, weight}
use Rattle.field.specs.Field.{Field, size}
use Rattle.field.proofs.Sum.{of-bits, bit}
use Rattle.field.proofs.Ring.{size-pos}
use Rattle.field.proofs.Lists.{map-up-suc}
use Rattle.field.proofs.Words.{EachBelow}
use Rattle.equations.specs.Words.{bit_at}
use Rattle.equations.proofs.Bits.{bit-zero, bit-half}
use Rattle.fills.specs.Lists.{all, only, zeros, vanish, first, rest}
use Rattle.fills.specs.Marks.{bits_of}
use Rattle.fills.specs.Fill.{sums_of}
use Rattle.fills.proofs.Choices.{Agrees, agrees-length}
use Rattle.fills.proofs.Filling.{Independent, independent-of}

-- how many places are marked
abbrev pub marked : List Bool → ℕ
marked ms = length (only (λ m. m) ms)

-- ---- the marks of a word

-- the last bit, and the bits of the half
pub bits-step : (n w : ℕ) → bits_of (suc n) w ≡ eqb (w % 2) 1 ∷ bits_of n (w / 2)
unfolding bits_of up_from
bits-step n w =
    ap₂ ◌∷◌ (ap (λ b. eqb b 1) (bit-zero w))
    (map-up-suc (λ k. eqb (bit_at w k) 1) 0 n ∙ ap (λ f. map f (up_from 0 n)) (fun_ext (λ k. ap (λ b. eqb b 1) (sym (bit-half w k)))))

pub half_lt : (n w : ℕ) → w < 2 ^ suc n → w / 2 < 2 ^ n
half_lt n w h = shr_lt n 1 (subst (λ i. w < 2 ^ i) (sym (add-one n)) h)

-- as many as the word has ones
pub marked-bits : (n w : ℕ) → w < 2 ^ n → marked (bits_of n w) ≡ ones w
unfolding when◌then◌else◌ up_from only bits_of ones
marked-bits zero w h = ap ones (sym (lt-one h))
marked-bits (suc n) w h =
    ap marked (bits-step n w) ∙ front (w % 2) (bit w) (bits_of n (w / 2))
    ∙ ap (λ k. w % 2 + k) (marked-bits n (w / 2) (half_lt n w h)) ∙ sym (ones_step w)
  where
    front : (b : ℕ) → b < 2 → (ms : List Bool) → marked (eqb b 1 ∷ ms) ≡ b + marked ms
    front b l ms = of-bits (λ b. marked (eqb b 1 ∷ ms) ≡ b + marked ms) (sym (zero-add (marked ms))) (sym (one-add (marked ms))) b l

-- ---- vectors that are zero where unmarked

module _ (F : Field) where
  pub agrees-fit : (ms : List Bool) (w : List ℕ) → Agrees F ms (zeros ms) w → EachBelow (size F) w
  unfolding zeros first rest
  agrees-fit [] w a = rw a tt
  agrees-fit (m ∷ ms) [] a = tt
  agrees-fit (true ∷ ms) (y ∷ ys) a = (a.0, agrees-fit ms ys a.1)
  agrees-fit (false ∷ ms) (y ∷ ys) a = (rw a.0 (size-pos F), agrees-fit ms ys a.1)

  pub agrees-weight : (ms : List Bool) (w : List ℕ) → Agrees F ms (zeros ms) w → weight w ≤ marked ms
  unfolding when◌then◌else◌ only zeros first rest weight
  agrees-weight [] w a = rw a (omega arith)
  agrees-weight (m ∷ ms) [] a = absurd a
  agrees-weight (true ∷ ms) (zero ∷ ys) a = omega (arith, agrees-weight ms ys a.1)
  agrees-weight (true ∷ ms) (suc y ∷ ys) a = omega (arith, agrees-weight ms ys a.1)
  agrees-weight (false ∷ ms) (zero ∷ ys) a = agrees-weight ms ys a.1
  agrees-weight (false ∷ ms) (suc y ∷ ys) a = omega (arith, a.0)

pub weightless-vanish : (w : List ℕ) → weight w ≡ 0 → T (vanish w)
unfolding weight vanish all
weightless-vanish [] e = tt
weightless-vanish (zero ∷ w) e = weightless-vanish w e
weightless-vanish (suc c ∷ w) e = absurd (omega arith)

-- ---- independent columns

-- where only zero vectors among those of weight m or less have zero sums, any m columns are independent
pub light-independent : (F : Field) (checks : List (List ℕ)) (n m : ℕ)
    → ((w : List ℕ) → EachBelow (size F) w → T (vanish (sums_of F checks w)) → length w ≡ n → weight w ≤ m → weight w ≡ 0)
    → (ms : List Bool) → length ms ≡ n → marked ms ≤ m → Independent F checks ms
light-independent F checks n m only_zero ms l h =
    independent-of F checks ms λ w d.
    T_not (vanish w) d.nonzero
    (weightless-vanish w (only_zero w (agrees-fit F ms w d.agrees) d.vanishes
    (agrees-length F ms (zeros ms) w d.agrees ∙ l) (le_trans (agrees-weight F ms w d.agrees) h)))

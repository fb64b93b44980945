-- `reduce`, pivot by pivot: what it adds to a word and to its mask, and that the word becomes 0 at the pivots. Assumes nothing.
use mathlib.Core.Path.{◌≡◌, sym, ap, ap₂, ◌∙◌}
use Prim.Native.Nat.{ℕ, ◌+◌, ◌-◌, ◌*◌, ◌^◌, ◌≤◌, ◌<◌}
use native.Mathlib.Nat.{mul-zero, mul-one, lt_of_le_of_lt}
use native.Mathlib.Omega.{arith}
use borrow.Author.Count.{below_more}
use lib.Bits.{bit_and}
use lib.Pow.{pow_pos}
use Rattle.field.specs.Field.{◌⊕◌, gf2, mul}
use Rattle.field.proofs.Sum.{of-bits, bit, ⊕-assoc, ⊕-self, ⊕-zero, zero-⊕, ⊕-lt}
use Rattle.field.proofs.Laws as laws
use Rattle.field.proofs.Fields.{gf2-field}
use Rattle.equations.specs.System.{vec}
use Rattle.equations.specs.Words.{bit_at}
use Rattle.equations.proofs.Bits.{bit-sum, bit-times, bit-small, times-le, taken_is}
use Rattle.basis.specs.Span.{column_bits, mask_bits, combined}
use Rattle.basis.specs.Steps.{Moved, Reducible}
use Rattle.basis.specs.declared.Echelon.{Echelon}
use Rattle.basis.proofs.Combined.{combined-masks, combined-zero}

module _ (e : Echelon) (word mask : ℕ) where
  moved-start : Moved e word mask word mask
  moved-start = record {
    sums = λ f t made. ap (λ a. combined f (bit_at a) t) (⊕-self mask) ∙ combined-zero f t ∙ sym (⊕-self word);
    near = λ t small. rw (⊕-self mask) (pow_pos t);
  }

  moved-turn : (left made p : ℕ) → Moved e word mask left made → Moved e word mask (left ⊕ vec e.words p) (made ⊕ vec e.masks p)
  moved-turn left made p M = record {
    sums = λ f t each. ap (λ a. combined f (bit_at a) t) (sym (⊕-assoc mask made (vec e.masks p))) ∙ combined-masks f (mask ⊕ made) (vec e.masks p) t
        ∙ ap₂ ◌⊕◌ (M.sums f t each) (each p) ∙ ⊕-assoc word left (vec e.words p);
    near = λ t small. rw (← ⊕-assoc mask made (vec e.masks p)) (⊕-lt t _ _ (M.near t small) (small p));
  }

  -- the word with pivot p, or none of it: b times it
  moved-bit : (left made p b : ℕ) → b < 2 → Moved e word mask left made → Moved e word mask (left ⊕ vec e.words p * b) (made ⊕ vec e.masks p * b)
  moved-bit left made p b l M =
      of-bits (λ b. Moved e word mask (left ⊕ vec e.words p * b) (made ⊕ vec e.masks p * b))
      (rw (mul-zero (vec e.words p), mul-zero (vec e.masks p), ⊕-zero left, ⊕-zero made) M)
      (rw (mul-one (vec e.words p), mul-one (vec e.masks p)) (moved-turn left made p M)) b l

  -- the loop, at pivot i
  pub record Reducing (left made i : ℕ) : Type 0 where
    pub upto : i ≤ e.count
    pub small : left < 2 ^ column_bits
    pub moved : Moved e word mask left made
    pub gone : (j : ℕ) → j < i → bit_at left (vec e.order j) ≡ 0

  pub reducing-start : word < 2 ^ column_bits → Reducing word mask 0
  reducing-start h = record { upto = omega arith; small = h; moved = moved-start; gone = λ j l. absurd (omega arith) }

  module _ (R : Reducible e) (left made i : ℕ) (D : Reducing left made i) (l : i < e.count) where
    abbrev p : ℕ
    p = vec e.order i

    abbrev taken : ℕ
    taken = bit_at left p

    -- and then it is 0 there, and at the pivots before
    stuck-turn : (j : ℕ) → j < i + 1 → bit_at (left ⊕ vec e.words p * taken) (vec e.order j) ≡ 0
    stuck-turn = below_more _ _
        (λ j b. added j ∙ ap₂ (λ x y. x ⊕ mul gf2 taken y) (D.gone j b) (R.ordered.apart i l j b) ∙ zero-⊕ _ ∙ laws.mul-zero gf2 gf2-field taken)
        (added i ∙ ap (λ y. taken ⊕ mul gf2 taken y) (R.ordered.unit i l)
        ∙ ap (λ y. taken ⊕ y) (laws.mul-one gf2 gf2-field taken (bit-small left p)) ∙ ⊕-self _)
      where
        added : (j : ℕ) → bit_at (left ⊕ vec e.words p * taken) (vec e.order j) ≡ bit_at left (vec e.order j) ⊕ mul gf2 taken (bit_at (vec e.words p) (vec e.order j))
        added j = bit-sum left _ (vec e.order j) ∙ ap (λ y. bit_at left (vec e.order j) ⊕ y) (bit-times (vec e.words p) _ (vec e.order j) (bit _))

    pub reducing-turn : Reducing (left ⊕ bit_and (vec e.words p) (taken * (2 ^ column_bits - 1))) (made ⊕ bit_and (vec e.masks p) (taken * (2 ^ mask_bits - 1))) (i + 1)
    reducing-turn =
        rw (taken_is column_bits (vec e.words p) taken (R.words-fit p) (bit _), taken_is mask_bits (vec e.masks p) taken (R.masks-fit p) (bit _)) record {
          upto = omega arith;
          small = ⊕-lt column_bits _ _ D.small (lt_of_le_of_lt (times-le (vec e.words p) _ (bit _)) (R.words-fit p));
          moved = moved-bit left made p _ (bit _) D.moved;
          gone = stuck-turn;
        }

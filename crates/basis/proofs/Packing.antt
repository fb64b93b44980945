-- Words as columns of bits: the bits of a combination are the rows' sums, so what is answered of the words is answered of the system. Assumes nothing.
use mathlib.Core.Path.{◌≡◌, refl, sym, ap, ap₂, ◌∙◌}
use Prim.Native.Nat.{ℕ, zero, suc, ◌*◌, ◌%◌, ◌^◌, ◌<◌}
use native.Mathlib.Nat.{zero-mod, mul_comm}
use native.Mathlib.Omega.{arith}
use lib.Count.{count_trailing_zeros}
use Rattle.std.proofs.Common.{Option, Some, None, is_some, unwrap_or}
use Rattle.field.specs.Field.{◌⊕◌, gf2, mul}
use Rattle.field.proofs.Sum.{bit}
use Rattle.field.proofs.Table.{bits-product}
use Rattle.equations.specs.System.{Matrix, inner, Consistency, Dependence, Solved}
use Rattle.equations.specs.Words.{bit_at}
use Rattle.equations.proofs.Inner.{inner-same}
use Rattle.basis.specs.Span.{combined, Spans}
use Rattle.equations.proofs.Bits.{bit-of-none, below-2, bit-small, bit-sum, bit-times, bits-low, low-bits-agree, lowest, lowest-lt}

-- ---- the bits of a combination

low-mul : (b x : ℕ) → b < 2 → mul gf2 (x % 2) b ≡ mul gf2 b x
low-mul b x l = sym (bits-product (x % 2) b) ∙ mul_comm (x % 2 % 2) (b % 2) ∙ ap (λ y. b % 2 * y) (omega arith) ∙ bits-product b x

-- bit i of a combination is the sum of row i
combined-bit : (f x : ℕ → ℕ) (n i : ℕ) → bit_at (combined f x n) i ≡ inner gf2 (λ c. bit_at (f c) i) x n
unfolding combined inner
combined-bit f x zero i = bit-of-none i
combined-bit f x (suc n) i =
    bit-sum _ _ i
    ∙ ap₂ ◌⊕◌ (combined-bit f x n i) (ap (λ w. bit_at w i) (mul_comm (x n % 2) (f n)) ∙ bit-times (f n) (x n % 2) i (bit (x n)) ∙ low-mul _ (x n) (bit _))

-- ---- the system whose columns the words are

module _ (f : ℕ → ℕ) (k m need : ℕ) (solution dependency : Option ℕ) (S : Spans f k m need solution dependency)
    (M : Matrix) (columns : (i : ℕ) → i < m → (t : ℕ) → t < k → M i t ≡ bit_at (f t) i) (last : (i : ℕ) → i < m → M i k ≡ bit_at need i) where
  row : (x : ℕ → ℕ) (i : ℕ) → i < m → inner gf2 (M i) x k ≡ bit_at (combined f x k) i
  row x i l = inner-same gf2 (M i) x _ x k (λ t lt. ap (λ b. mul gf2 b (x t)) (columns i l t lt)) ∙ sym (combined-bit f x k i)

  spans-consistency : Consistency gf2 M m k (is_some solution) (bit_at (unwrap_or solution 0))
  spans-consistency = go solution refl
    where
      go : (o : Option ℕ) → solution ≡ o → Consistency gf2 M m k (is_some o) (bit_at (unwrap_or o 0))
      go (Some s) e = record {
        solution = λ _. (bit-small s, λ i l. row _ i l ∙ low-bits-agree m _ need (S.solved s e).1 i l ∙ sym (last i l));
        none = λ g. cc;
      }
      go None e = record {
        solution = λ g. cc;
        none = λ _ y h. S.unsolved e y (bits-low m _ need (λ i l. sym (row y i l) ∙ h i l ∙ last i l));
      }

  spans-dependence : Dependence gf2 M m k (is_some dependency) (bit_at (unwrap_or dependency 0))
  spans-dependence = go dependency refl
    where
      go : (o : Option ℕ) → dependency ≡ o → Dependence gf2 M m k (is_some o) (bit_at (unwrap_or o 0))
      go (Some d) e = record {
        dependency = λ _. let t = S.tied d e in let holds = (lowest k d t.0 t.1).holds in (
          bit-small d,
          (count_trailing_zeros k d, lowest-lt k d t.0 t.1, λ z. omega (arith, holds, z)),
          λ i l. row _ i l ∙ low-bits-agree m _ 0 (t.2 ∙ sym (zero-mod (2 ^ m))) i l ∙ bit-of-none i,
        );
        none = λ g. cc;
      }
      go None e = record {
        dependency = λ g. cc;
        none = λ _ y small h j l. let z = S.free e y (bits-low m _ 0 (λ i li. sym (row y i li) ∙ h i li ∙ sym (bit-of-none i)) ∙ zero-mod (2 ^ m)) j l in
            let b = below-2 (y j) (small j l) in omega arith;
      }

  pub spans-solved : Solved gf2 M m k (is_some dependency) (is_some solution) (bit_at (unwrap_or solution 0)) (bit_at (unwrap_or dependency 0))
  spans-solved = record { consistency = spans-consistency; dependence = spans-dependence }

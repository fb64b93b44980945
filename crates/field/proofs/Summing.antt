-- The sum of the products of two vectors, walked column by column: by products, and by bits. Assumes nothing.
use mathlib.Core.Path.{◌≡◌, refl, sym, ◌∙◌}
use mathlib.Core.List.{List, [], ◌∷◌}
use Prim.Native.Nat.{ℕ, ◌*◌, ◌%◌}
use native.Mathlib.Nat.{suc_inj}
use native.Mathlib.Omega.{arith}
use lib.Bits.{bit_and, and_mod}
use lib.ListN.{length}
use Rattle.field.specs.Field.{◌⊕◌, Field, mul, dot, gf2}
use Rattle.field.proofs.Sum.{of-bits, bit, ⊕-assoc, ⊕-zero, zero-⊕, ⊕-mod}
use Rattle.field.proofs.Table.{bits-product}

-- the sum of the columns passed, and of those to come, is the whole
pub record Summing (F : Field) (check row cs xs : List ℕ) (sum : ℕ) : Type 0 where
  pub paired : length cs ≡ length xs
  pub whole : sum ⊕ dot F cs xs ≡ dot F check row

module _ (F : Field) (check row : List ℕ) where
  pub summing-starts : {cs xs : List ℕ} → cs ≡ check → xs ≡ row → length check ≡ length row → Summing F check row cs xs 0
  summing-starts ec ex same = rw (ec, ex) record { paired = same; whole = zero-⊕ (dot F check row) }

  pub summing-turns : {c x sum p : ℕ} {cs xs ds ys : List ℕ} → ds ≡ c ∷ cs → ys ≡ x ∷ xs → p ≡ mul F c x → Summing F check row ds ys sum
      → Summing F check row cs xs (sum ⊕ p)
  unfolding dot
  summing-turns {sum = sum} ec ex e s =
      let t = rw (ec, ex) at s in
      record { paired = suc_inj t.paired; whole = rw (e, ⊕-assoc sum) t.whole }

  pub summing-ends : {sum : ℕ} {cs xs : List ℕ} → length cs ≡ 0 → Summing F check row cs xs sum → sum ≡ dot F check row
  unfolding dot
  summing-ends {sum} {cs = []} e s = sym (⊕-zero sum) ∙ s.whole
  summing-ends {cs = c ∷ cs} e s = absurd (omega arith)

-- ---- in GF(2) the low bit counts

-- the low bit of what is set in both is the product of the low bits
and-bits : (x y : ℕ) → bit_and x y % 2 ≡ x % 2 * (y % 2)
and-bits x y =
    and_mod x y 1
    ∙ of-bits (λ a. bit_and a (y % 2) ≡ a * (y % 2)) (of-bits (λ b. bit_and 0 b ≡ 0 * b) refl refl (y % 2) (bit y))
    (of-bits (λ b. bit_and 1 b ≡ 1 * b) refl refl (y % 2) (bit y)) (x % 2) (bit x)

pub bits-turn : (check row : List ℕ) (sum : ℕ) {c x : ℕ} {cs xs ds ys : List ℕ} → ds ≡ c ∷ cs → ys ≡ x ∷ xs
    → Summing gf2 check row ds ys (sum % 2) → Summing gf2 check row cs xs ((sum ⊕ bit_and c x) % 2)
bits-turn check row sum {c} {x} ec ex s =
    rw (⊕-mod sum (bit_and c x) 1) (summing-turns gf2 check row ec ex (and-bits c x ∙ bits-product c x) s)

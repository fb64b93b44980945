-- A vector without marks: its fill is never tied, and the vector itself where its sums are the target. Assumes nothing.
use mathlib.Core.Path.{◌≡◌, refl, sym, ap, ap₂, ◌∙◌, subst}
use mathlib.Core.Bool.{Bool, true, false}
use mathlib.Core.List.{List, [], ◌∷◌, map}
use Prim.Native.Nat.{ℕ, zero, suc, ◌/◌, ◌%◌, ◌^◌}
use native.Mathlib.Nat.{suc_inj, div-eq_of_lt}
use native.Mathlib.Omega.{arith}
use lib.Dec.{T, T_not, eqb}
use lib.ListN.{length}
use lib.Pow.{pow_pos}
use Rattle.field.specs.Lists.{up_from}
use Rattle.field.specs.Field.{Field}
use Rattle.fills.specs.Lists.{vanish, zeros, first, rest}
use Rattle.fills.specs.Marks.{bits_of}
use Rattle.fills.specs.Fill.{sums_of, tied, none, one, fill}
use Rattle.fills.proofs.Tests.{zeros-vanish}
use Rattle.fills.proofs.Choices.{Agrees}
use Rattle.fills.proofs.Marked.{length-zeros}
use Rattle.fills.proofs.Filling.{Independent, no-dependency, independent-of, Means, fill-means, fill_none, fill_one}

-- no place is marked
abbrev pub Clear : List Bool → Type 0
Clear [] = Unit {0}
Clear (true ∷ ms) = ⊥
Clear (false ∷ ms) = Clear ms

-- a word that is 0 has no marks
pub bits-clear : (n : ℕ) → Clear (bits_of n 0)
unfolding bits_of up_from
bits-clear n = go 0 n
  where
    go : (k n : ℕ) → Clear (map (λ k. eqb (0 / 2 ^ k % 2) 1) (up_from k n))
    go k zero = tt
    go k (suc n) = subst (λ z. Clear (eqb (z % 2) 1 ∷ map (λ k. eqb (0 / 2 ^ k % 2) 1) (up_from (suc k) n))) (sym (div-eq_of_lt (pow_pos k))) (go (suc k) n)

module _ (F : Field) where
  -- what agrees with a vector without marks is that vector
  clear-agrees : (ms : List Bool) (v w : List ℕ) → Clear ms → length v ≡ length ms → Agrees F ms v w → w ≡ v
  unfolding first rest
  clear-agrees [] [] w c l a = a
  clear-agrees [] (x ∷ v) w c l a = absurd (omega arith)
  clear-agrees (m ∷ ms) [] w c l a = absurd (omega arith)
  clear-agrees (m ∷ ms) (x ∷ v) [] c l a = absurd a
  clear-agrees (true ∷ ms) (x ∷ v) (y ∷ w) c l a = absurd c
  clear-agrees (false ∷ ms) (x ∷ v) (y ∷ w) c l a = ap₂ ◌∷◌ a.0 (clear-agrees ms v w c (suc_inj l) a.1)

  agrees-self : (ms : List Bool) (v : List ℕ) → Clear ms → length v ≡ length ms → Agrees F ms v v
  unfolding first rest
  agrees-self [] [] c l = refl
  agrees-self [] (x ∷ v) c l = absurd (omega arith)
  agrees-self (m ∷ ms) [] c l = absurd (omega arith)
  agrees-self (true ∷ ms) (x ∷ v) c l = absurd c
  agrees-self (false ∷ ms) (x ∷ v) c l = (refl, agrees-self ms v c (suc_inj l))

  -- no columns are independent columns
  pub clear-independent : (checks : List (List ℕ)) (ms : List Bool) → Clear ms → Independent F checks ms
  clear-independent checks ms c =
      independent-of F checks ms (λ w d.
      T_not (vanish w) d.nonzero (subst (λ z. T (vanish z)) (sym (clear-agrees ms (zeros ms) w c (length-zeros ms) d.agrees)) (zeros-vanish ms)))

  module _ (checks : List (List ℕ)) (target : List ℕ) (ms : List Bool) (v : List ℕ) (c : Clear ms) where
    pub clear-untied : fill F checks target ms v ≡ tied → ⊥
    clear-untied e =
        let m = subst (Means F checks target ms v) e (fill-means F checks target ms v) in
        no-dependency F checks ms (clear-independent checks ms c) m.0.1

    module _ (l : length v ≡ length ms) where
      pub clear-one : sums_of F checks v ≡ target → fill F checks target ms v ≡ one v
      clear-one e = fill_one F checks target ms v (clear-independent checks ms c) record { agrees = agrees-self ms v c l; meets = e }

      pub clear_filled : (w : List ℕ) → fill F checks target ms v ≡ one w → w ≡ v
      clear_filled w e =
          let m = subst (Means F checks target ms v) e (fill-means F checks target ms v) in clear-agrees ms v w c l m.1.agrees

      pub clear_none : (sums_of F checks v ≡ target → ⊥) → fill F checks target ms v ≡ none
      clear_none ne =
          fill_none F checks target ms v (λ z f.
          ne (ap (sums_of F checks) (sym (clear-agrees ms v z c l f.agrees)) ∙ f.meets))

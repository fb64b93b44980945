-- What is known of a plan with a column of bits for each element of a field: one argument for plans 2 and 5. Assumes nothing.
use mathlib.Core.Path.{◌≡◌, refl, subst, ◌∙◌}
use mathlib.Core.List.{List, [], ◌∷◌, map, flat_map}
use Prim.Native.Nat.{ℕ, suc, pred, ◌+◌}
use native.Mathlib.Omega.{arith}
use lib.Dec.{T}
use lib.ListN.{length, length-map, length-append}
use Rattle.field.specs.Lists.{up_from}
use Rattle.field.specs.Field.{Field, size, gf2}
use Rattle.field.specs.Power.{power}
use Rattle.field.proofs.Laws.{IsField}
use Rattle.field.proofs.Fields.{gf2-field}
use Rattle.field.proofs.Lists.{length_up}
use Rattle.field.proofs.Words.{◌&◌}
use Rattle.plans.specs.Plan.{all_ones, elements, power_bits, binary_plan, checks_to}
use Rattle.plans.specs.Tables.{tied_by_count}
use Rattle.plans.proofs.Binary.{odd_bits}
use Rattle.plans.proofs.Columns.{Columns, are_locations, no_rows, plain-total, binary-sums}
use Rattle.plans.proofs.Known.{Shape, Known}

-- parity and the bits of one power sum; of two; of three
abbrev pub binary_distances : List ℕ
binary_distances = 4 ∷ 6 ∷ 8 ∷ []

module _ (F : Field) (K : IsField F) (t : T (are_locations F (elements F))) where
  elements-length : length (elements F) ≡ size F
  unfolding elements
  elements-length = length-append (map (power F 2) (up_from 0 (pred (size F)))) (0 ∷ []) ∙ rw (length-map (up_from 0 (pred (size F))) (power F 2), length_up 0 (pred (size F))) (omega (arith, K.one-lt))

  bits : (j : ℕ) → Columns gf2 (size F) (suc (suc (j + j))) (all_ones (size F) ∷ odd_bits F (elements F) j)
  bits j = subst (λ n. Columns gf2 n (suc (suc (j + j))) (all_ones n ∷ odd_bits F (elements F) j)) elements-length (binary-sums F K (elements F) t j)

  pub binary-plan : Shape (binary_plan F) → (T (tied_by_count (binary_plan F)) → ⊥) → Known (binary_plan F) binary_distances
  unfolding up_from flat_map size gf2 power_bits binary_plan checks_to
  binary-plan shape several = record {
    shape = shape;
    field = gf2-field;
    checks = bits 1 & bits 2 & bits 3 & tt;
    wide = λ ne. absurd (ne refl);
    tells = λ t. absurd (several t);
    weights = no_rows gf2 8 & plain-total gf2 gf2-field 8 & plain-total gf2 gf2-field 8 & tt;
  }

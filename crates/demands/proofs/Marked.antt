-- The word that has given marks, and the places of a vector that are not 0. Assumes nothing.
use mathlib.Core.Path.{◌≡◌, refl, ap, ap₂, ◌∙◌}
use mathlib.Core.Bool.{Bool, true, false, not}
use mathlib.Core.List.{List, [], ◌∷◌, map}
use Prim.Native.Nat.{ℕ, zero, suc, ◌+◌, ◌*◌, ◌/◌, ◌%◌, ◌^◌, ◌<◌}
use native.Mathlib.Nat.{pow-suc}
use native.Mathlib.Omega.{arith}
use lib.Arith.{digits_div, digits_mod}
use lib.Dec.{eqb, eqb-suc-zero, lit<}
use lib.ListN.{length, length-map}
use Rattle.field.specs.Lists.{when◌then◌else◌, up_from, weight}
use Rattle.field.specs.Field.{Field, size}
use Rattle.field.proofs.Words.{EachBelow}
use Rattle.fills.specs.Lists.{only, zeros, first, rest}
use Rattle.fills.specs.Marks.{bits_of}
use Rattle.fills.proofs.Choices.{Agrees}
use Rattle.fills.proofs.Weights.{marked, bits-step}

-- the word that has these marks
unfoldable pub word_with : List Bool → ℕ
word_with [] = 0
word_with (m ∷ ms) = word_with ms * 2 + (when m then 1 else 0)

pub word_lt : (ms : List Bool) → word_with ms < 2 ^ length ms
unfolding when◌then◌else◌ word_with
word_lt [] = omega arith
word_lt (true ∷ ms) = omega (arith, word_lt ms, pow-suc 2 (length ms))
word_lt (false ∷ ms) = omega (arith, word_lt ms, pow-suc 2 (length ms))

digits : (b : ℕ) → b < 2 → (ms : List Bool) → bits_of (length ms) (word_with ms) ≡ ms
    → eqb ((word_with ms * 2 + b) % 2) 1 ∷ bits_of (length ms) ((word_with ms * 2 + b) / 2) ≡ eqb b 1 ∷ ms
digits b l ms e =
    ap₂ ◌∷◌ (ap (λ x. eqb x 1) (digits_mod (word_with ms) l)) (ap (bits_of (length ms)) (digits_div (word_with ms) l) ∙ e)

pub word-bits : (ms : List Bool) → bits_of (length ms) (word_with ms) ≡ ms
unfolding when◌then◌else◌ up_from bits_of word_with
word-bits [] = refl
word-bits (true ∷ ms) = bits-step (length ms) (word_with ms * 2 + 1) ∙ digits 1 (lit< tt) ms (word-bits ms)
word-bits (false ∷ ms) = bits-step (length ms) (word_with ms * 2 + 0) ∙ digits 0 (lit< tt) ms (word-bits ms)

-- ---- the places that are not 0

unfoldable pub support : List ℕ → List Bool
support w = map (λ x. not (eqb x 0)) w

pub support-length : (w : List ℕ) → length (support w) ≡ length w
unfolding support
support-length w = length-map w (λ x. not (eqb x 0))

pub support-marked : (w : List ℕ) → marked (support w) ≡ weight w
unfolding when◌then◌else◌ only weight support
support-marked [] = refl
support-marked (zero ∷ w) = support-marked w
support-marked (suc c ∷ w) = rw (eqb-suc-zero c) (ap suc (support-marked w))

pub support-agrees : (F : Field) (w : List ℕ) → EachBelow (size F) w → Agrees F (support w) (zeros (support w)) w
unfolding zeros first rest support
support-agrees F [] h = refl
support-agrees F (zero ∷ w) h = (refl, support-agrees F w h.1)
support-agrees F (suc c ∷ w) h = rw (eqb-suc-zero c) (h.0, support-agrees F w h.1)

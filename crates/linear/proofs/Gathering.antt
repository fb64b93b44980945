-- The columns at some places, as words, as a system over GF(2), and what the answer for them says of `fill`. Assumes nothing.
use Prim.Native.Nat.{ℕ, ◌<◌}
use mathlib.Core.Path.{◌≡◌, sym, ap, ◌∙◌}
use mathlib.Core.Bool.{true, false}
use mathlib.Core.List.{List}
use native.Mathlib.Omega.{arith}
use lib.ListN.{length}
use Rattle.std.proofs.Common.{Option, Some, None, is_some, unwrap_or}
use Rattle.field.specs.Field.{◌⊕◌, gf2}
use Rattle.field.specs.Ours.{field_of}
use Rattle.field.specs.declared.Gf.TheVariants.{Two}
use Rattle.equations.specs.System.{vec, Matrix, ent, inner, Elements, Solved}
use Rattle.equations.specs.Words.{bit_at, column_of}
use Rattle.equations.proofs.Inner.{put, put_same, put_other}
use Rattle.equations.proofs.Wording.{column-bit}
use Rattle.basis.specs.Span.{Spans}
use Rattle.basis.proofs.Packing.{spans-solved}
use Rattle.gathering.specs.Steps.{Gathered}
use Rattle.linear.specs.Steps.{Settles}
use Rattle.linear.specs.declared.FillAnswer.TheVariants.{None as Nothing, Tied, One}
use Rattle.linear.proofs.Answers.{settles-none, settles-tied, settles-one}

module _ (checks target shown places : List ℕ) (need : ℕ) (solution dependency : Option ℕ) (coefficients : Elements gf2 (vec checks))
    (remainders : (i : ℕ) → i < length target → bit_at need i ≡ vec target i ⊕ inner gf2 (ent checks (length shown) i) (vec shown) (length shown))
    (S : Spans (λ t. column_of checks (length target) (length shown) (vec places t)) (length places) (length target) need solution dependency) where
  abbrev columns : ℕ → ℕ
  columns t = column_of checks (length target) (length shown) (vec places t)

  -- bit i of the words is row i
  abbrev system : Matrix
  system i = put (λ t. bit_at (columns t) i) (length places) (bit_at need i)

  gathered : Gathered gf2 checks target (vec shown) (length shown) (length places) (vec places) system (length target)
  gathered = record {
    coefficient = λ i l t lt. put_other _ (length places) _ t (omega arith)
        ∙ column-bit checks (length shown) (vec places t) coefficients (length target) i l;
    remainder = λ i l. put_same _ (length places) _ ∙ remainders i l;
  }

  solved : Solved gf2 system (length target) (length places) (is_some dependency) (is_some solution) (bit_at (unwrap_or solution 0))
      (bit_at (unwrap_or dependency 0))
  solved = spans-solved columns (length places) (length target) need solution dependency S system
      (λ i l t lt. put_other _ (length places) _ t (omega arith)) (λ i l. put_same _ (length places) _)

  pub words-none : solution ≡ None → (x : List ℕ) → Settles Two checks target shown places Nothing x
  unfolding field_of
  words-none e = settles-none Two checks target shown places _ _ _ _ _ gathered solved (ap is_some e)

  pub words-tied : (s : ℕ) → solution ≡ Some s → is_some dependency ≡ true → (x : List ℕ) → Settles Two checks target shown places Tied x
  unfolding field_of
  words-tied s e = settles-tied Two checks target shown places _ _ _ _ _ gathered solved (ap is_some e)

  pub words-one : (s : ℕ) → solution ≡ Some s → is_some dependency ≡ false → (x : List ℕ) → ((t : ℕ) → t < length places → vec x t ≡ bit_at s t)
      → Settles Two checks target shown places One x
  unfolding field_of
  words-one s e d x h = settles-one Two checks target shown places _ _ _ _ _ gathered solved (ap is_some e) d x
      (λ t l. h t l ∙ ap (λ o. bit_at (unwrap_or o 0) t) (sym e))

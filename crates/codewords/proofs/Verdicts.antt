-- The verdict of the codeword test, test by test in their order. Assumes nothing.
use mathlib.Core.Path.{◌≡◌, sym, ap, ◌∙◌}
use mathlib.Core.Bool.{Bool, true, false}
use mathlib.Core.List.{List}
use Prim.Native.Nat.{ℕ}
use borrow.Author.Tests.{eq-eqb, ne_eqb}
use lib.Dec.{eqb}
use lib.ListN.{length}
use Rattle.std.specs.Prelude.{Result, Ok, Err}
use Rattle.field.specs.Lists.{when◌then◌else◌}
use Rattle.field.specs.Field.{size}
use Rattle.field.specs.Ours.{field_of}
use Rattle.plans.specs.Plan.{Plan, known, plan_of}
use Rattle.plans.specs.Refusal.{stripe_fits, all_below}
use Rattle.plans.specs.Answers.{numbered, refusal_number}
use Rattle.plans.specs.declared.Refusal.TheVariants.{UnknownPlan, WrongLength, NoSymbol}
use Rattle.tables.specs.Tables.{FactsOf}
use Rattle.tables.specs.declared.Facts.{Facts}
use Rattle.codewords.specs.Codeword.{is_codeword, test_refusal, tested}
use Rattle.plans.proofs.Refusals.{none-fails, passes, fails}

-- the test of symbols, by the size of the code's field
pub its-symbols : {P : Plan} {f : Facts} → FactsOf P f → (l : List ℕ) {q : ℕ} {a b : Bool} → q ≡ size (field_of f.field) → a ≡ all_below q l → a ≡ b
    → all_below (size P.field) l ≡ b
its-symbols is l its-size below e = ap (λ q. all_below q l) (sym (its-size ∙ ap size is.field.names)) ∙ sym below ∙ e

module _ (p : ℕ) (stripe : List ℕ) where
  abbrev verdict : ℕ → Result Bool ℕ
  verdict n = when eqb n 0 then Ok (is_codeword (plan_of p) stripe) else Err n

  pub refused-plan : known p ≡ false → numbered (Err UnknownPlan) ≡ tested p stripe
  unfolding when◌then◌else◌ numbered refusal_number test_refusal tested
  refused-plan f = ap verdict (sym (fails 10 _ f))

  module _ (t : known p ≡ true) {f : Facts} (is : FactsOf (plan_of p) f) where
    pub refused-length : (length stripe ≡ f.symbols → ⊥) → numbered (Err WrongLength) ≡ tested p stripe
    unfolding when◌then◌else◌ numbered refusal_number stripe_fits test_refusal tested
    refused-length ne = ap verdict (sym (passes 10 _ t ∙ fails 11 _ (ne_eqb _ _ (λ e. ne (e ∙ sym is.symbols)))))

    module _ (fits : length stripe ≡ f.symbols) {q : ℕ} (its-size : q ≡ size (field_of f.field)) {a : Bool} (below : a ≡ all_below q stripe) where
      its-length : stripe_fits (plan_of p) stripe ≡ true
      unfolding stripe_fits
      its-length = eq-eqb _ _ (fits ∙ is.symbols)

      pub refused-symbols : a ≡ false → numbered (Err NoSymbol) ≡ tested p stripe
      unfolding when◌then◌else◌ numbered refusal_number test_refusal tested
      refused-symbols e = ap verdict (sym (passes 10 _ t ∙ passes 11 _ its-length ∙ fails 13 _ (its-symbols is stripe its-size below e)))

      pub answered-test : a ≡ true → {b : Bool} → b ≡ is_codeword (plan_of p) stripe → numbered (Ok b) ≡ tested p stripe
      unfolding when◌then◌else◌ numbered test_refusal tested
      answered-test all holds =
          ap Ok holds ∙ ap verdict (sym (passes 10 _ t ∙ passes 11 _ its-length ∙ passes 13 _ (its-symbols is stripe its-size below all) ∙ none-fails))

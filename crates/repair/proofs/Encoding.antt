-- What encoding knows where nothing is refused, and what it leaves. Assumes nothing.
use mathlib.Core.Path.{◌≡◌, ◌∙◌}
use mathlib.Core.List.{List}
use Prim.Native.Nat.{ℕ, ◌*◌, ◌≤◌}
use native.Mathlib.Omega.{arith}
use borrow.Author.Tests.{eqb-true, eq-eqb, ne_eqb}
use lib.ListN.{length}
use Rattle.std.specs.Prelude.{Ok, Err}
use Rattle.field.specs.Lists.{when◌then◌else◌}
use Rattle.plans.specs.Answers.{refused_by}
use Rattle.plans.specs.Plan.{plan_of, marks_of, check_places_of, carried}
use Rattle.plans.specs.Refusal.{stripe_fits}
use Rattle.repair.specs.Mending.{mend_stripe}
use Rattle.encoding.specs.Data.{placed, encode_refusal}
use Rattle.repair.specs.Encoding.{encoded, encode_stripe}
use Rattle.plans.specs.declared.Refusal.{Refusal}
use Rattle.plans.specs.Rooms.{row_room}
use Rattle.plans.proofs.Plans.{rows-most}
use Rattle.plans.proofs.Scan.{true-and}
use Rattle.encoding.proofs.Carrying.{words_count}
use Rattle.plans.proofs.Refusals.{passed, accepted, refused}

-- the check places are as many words as a bench has room for
pub places-few : (p : ℕ) {words : List ℕ} → words ≡ (plan_of p).check_places → length words ≤ row_room
places-few p e = rw (e, words_count p) (rows-most p)

module _ (p : ℕ) (ds stripe : List ℕ) where
  pub encode-refused : (r : Refusal) → refused_by (Err r) ≡ encode_refusal p ds stripe → stripe ≡ encode_stripe p ds stripe
  unfolding encode_stripe when◌then◌else◌
  encode-refused r e = rw (ne_eqb (encode_refusal p ds stripe) 0 (refused r e))

  module _ (e : refused_by (Ok tt) ≡ encode_refusal p ds stripe) where
    pub encode-fits : (length ds ≡ carried (plan_of p)) × (length stripe ≡ (plan_of p).rows * (plan_of p).columns)
    unfolding stripe_fits encode_refusal
    encode-fits =
        let t11 = (passed 11 _ _ (λ z. omega arith) (passed 10 _ _ (λ z. omega arith) (accepted e)).1).0 in
        let both = true-and _ _ t11 in (eqb-true _ _ both.0, eqb-true _ _ both.1)

    -- the marks that are mended are a copy of the check places
    pub encode-done : {words marks D X : List ℕ} → words ≡ (plan_of p).check_places → marks ≡ words → D ≡ placed (marks_of (plan_of p) words) ds
        → X ≡ mend_stripe p D marks → X ≡ encode_stripe p ds stripe
    unfolding check_places_of encoded encode_stripe when◌then◌else◌
    encode-done ew em ed ex = rw (eq-eqb (encode_refusal p ds stripe) 0 (accepted e)) (ex ∙ rw (em, ed, ew))

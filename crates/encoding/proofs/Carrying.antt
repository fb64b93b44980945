-- The check places as they are lent, what a call leaves, and extraction. Assumes nothing.
use mathlib.Core.Path.{◌≡◌, sym, ap, ◌∙◌}
use mathlib.Core.Bool.{true, ◌&&◌}
use mathlib.Core.List.{List}
use Prim.Native.Nat.{ℕ, ◌*◌, ◌≤◌}
use native.Mathlib.Nat.{le_of_eq}
use native.Mathlib.Omega.{arith}
use borrow.Author.Tests.{eqb-true, eq-eqb, ne_eqb}
use lib.Dec.{eqb, eqb→eq}
use lib.ListN.{length}
use Rattle.std.specs.Prelude.{Ok, Err}
use Rattle.field.specs.Lists.{when◌then◌else◌}
use Rattle.fills.specs.Lists.{all}
use Rattle.plans.specs.Plan.{binary_plan, plan1, plan2, plan3, plan4, plan5, no_plan, known, plan_of, marks_of, check_places_of, carried}
use Rattle.plans.specs.Refusal.{stripe_fits}
use Rattle.plans.specs.Answers.{refused_by}
use Rattle.plans.specs.declared.Refusal.{Refusal}
use Rattle.plans.specs.Tables.{unmarked}
use Rattle.plans.proofs.Plans.{all-plans}
use Rattle.plans.proofs.Refusals.{passed, accepted, refused}
use Rattle.plans.proofs.Scan.{true-and}
use Rattle.encoding.specs.Asked.{Fits}
use Rattle.encoding.specs.Data.{extract_refusal}

-- ---- the check places

module _ (p : ℕ) where
  pub words_count : length (plan_of p).check_places ≡ (plan_of p).rows
  unfolding all binary_plan plan1 plan2 plan3 plan4 plan5 no_plan
  words_count = eqb→eq _ _ (all-plans (λ P. eqb (length P.check_places) P.rows) tt p)

  -- as they are lent, with data and a stripe of the plan's lengths
  pub lent-fit : {words : List ℕ} → words ≡ (plan_of p).check_places → (ds stripe : List ℕ) → length ds ≡ carried (plan_of p)
      → length stripe ≡ (plan_of p).rows * (plan_of p).columns → Fits (plan_of p) words ds stripe
  unfolding check_places_of carried
  lent-fit lent ds stripe room long = record {
    high = ap length lent ∙ words_count;
    room = room ∙ ap (λ w. unmarked (marks_of (plan_of p) w)) (sym lent);
    long = long;
  }

-- ---- what a buffer holds after a call: `new` where its `?` went on, `old` where it refused

module _ {k : ℕ} (new old : List ℕ) where
  pub left-new : refused_by (Ok tt) ≡ k → new ≡ (when eqb k 0 then new else old)
  unfolding when◌then◌else◌
  left-new e = ap (λ b. when b then new else old) (sym (eq-eqb k 0 (accepted e)))

  pub left-old : (r : Refusal) → refused_by (Err r) ≡ k → old ≡ (when eqb k 0 then new else old)
  unfolding when◌then◌else◌
  left-old r e = ap (λ b. when b then new else old) (sym (ne_eqb k 0 (refused r e)))

-- ---- extraction

-- what is not refused has the plan's lengths
pub extract-fits : (p : ℕ) (stripe ds : List ℕ) → extract_refusal p stripe ds ≡ 0
    → (length stripe ≡ (plan_of p).rows * (plan_of p).columns) × (length ds ≡ carried (plan_of p))
unfolding stripe_fits extract_refusal
extract-fits p stripe ds e =
    let P = plan_of p in
    let behind = (passed 10 (known p) _ (λ z. omega arith) e).1 in
    let fit = true-and (eqb (length stripe) (P.rows * P.columns)) _ (passed 11 _ _ (λ z. omega arith) behind).0 in
    (eqb-true _ _ fit.0, eqb-true _ _ fit.1)

-- so has a stripe beside data whose lengths both fit
pub lengths-long : (p : ℕ) (stripe ds : List ℕ) → true ≡ (eqb (length ds) (carried (plan_of p)) && stripe_fits (plan_of p) stripe)
    → (plan_of p).rows * (plan_of p).columns ≤ length stripe
unfolding stripe_fits
lengths-long p stripe ds e = le_of_eq (sym (eqb-true (length stripe) _ (true-and (eqb (length ds) (carried (plan_of p))) _ (sym e)).1))

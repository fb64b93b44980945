-- Each test stands behind those before it in the list, which hold there. Assumes nothing.
use mathlib.Core.Path.{◌≡◌, ap, ◌∙◌}
use mathlib.Core.Bool.{Bool, ◌&&◌, and_comm}
use mathlib.Core.List.{List}
use Prim.Native.Nat.{ℕ}
use lib.Dec.{eqb}
use lib.ListN.{length}
use Rattle.std.proofs.Common.{rules}
use Rattle.field.specs.Lists.{when◌then◌else◌}
use Rattle.field.specs.Field.{size}
use Rattle.field.proofs.Ring.{size-pos}
use Rattle.plans.specs.Answers.{refusal_number, refused_by}
use Rattle.plans.specs.Plan.{plan_of, carried}
use Rattle.plans.specs.Refusal.{stripe_fits, first_failed}
use Rattle.encoding.specs.Data.{extract_refusal}
use Rattle.encoding.proofs.Carrying.{lengths-long}
use Rattle.encoding.proofs.encoding.extract_refusal.Goals as goal

-- the two lengths, in the other order
lengths : (p : ℕ) (stripe ds : List ℕ) {a : Bool} → a ≡ (eqb (length ds) (carried (plan_of p)) && stripe_fits (plan_of p) stripe)
    → a ≡ (stripe_fits (plan_of p) stripe && eqb (length ds) (carried (plan_of p)))
lengths p stripe ds e = e ∙ and_comm (eqb (length ds) (carried (plan_of p))) (stripe_fits (plan_of p) stripe)

pub returns-then-not-is_known : goal.returns-then-not-is_known
unfolding when◌then◌else◌ first_failed extract_refusal refusal_number refused_by
returns-then-not-is_known c = search rules

pub returns-then-not-lengths_fit : goal.returns-then-not-lengths_fit
unfolding when◌then◌else◌ first_failed extract_refusal refusal_number refused_by
returns-then-not-lengths_fit c = let fit = lengths _ _ _ c.if-not-lengths_fit.ensures in search rules

pub all_below-requires : goal.all_below-requires
all_below-requires c = rw c.size.ensures (size-pos _)

pub returns-then-not-all_below : goal.returns-then-not-all_below
unfolding when◌then◌else◌ first_failed extract_refusal refusal_number refused_by
returns-then-not-all_below c =
    let fit = lengths _ _ _ c.if-not-lengths_fit.ensures in
    let q = ap size c.facts_of.ensures.field.names in
    search rules

pub holds-requires : goal.holds-requires
holds-requires c = lengths-long c.args.plan c.args.stripe.now c.args.«data».now c.if-not-lengths_fit.ensures

pub returns-then-not-holds : goal.returns-then-not-holds
unfolding when◌then◌else◌ first_failed extract_refusal refusal_number refused_by
returns-then-not-holds c =
    let fit = lengths _ _ _ c.if-not-lengths_fit.ensures in
    let q = ap size c.facts_of.ensures.field.names in
    search rules

pub returns : goal.returns
unfolding when◌then◌else◌ first_failed extract_refusal refusal_number refused_by
returns c =
    let fit = lengths _ _ _ c.if-not-lengths_fit.ensures in
    let q = ap size c.facts_of.ensures.field.names in
    search rules

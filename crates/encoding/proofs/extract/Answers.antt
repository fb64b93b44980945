-- What the refusal's `?` tells: which of the two the data are left as. Assumes nothing.
use mathlib.Core.Path.{ap, ◌∙◌}
use Rattle.plans.specs.Plan.{plan_of, marks_of, check_places_of}
use Rattle.plans.proofs.Refusals.{accepted}
use Rattle.encoding.specs.Data.{taken, extracted, extract_data}
use Rattle.encoding.proofs.Carrying.{lent-fit, left-new, left-old, extract-fits}
use Rattle.encoding.proofs.extract.Goals as goal

pub returns-in_err-extract_refusal-clause-data_after : goal.returns-in_err-extract_refusal-clause-data_after
unfolding extract_data
returns-in_err-extract_refusal-clause-data_after c = left-old _ _ _ c.in_err-extract_refusal.ensures

pub take-requires : goal.take-requires
take-requires c =
    let fits = extract-fits c.args.plan c.args.stripe.now c.args.«data».now (accepted c.in_ok-extract_refusal.ensures) in
    lent-fit c.args.plan c.check_places.ensures _ _ fits.1 fits.0

pub returns-clause-data_after : goal.returns-clause-data_after
unfolding check_places_of extracted extract_data
returns-clause-data_after c =
    c.take.ensures ∙ ap (λ words. taken (marks_of (plan_of c.args.plan) words) c.args.stripe.now) c.check_places.ensures
    ∙ left-new _ _ c.in_ok-extract_refusal.ensures

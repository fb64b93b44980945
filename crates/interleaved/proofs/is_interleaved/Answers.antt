-- The tests in their order, as in the codeword test of plan 3, whose verdict this is: the first that fails refuses, and where none does the rule answers.
-- Assumes nothing.
use mathlib.Core.Path.{◌≡◌, refl, sym, ◌∙◌}
use mathlib.Core.Bool.{true}
use Rattle.field.proofs.Ring.{size-pos}
use Rattle.plans.specs.Plan.{plan3, known, plan_of}
use Rattle.codewords.proofs.Verdicts.{refused-length, refused-symbols, answered-test}
use Rattle.interleaved.proofs.Same.{same_code, same-verdict}
use Rattle.interleaved.proofs.is_interleaved.Goals as goal

is_known : known 3 ≡ true
unfolding plan3 plan_of known
is_known = refl

pub returns-then-stripe-facts : goal.returns-then-stripe-facts
returns-then-stripe-facts c = refused-length 3 c.args.stripe.now is_known c.facts_of-facts.ensures c.if-stripe-facts.true ∙ sym (same-verdict c.args.stripe.now)

pub all_below-requires : goal.all_below-requires
all_below-requires c = rw c.size.ensures (size-pos _)

pub returns-then-not-all_below : goal.returns-then-not-all_below
returns-then-not-all_below c =
    refused-symbols 3 c.args.stripe.now is_known c.facts_of-facts.ensures c.if-stripe-facts.false c.size.ensures c.all_below.ensures c.if-not-all_below.true
    ∙ sym (same-verdict c.args.stripe.now)

pub holds-requires : goal.holds-requires
unfolding plan3 plan_of
holds-requires c = c.if-stripe-facts.false ∙ c.facts_of-facts.ensures.symbols

pub returns : goal.returns
unfolding plan_of
returns c =
    answered-test 3 c.args.stripe.now is_known c.facts_of-facts.ensures c.if-stripe-facts.false c.size.ensures c.all_below.ensures c.if-not-all_below.false
    (c.holds.ensures ∙ same_code c.args.stripe.now) ∙ sym (same-verdict c.args.stripe.now)

-- The tests in their order: the first that fails refuses, and where none does the rule answers.
use mathlib.Core.Path.{sym, ◌∙◌}
use Rattle.field.specs.Ours.{field_of}
use Rattle.field.proofs.Ring.{size-pos}
use Rattle.codewords.proofs.Verdicts.{refused-plan, refused-length, refused-symbols, answered-test}
use Rattle.codewords.proofs.is_codeword.Goals as goal

pub returns-then-not-is_known : goal.returns-then-not-is_known
returns-then-not-is_known c = refused-plan _ _ (sym c.is_known.ensures ∙ c.if-not-is_known.true)

pub returns-then-stripe-facts : goal.returns-then-stripe-facts
returns-then-stripe-facts c = refused-length _ _ (sym c.is_known.ensures ∙ c.if-not-is_known.false) c.facts_of-facts.ensures c.if-stripe-facts.true

pub all_below-requires : goal.all_below-requires
all_below-requires c = rw c.size.ensures (size-pos (field_of c.facts_of-facts.result.field))

pub returns-then-not-all_below : goal.returns-then-not-all_below
returns-then-not-all_below c =
    refused-symbols _ _ (sym c.is_known.ensures ∙ c.if-not-is_known.false) c.facts_of-facts.ensures c.if-stripe-facts.false c.size.ensures c.all_below.ensures
    c.if-not-all_below.true

pub returns : goal.returns
returns c =
    answered-test _ _ (sym c.is_known.ensures ∙ c.if-not-is_known.false) c.facts_of-facts.ensures c.if-stripe-facts.false c.size.ensures c.all_below.ensures
    c.if-not-all_below.false c.holds.ensures

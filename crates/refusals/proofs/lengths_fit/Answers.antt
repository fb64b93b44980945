-- The plan's sizes are its facts, and each length is compared with one. Assumes nothing.
use mathlib.Core.Path.{◌∙◌}
use borrow.Author.Tests.{eq-eqb, ne_eqb}
use Rattle.plans.specs.Refusal.{stripe_fits, words_fit}
use Rattle.refusals.proofs.lengths_fit.Goals as goal

pub returns-then-stripe-facts : goal.returns-then-stripe-facts
unfolding stripe_fits words_fit
returns-then-stripe-facts c = rw (c.facts_of-facts.ensures.rows, eq-eqb _ _ (c.if-stripe-facts.true ∙ c.facts_of-facts.ensures.symbols))

pub returns-else-stripe-facts : goal.returns-else-stripe-facts
unfolding stripe_fits words_fit
returns-else-stripe-facts c = let other = ne_eqb _ _ c.if-stripe-facts.false in rw (← c.facts_of-facts.ensures.symbols, other)

-- The two lengths are compared one after the other.
use mathlib.Core.Path.{◌∙◌}
use borrow.Author.Tests.{eq-eqb}
use Rattle.plans.specs.Refusal.{stripe_fits}
use Rattle.encoding.proofs.encoding.lengths_fit.Goals as goal

pub returns-then-data-facts : goal.returns-then-data-facts
unfolding stripe_fits
returns-then-data-facts c = rw (c.facts_of-facts.ensures.symbols, eq-eqb _ _ (c.if-data-facts.true ∙ c.facts_of-facts.ensures.carried))

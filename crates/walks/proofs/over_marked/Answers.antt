-- `over_marked`: by the code's test of all words of the rows. Assumes nothing.
use mathlib.Core.Logic.{⊎_elim, inl, inr}
use mathlib.Core.Path.{◌∙◌}
use native.Mathlib.Omega.{arith}
use Rattle.rows.proofs.Lending.{is-two, not-two}
use Rattle.walks.proofs.Over.{over-bits, over-all}
use Rattle.walks.proofs.over_marked.Goals as goal

pub returns-then-sums-ne1 : goal.returns-then-sums-ne1
returns-then-sums-ne1 c = over-bits c.facts_of-facts.ensures c.sums_to-sums.ensures _ (is-two _ c.eq.ensures c.if-eq.true) c.if-sums-ne1.true

pub returns : goal.returns
returns c =
    c.all_over.ensures
    ∙ over-all c.facts_of-facts.ensures c.sums_to-sums.ensures _
    (⊎_elim (λ w. inl (is-two _ c.eq.ensures w.0, w.1)) (λ f. inr (not-two _ c.eq.ensures f)) c.else-eq.either)
    (omega (arith, c.requires, c.facts_of-facts.ensures.rows))

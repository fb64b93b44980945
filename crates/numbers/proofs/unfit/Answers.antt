-- The refusal goes by whether the plan is known. Assumes nothing.
use mathlib.Core.Path.{sym, ap, ◌∙◌}
use Rattle.field.specs.Lists.{when◌then◌else◌}
use Rattle.plans.specs.Answers.{refusal_number}
use Rattle.numbers.specs.Numbers.{unfit}
use Rattle.numbers.proofs.unfit.Goals as goal

pub returns-then-is_known : goal.returns-then-is_known
unfolding unfit when◌then◌else◌ refusal_number
returns-then-is_known c = ap (λ b. when b then 11 else 10) (sym c.if-is_known.true ∙ c.is_known.ensures)

pub returns : goal.returns
unfolding unfit when◌then◌else◌ refusal_number
returns c = ap (λ b. when b then 11 else 10) (sym c.if-is_known.false ∙ c.is_known.ensures)

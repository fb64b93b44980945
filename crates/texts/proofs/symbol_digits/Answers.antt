-- By the size of the plan's field. Assumes nothing.
use mathlib.Core.Path.{sym, ap, ◌∙◌}
use native.Mathlib.Omega.{arith}
use Rattle.field.specs.Field.{size}
use Rattle.plans.specs.Plan.{plan_of}
use Rattle.texts.proofs.Texts.{one-digit-symbols, two-digit-symbols}
use Rattle.texts.proofs.symbol_digits.Goals as goal

pub returns-then-is_small : goal.returns-then-is_small
returns-then-is_small c = sym (one-digit-symbols (plan_of c.args.plan) (omega (arith, c.size-is_small.ensures ∙ ap size c.facts_of.ensures.field.names)))

pub returns-else-is_small : goal.returns-else-is_small
returns-else-is_small c = sym (two-digit-symbols (plan_of c.args.plan) (omega (arith, c.size-is_small.ensures ∙ ap size c.facts_of.ensures.field.names)))

-- Each plan's mark words are computed from its check places; without a plan there are none. Assumes nothing.
use mathlib.Core.Path.{sym, ap}
use Rattle.std.proofs.Common.{rules}
use Rattle.field.specs.Lists.{up_from}
use Rattle.field.specs.Field.{size, gf32, gf64}
use Rattle.plans.specs.Plan.{Plan, word_of, front_and_last, binary_plan, plan1, plan2, plan3, plan4, plan5, no_plan, plan_of}
use Rattle.plans.proofs.Plans.{unknown}
use Rattle.tables.proofs.check_places.Goals as goal

pub returns-in-1 : goal.returns-in-1
unfolding word_of plan1 plan_of
returns-in-1 c = ap (λ p. (plan_of p).check_places) (sym c.in-1.is)

pub returns-in-2 : goal.returns-in-2
unfolding up_from size gf32 word_of front_and_last binary_plan plan2 plan_of
returns-in-2 c = ap (λ p. (plan_of p).check_places) (sym c.in-2.is)

pub returns-in-3 : goal.returns-in-3
unfolding up_from word_of plan3 plan_of
returns-in-3 c = ap (λ p. (plan_of p).check_places) (sym c.in-3.is)

pub returns-in-4 : goal.returns-in-4
unfolding up_from word_of plan4 plan_of
returns-in-4 c = ap (λ p. (plan_of p).check_places) (sym c.in-4.is)

pub returns-in-5 : goal.returns-in-5
unfolding up_from size gf64 word_of front_and_last binary_plan plan5 plan_of
returns-in-5 c = ap (λ p. (plan_of p).check_places) (sym c.in-5.is)

pub returns-in_default : goal.returns-in_default
unfolding up_from no_plan
returns-in_default c = ap (λ (P : Plan). P.check_places) (sym (unknown c.args.plan (search rules)))

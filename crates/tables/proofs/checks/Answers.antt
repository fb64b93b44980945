-- Each plan's numbers are its table's, one test for each; without a plan there are none. Assumes nothing.
use Rattle.std.proofs.Common.{rules}
use mathlib.Core.Path.{sym, ap}
use mathlib.Core.List.{flat_map}
use Rattle.field.specs.Lists.{up_from}
use Rattle.field.specs.Field.{◌⊕◌, size, double, times, mul, gf16, gf32, gf64, gf256}
use Rattle.field.specs.Power.{power}
use Rattle.plans.specs.Plan.{all_ones, bit_checks, locations1, elements, power_bits, binary_plan, plan1, plan2, plan5, locations3, powers3, plan3, locations4, powers4, plan4, no_plan, plan_of, checks_to}
use Rattle.plans.specs.Tables.{check_table}
use Rattle.plans.proofs.Plans.{unknown}
use Rattle.tables.proofs.checks.Goals as goal

pub returns-in-1 : goal.returns-in-1
unfolding up_from flat_map all_ones bit_checks locations1 plan1 plan_of checks_to check_table
returns-in-1 c = ap (λ p. check_table (plan_of p)) (sym c.in-1.is)

pub returns-in-2 : goal.returns-in-2
unfolding up_from flat_map ◌⊕◌ size double times mul gf32 power all_ones bit_checks elements power_bits binary_plan plan2 plan_of checks_to check_table
returns-in-2 c = ap (λ p. check_table (plan_of p)) (sym c.in-2.is)

pub returns-in-3 : goal.returns-in-3
unfolding up_from flat_map ◌⊕◌ size double times mul gf16 power locations3 powers3 plan3 plan_of checks_to check_table
returns-in-3 c = ap (λ p. check_table (plan_of p)) (sym c.in-3.is)

pub returns-in-4 : goal.returns-in-4
unfolding up_from flat_map ◌⊕◌ size double times mul gf256 power locations4 powers4 plan4 plan_of checks_to check_table
returns-in-4 c = ap (λ p. check_table (plan_of p)) (sym c.in-4.is)

pub returns-in-5 : goal.returns-in-5
unfolding up_from flat_map ◌⊕◌ size double times mul gf64 power all_ones bit_checks elements power_bits binary_plan plan5 plan_of checks_to check_table
returns-in-5 c = ap (λ p. check_table (plan_of p)) (sym c.in-5.is)

pub returns-in_default : goal.returns-in_default
unfolding up_from flat_map no_plan checks_to check_table
returns-in_default c = ap check_table (sym (unknown c.args.plan (search rules)))

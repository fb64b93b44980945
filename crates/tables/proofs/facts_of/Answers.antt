-- Each plan's numbers are computed from the plan. Assumes nothing.
use mathlib.Core.Path.{sym, subst}
use Rattle.std.proofs.Common.{rules}
use mathlib.Core.List.{flat_map}
use Rattle.field.specs.Lists.{when◌then◌else◌, up_from}
use Rattle.field.specs.Field.{◌⊕◌, size, double, times, mul, gf2, gf16, gf32, gf64, gf256}
use Rattle.field.specs.Ours.{field_of}
use Rattle.field.specs.Power.{power}
use Rattle.fills.specs.Lists.{only}
use Rattle.fills.specs.Marks.{bits_of}
use Rattle.plans.specs.Plan.{all_ones, bit_checks, word_of, locations1, plan1, elements, power_bits, front_and_last, binary_plan, plan2, plan5, locations3, powers3, plan3, locations4, powers4, weights4, plan4, no_plan, plan_of, no_level, level_of, checks_to, marks_at, marks_of, check_places_of, carried, marks_offset, wide_marks, word_bytes, symbols_offset, file_length}
use Rattle.tables.specs.Tables.{FactsOf}
use Rattle.plans.proofs.Plans.{unknown}
use Rattle.tables.proofs.facts_of.Goals as goal

pub returns-in-1 : goal.returns-in-1
unfolding when◌then◌else◌ up_from flat_map size gf2 only bits_of all_ones bit_checks word_of locations1 plan1 plan_of no_level level_of checks_to marks_at marks_of
    check_places_of carried marks_offset wide_marks word_bytes symbols_offset file_length field_of
returns-in-1 c = subst (λ p. FactsOf (plan_of p) _) (sym c.in-1.is) (search rules)

pub returns-in-2 : goal.returns-in-2
unfolding when◌then◌else◌ up_from flat_map ◌⊕◌ size double times mul gf2 gf32 power only bits_of all_ones bit_checks word_of elements power_bits front_and_last binary_plan plan2 plan_of no_level level_of checks_to marks_at marks_of
    check_places_of carried marks_offset wide_marks word_bytes symbols_offset file_length field_of
returns-in-2 c = subst (λ p. FactsOf (plan_of p) _) (sym c.in-2.is) (search rules)

pub returns-in-3 : goal.returns-in-3
unfolding when◌then◌else◌ up_from flat_map ◌⊕◌ size double times mul gf16 power only bits_of all_ones bit_checks word_of locations3 powers3 plan3 plan_of no_level level_of checks_to marks_at marks_of
    check_places_of carried marks_offset wide_marks word_bytes symbols_offset file_length field_of
returns-in-3 c = subst (λ p. FactsOf (plan_of p) _) (sym c.in-3.is) (search rules)

pub returns-in-4 : goal.returns-in-4
unfolding when◌then◌else◌ up_from flat_map ◌⊕◌ size double times mul gf256 power only bits_of all_ones bit_checks word_of locations4 powers4 weights4 plan4 plan_of no_level level_of checks_to marks_at marks_of
    check_places_of carried marks_offset wide_marks word_bytes symbols_offset file_length field_of
returns-in-4 c = subst (λ p. FactsOf (plan_of p) _) (sym c.in-4.is) (search rules)

pub returns-in-5 : goal.returns-in-5
unfolding when◌then◌else◌ up_from flat_map ◌⊕◌ size double times mul gf2 gf64 power only bits_of all_ones bit_checks word_of elements power_bits front_and_last binary_plan plan5 plan_of no_level level_of checks_to marks_at marks_of
    check_places_of carried marks_offset wide_marks word_bytes symbols_offset file_length field_of
returns-in-5 c = subst (λ p. FactsOf (plan_of p) _) (sym c.in-5.is) (search rules)

pub returns-in_default : goal.returns-in_default
unfolding when◌then◌else◌ up_from flat_map size gf2 only no_plan no_level level_of checks_to marks_at marks_of check_places_of carried marks_offset wide_marks word_bytes symbols_offset file_length field_of
returns-in_default c = rw (unknown c.args.plan (search rules)) (search rules)

-- Coefficients and weights of the plans, sums across rows, and the values of answers, on samples. Assumes nothing.
use mathlib.Core.Path.{◌≡◌, refl}
use mathlib.Core.List.{[], ◌∷◌, map, flat_map}
use lib.ListN.{get_or, replicate}
use Rattle.field.specs.Lists.{up_from}
use Rattle.field.specs.Field.{◌⊕◌, size, double, times, mul, dot, gf2, gf16, gf32, gf64}
use Rattle.field.specs.Power.{power}
use Rattle.plans.specs.Plan.{all_ones, bit_checks, elements, power_bits, binary_plan, plan1, plan2, plan3, plan5, no_level, level_of, checks_to, row_at, across}
use Rattle.plans.specs.Answers.{place_values, end_values, answer_values, report_values}
use Rattle.plans.specs.declared.Answer.TheVariants.{Restored, Stuck, Clash}
use Rattle.plans.specs.declared.Place.TheVariants.{Row, Across}

-- the last column of plans 2 and 5, at location 0, counts in the parity alone
pub parity-samples :
    (map (λ check. get_or check 31 0) (checks_to plan2 3) ≡ 1 ∷ replicate 15 0) × (map (λ check. get_or check 63 0) (checks_to plan5 3) ≡ 1 ∷ replicate 18 0)
unfolding up_from flat_map ◌⊕◌ size double times mul gf32 gf64 power all_ones bit_checks elements power_bits binary_plan plan2 plan5 checks_to
parity-samples = (refl, refl)

-- in plan 3 the second total of level 2 weighs row r by a ^ r
pub weight-sample : (level_of plan3 2).weights ≡ all_ones 8 ∷ (1 ∷ 2 ∷ 4 ∷ 8 ∷ 3 ∷ 6 ∷ 12 ∷ 11 ∷ []) ∷ []
unfolding up_from ◌⊕◌ size double times mul gf16 power all_ones plan3 no_level level_of
weight-sample = refl

-- rows 0 and 2 of this stripe have an odd number of symbols under the check
pub across-sample :
    across plan1
    (1 ∷ 0 ∷ 0 ∷ 0 ∷ 0 ∷ 0 ∷ 0 ∷ 0 ∷ 1 ∷ 0 ∷ 0 ∷ 0 ∷ 0 ∷ 0 ∷ 1 ∷ 1 ∷ 1 ∷ 0 ∷ 1 ∷ 0 ∷ 0 ∷ [])
    (1 ∷ 0 ∷ 1 ∷ 0 ∷ 1 ∷ 0 ∷ 1 ∷ [])
    ≡ 1 ∷ 0 ∷ 1 ∷ []
unfolding up_from ◌⊕◌ size double times mul dot gf2 plan1 row_at across
across-sample = refl

-- a Clash in row 2 at level 1, and one across rows at level 2
pub place-samples : (place_values (Row 2 1) ≡ 1 ∷ 2 ∷ []) × (place_values (Across 2) ≡ 2 ∷ [])
unfolding place_values
place-samples = (refl, refl)

-- plan 1 has two levels, plan 2 has three: level reached, rows left, and rows restored at each
pub report-samples :
    (report_values plan1 (record { answer = Restored; level = 2; rows = 2 ∷ 1 ∷ 0 ∷ []; left = 0 }) ≡ 2 ∷ 0 ∷ 2 ∷ 1 ∷ [])
    × (report_values plan2 (record { answer = Stuck; level = 3; rows = 4 ∷ 0 ∷ 1 ∷ []; left = 2 }) ≡ 3 ∷ 2 ∷ 4 ∷ 0 ∷ 1 ∷ [])
    × (report_values plan1 (record { answer = Clash (Row 2 1); level = 0; rows = 0 ∷ 0 ∷ 0 ∷ []; left = 0 }) ≡ 1 ∷ 2 ∷ [])
unfolding binary_plan plan1 plan2 place_values end_values answer_values report_values
report-samples = (refl, refl, refl)

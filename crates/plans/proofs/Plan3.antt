-- What is known of plan 3: power sums 0 to 6. Assumes nothing.
use Rattle.field.proofs.Test.{both_right}
use Rattle.field.proofs.Words.{fit, distinct}
use Rattle.plans.specs.Plan.{locations3, powers3, plan3}
use Rattle.plans.proofs.Known.{ℕ, T, lit<, List, [], ◌∷◌, map, flat_map, subst, arith, up_from, ◌⊕◌, size, double, times, mul, gf16, power, gf16-field, ◌&◌, all, all_ones, level_of, checks_to, tied_by_count, Columns, no_rows, plain-total, are_locations, first-powers, power-sums, Known}

locations-3 : T (are_locations gf16 locations3)
unfolding up_from ◌⊕◌ size double times mul power gf16 locations3
locations-3 = tt

-- in the totals row r has location a ^ r
row_locations : List ℕ
row_locations = map (power gf16 2) (up_from 0 8)

row-locations : T (are_locations gf16 row_locations)
unfolding up_from ◌⊕◌ size double times mul power gf16 row_locations
row-locations = tt

located : Columns gf16 8 3 (all_ones 8 ∷ row_locations ∷ [])
unfolding up_from power all_ones row_locations
located =
    subst (λ ys. Columns gf16 8 3 (all_ones 8 ∷ ys ∷ []))
    (first-powers gf16 gf16-field row_locations (both_right (distinct row_locations) (fit (size gf16) row_locations) row-locations))
    (power-sums gf16 gf16-field row_locations row-locations 2)

abbrev pub distances-3 : List ℕ
distances-3 = 3 ∷ 4 ∷ 8 ∷ []

pub plan-3 : Known plan3 distances-3
unfolding flat_map up_from size gf16 all all_ones locations3 powers3 plan3 level_of checks_to tied_by_count row_locations
plan-3 =
    let sums = power-sums gf16 gf16-field locations3 locations-3 in
    record {
      shape = omega arith;
      field = gf16-field;
      checks = sums 2 & sums 3 & sums 7 & tt;
      wide = λ _. lit< tt & lit< tt & lit< tt & tt;
      tells = λ _. lit< tt;
      weights = no_rows gf16 8 & located & plain-total gf16 gf16-field 8 & tt;
    }

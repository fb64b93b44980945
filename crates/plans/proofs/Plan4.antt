-- What is known of plan 4: power sums 0 to 8, over bytes. Assumes nothing.
use Rattle.plans.specs.Plan.{locations4, powers4, weights4, plan4}
use Rattle.plans.proofs.Known.{ℕ, T, lit<, List, [], ◌∷◌, map, flat_map, arith, up_from, ◌⊕◌, size, double, times, mul, gf256, power, gf256-field, ◌&◌, all, all_ones, level_of, checks_to, tied_by_count, Columns, no_rows, plain-total, are_locations, power-sums, Known}

locations : T (are_locations gf256 locations4)
unfolding up_from ◌⊕◌ size double times mul power gf256 locations4
locations = tt

-- in the totals row r has location a ^ r
row_locations : List ℕ
row_locations = map (power gf256 2) (up_from 0 12)

row-locations : T (are_locations gf256 row_locations)
unfolding up_from ◌⊕◌ size double times mul power gf256 row_locations
row-locations = tt

located : Columns gf256 12 4 (map weights4 (up_from 0 3))
unfolding up_from ◌⊕◌ size double times mul power gf256 weights4 row_locations
located = power-sums gf256 gf256-field row_locations row-locations 3

abbrev pub distances-4 : List ℕ
distances-4 = 3 ∷ 5 ∷ 10 ∷ []

pub plan-4 : Known plan4 distances-4
unfolding flat_map up_from size gf256 all all_ones locations4 powers4 weights4 plan4 level_of checks_to tied_by_count row_locations
plan-4 =
    let sums = power-sums gf256 gf256-field locations4 locations in
    record {
      shape = omega arith;
      field = gf256-field;
      checks = sums 2 & sums 4 & sums 9 & tt;
      wide = λ _. lit< tt & lit< tt & lit< tt & tt;
      tells = λ _. lit< tt;
      weights = no_rows gf256 12 & located & plain-total gf256 gf256-field 12 & tt;
    }

-- What is known of plan 1: parity, and the bits of power sum 1. Assumes nothing.
use Rattle.plans.specs.Plan.{locations1, plan1}
use Rattle.plans.proofs.Known.{ℕ, T, lit<, List, [], ◌∷◌, ◌++◌, flat_map, refl, subst, arith, up_from, size, gf2, gf8, gf2-field, gf8-field, ◌&◌, all, all_ones, bit_checks, level_of, checks_to, tied_by_count, Columns, no_rows, plain-total, are_locations, first-powers, binary-sums, Known}

locations-1 : T (are_locations gf8 locations1)
unfolding up_from size gf8 locations1
locations-1 = tt

abbrev pub distances-1 : List ℕ
distances-1 = 2 ∷ 4 ∷ []

pub plan-1 : Known plan1 distances-1
unfolding flat_map up_from size gf2 gf8 all all_ones bit_checks locations1 plan1 level_of checks_to tied_by_count
plan-1 = record {
  shape = omega arith;
  field = gf2-field;
  checks =
      binary-sums gf8 gf8-field locations1 locations-1 0
      & subst (λ ys. Columns gf2 7 4 (all_ones 7 ∷ bit_checks 3 ys ++ [])) (first-powers gf8 gf8-field locations1 tt)
      (binary-sums gf8 gf8-field locations1 locations-1 1)
      & tt;
  wide = λ ne. absurd (ne refl);
  tells = λ _. lit< tt;
  weights = no_rows gf2 3 & plain-total gf2 gf2-field 3 & tt;
}

-- What is known of plan 5: its locations are the elements of GF(64), and a bench has room for it. Assumes nothing.
use Rattle.plans.specs.Plan.{elements, power_bits, binary_plan, plan5}
use Rattle.plans.proofs.Known.{T, arith, flat_map, up_from, ◌⊕◌, size, double, times, mul, gf2, gf64, power, gf64-field, all, all_ones, bit_checks, level_of, checks_to, tied_by_count, are_locations, Shape, Known}
use Rattle.plans.proofs.BinaryPlan.{binary_distances, binary-plan}

locations : T (are_locations gf64 (elements gf64))
unfolding up_from ◌⊕◌ size double times mul power gf64 elements
locations = tt

fits : Shape plan5
unfolding flat_map up_from size gf64 all all_ones bit_checks power_bits binary_plan plan5 level_of checks_to
fits = omega arith

pub plan-5 : Known plan5 binary_distances
unfolding flat_map up_from size gf2 gf64 bit_checks power_bits binary_plan plan5 checks_to tied_by_count
plan-5 = binary-plan gf64 gf64-field locations fits (λ t. t)

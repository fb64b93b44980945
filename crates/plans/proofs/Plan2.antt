-- What is known of plan 2: its locations are the elements of GF(32), and a bench has room for it. Assumes nothing.
use Rattle.plans.specs.Plan.{elements, power_bits, binary_plan, plan2}
use Rattle.plans.proofs.Known.{T, arith, flat_map, up_from, ◌⊕◌, size, double, times, mul, gf2, gf32, power, gf32-field, all, all_ones, bit_checks, level_of, checks_to, tied_by_count, are_locations, Shape, Known}
use Rattle.plans.proofs.BinaryPlan.{binary_distances, binary-plan}

locations : T (are_locations gf32 (elements gf32))
unfolding up_from ◌⊕◌ size double times mul power gf32 elements
locations = tt

fits : Shape plan2
unfolding flat_map up_from size gf32 all all_ones bit_checks power_bits binary_plan plan2 level_of checks_to
fits = omega arith

pub plan-2 : Known plan2 binary_distances
unfolding flat_map up_from size gf2 gf32 bit_checks power_bits binary_plan plan2 checks_to tied_by_count
plan-2 = binary-plan gf32 gf32-field locations fits (λ t. t)

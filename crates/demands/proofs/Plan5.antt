-- What backs the demands on plan 5. The inverses and the lightest words were found by another program. Assumes nothing.
use Rattle.plans.specs.Plan.{elements, power_bits, front_and_last, binary_plan, plan5}
use Rattle.plans.proofs.Plan5.{plan-5}
use Rattle.demands.proofs.Backed.{arith, refl, List, [], map, flat_map, ◌∷◌, ◌&◌, ◌++◌, ℕ, replicate, when◌then◌else◌, up_from, weight, ◌⊕◌, size, double, times, mul, dot, gf2, gf64, power, all, only, vanish, first, rest, bits_of, sums_of, picked, all_ones, bit_checks, word_of, plan_of, no_level, level_of, checks_to, row_at, marks_at, marks_of, across, check_places_of, carried, all_below, rows_hold, totals_hold, is_codeword, row_of, symbols_carried, row_distance, distance, counts, combine, product, identity, RowSquare, Undoes, row-by-inverse, Backed}

-- a row of symbols for each check place of rows 0 to 6, and of row 7
low_inverse : List (List ℕ)
low_inverse = map (row_of 2 7) (0x02 ∷ 0x04 ∷ 0x08 ∷ 0x10 ∷ 0x20 ∷ 0x40 ∷ 0x7f ∷ [])

last_inverse : List (List ℕ)
last_inverse =
    map (row_of 2 19)
    (0x46314 ∷ 0x05b3c ∷ 0x4596c ∷ 0x7a94e ∷ 0x5699c ∷ 0x4ce38 ∷ 0x7d264 ∷ 0x6d0de ∷ 0x2443c ∷ 0x5a3ec
    ∷ 0x49fda ∷ 0x39d34 ∷ 0x16ae8 ∷ 0x73652 ∷ 0x51324 ∷ 0x778dc ∷ 0x146ae ∷ 0x4b44a ∷ 0x64d8d ∷ [])

undoes : Undoes plan5 1 0 low_inverse × Undoes plan5 3 7 last_inverse
unfolding when◌then◌else◌ up_from ◌⊕◌ size double times mul gf2 gf64 power flat_map only first rest bits_of
    all_ones bit_checks word_of elements power_bits front_and_last binary_plan plan5 checks_to marks_at row_of picked combine product identity low_inverse last_inverse
undoes = ((refl, tt), (refl, tt))

low : RowSquare plan5 1 0
low = row-by-inverse plan-5 1 0 low_inverse undoes.0

last : RowSquare plan5 3 7
last = row-by-inverse plan-5 3 7 last_inverse undoes.1

pub backed-5 : Backed 5
unfolding when◌then◌else◌ up_from ◌⊕◌ size double times mul dot gf2 gf64 power flat_map weight all only vanish sums_of bits_of
    all_ones bit_checks word_of elements power_bits front_and_last binary_plan plan5 plan_of no_level level_of row_at marks_at marks_of check_places_of carried all_below
    across rows_hold totals_hold is_codeword row_of symbols_carried row_distance distance counts
backed-5 = record {
  order = replicate 7 1 ++ (3 ∷ []);
  tested = omega arith;
  rows-square = low & low & low & low & low & low & low & last & tt;
  light-row = (row_of 2 64 0x8000000000000043, record { long = refl; symbols = tt; holds = tt }, refl);
  light-word = (flat_map (row_of 2 64) (0x8000000000000043 ∷ 0x8000000000000043 ∷ replicate 6 0), record { long = refl; symbols = tt; holds = tt }, refl);
}

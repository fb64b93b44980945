-- What backs the demands on plan 2. The inverses and the lightest words were found by another program. Assumes nothing.
use Rattle.plans.specs.Plan.{elements, power_bits, front_and_last, binary_plan, plan2}
use Rattle.plans.proofs.Plan2.{plan-2}
use Rattle.demands.proofs.Backed.{arith, refl, List, [], map, flat_map, ◌∷◌, ◌&◌, ◌++◌, ℕ, replicate, when◌then◌else◌, up_from, weight, ◌⊕◌, size, double, times, mul, dot, gf2, gf32, power, all, only, vanish, first, rest, bits_of, sums_of, picked, all_ones, bit_checks, word_of, plan_of, no_level, level_of, checks_to, row_at, marks_at, marks_of, across, check_places_of, carried, all_below, rows_hold, totals_hold, is_codeword, row_of, symbols_carried, row_distance, distance, counts, combine, product, identity, RowSquare, Undoes, row-by-inverse, Backed}

-- a row of symbols for each check place of rows 0 to 6, and of row 7
low_inverse : List (List ℕ)
low_inverse = map (row_of 2 6) (0x02 ∷ 0x04 ∷ 0x08 ∷ 0x10 ∷ 0x20 ∷ 0x3f ∷ [])

last_inverse : List (List ℕ)
last_inverse =
    map (row_of 2 16)
    (0x3df2 ∷ 0xf314 ∷ 0x5518 ∷ 0xd4c2 ∷ 0x4684 ∷ 0x6978 ∷ 0x22f2 ∷ 0x1294
    ∷ 0x8018 ∷ 0x95c2 ∷ 0x2b36 ∷ 0x4d1e ∷ 0x093e ∷ 0x587c ∷ 0xb2b8 ∷ 0xc0af ∷ [])

undoes : Undoes plan2 1 0 low_inverse × Undoes plan2 3 7 last_inverse
unfolding when◌then◌else◌ up_from ◌⊕◌ size double times mul gf2 gf32 power flat_map only first rest bits_of
    all_ones bit_checks word_of elements power_bits front_and_last binary_plan plan2 checks_to marks_at row_of picked combine product identity low_inverse last_inverse
undoes = ((refl, tt), (refl, tt))

low : RowSquare plan2 1 0
low = row-by-inverse plan-2 1 0 low_inverse undoes.0

last : RowSquare plan2 3 7
last = row-by-inverse plan-2 3 7 last_inverse undoes.1

pub backed-2 : Backed 2
unfolding when◌then◌else◌ up_from ◌⊕◌ size double times mul dot gf2 gf32 power flat_map weight all only vanish sums_of bits_of
    all_ones bit_checks word_of elements power_bits front_and_last binary_plan plan2 plan_of no_level level_of row_at marks_at marks_of check_places_of carried all_below
    across rows_hold totals_hold is_codeword row_of symbols_carried row_distance distance counts
backed-2 = record {
  order = replicate 7 1 ++ (3 ∷ []);
  tested = omega arith;
  rows-square = low & low & low & low & low & low & low & last & tt;
  light-row = (row_of 2 32 0x80040003, record { long = refl; symbols = tt; holds = tt }, refl);
  light-word = (flat_map (row_of 2 32) (0x80040003 ∷ 0x80040003 ∷ replicate 6 0), record { long = refl; symbols = tt; holds = tt }, refl);
}

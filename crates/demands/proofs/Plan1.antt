-- What backs the demands on plan 1. The inverse and the lightest words were found by another program. Assumes nothing.
use Rattle.plans.specs.Plan.{locations1, plan1}
use Rattle.plans.proofs.Plan1.{plan-1}
use Rattle.demands.proofs.Backed.{arith, refl, List, [], map, flat_map, ◌∷◌, ◌&◌, ℕ, lit<, when◌then◌else◌, up_from, weight, ◌⊕◌, size, double, times, mul, dot, gf2, all, only, vanish, first, rest, bits_of, sums_of, picked, all_ones, bit_checks, word_of, plan_of, no_level, level_of, checks_to, row_at, marks_at, marks_of, across, check_places_of, carried, all_below, rows_hold, totals_hold, is_codeword, row_of, symbols_carried, row_distance, distance, counts, combine, product, identity, RowSquare, Undoes, row-by-inverse, row-by-number, Backed}

-- a row of symbols for each check place of row 2
inverse : List (List ℕ)
inverse = map (row_of 2 4) (0x9 ∷ 0x5 ∷ 0x3 ∷ 0xe ∷ [])

undoes : Undoes plan1 2 2 inverse
unfolding when◌then◌else◌ up_from ◌⊕◌ size double times mul gf2 flat_map only first rest bits_of
    all_ones bit_checks word_of locations1 plan1 checks_to marks_at row_of picked combine product identity inverse
undoes = (refl, tt)

low : RowSquare plan1 1 0
unfolding when◌then◌else◌ up_from flat_map only bits_of all_ones word_of plan1 checks_to marks_at
low = row-by-number plan-1 0 0 (lit< tt) tt

pub backed-1 : Backed 1
unfolding when◌then◌else◌ up_from ◌⊕◌ size double times mul dot gf2 flat_map weight all only vanish sums_of bits_of
    all_ones bit_checks word_of locations1 plan1 plan_of no_level level_of row_at marks_at marks_of check_places_of carried all_below
    across rows_hold totals_hold is_codeword row_of symbols_carried row_distance distance counts
backed-1 = record {
  order = 1 ∷ 1 ∷ 2 ∷ [];
  tested = omega arith;
  rows-square = low & low & row-by-inverse plan-1 2 2 inverse undoes & tt;
  light-row = (row_of 2 7 0x03, record { long = refl; symbols = tt; holds = tt }, refl);
  light-word = (flat_map (row_of 2 7) (0x03 ∷ 0x03 ∷ 0 ∷ []), record { long = refl; symbols = tt; holds = tt }, refl);
}

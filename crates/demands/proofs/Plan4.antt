-- What backs the demands on plan 4. The lightest words were found by another program. Assumes nothing.
use Rattle.plans.specs.Plan.{locations4, powers4, weights4, plan4}
use Rattle.plans.proofs.Plan4.{plan-4}
use Rattle.demands.proofs.Backed.{arith, refl, [], flat_map, ◌∷◌, ◌&◌, ◌++◌, lit<, replicate, when◌then◌else◌, up_from, weight, ◌⊕◌, size, double, times, mul, dot, gf256, power, all, only, vanish, bits_of, sums_of, all_ones, word_of, plan_of, no_level, level_of, checks_to, row_at, marks_at, marks_of, across, check_places_of, carried, all_below, rows_hold, totals_hold, is_codeword, row_of, symbols_carried, row_distance, distance, counts, RowSquare, row-by-number, Backed}

-- a row has as many check places as power sums
squares : RowSquare plan4 1 0 × RowSquare plan4 2 9 × RowSquare plan4 3 11
unfolding when◌then◌else◌ up_from flat_map only bits_of all_ones word_of locations4 powers4 weights4 plan4 checks_to marks_at
squares = (
  row-by-number plan-4 0 0 (lit< tt) tt,
  row-by-number plan-4 1 9 (lit< tt) tt,
  row-by-number plan-4 2 11 (lit< tt) tt,
)

pub backed-4 : Backed 4
unfolding when◌then◌else◌ up_from ◌⊕◌ size double times mul dot gf256 power flat_map weight all only vanish sums_of bits_of
    all_ones word_of locations4 powers4 weights4 plan4 plan_of no_level level_of row_at marks_at marks_of check_places_of carried all_below
    across rows_hold totals_hold is_codeword row_of symbols_carried row_distance distance counts
backed-4 =
    let low = squares.0 in
    record {
      order = replicate 9 1 ++ (2 ∷ 2 ∷ 3 ∷ []);
      tested = omega arith;
      rows-square = low & low & low & low & low & low & low & low & low & squares.1 & squares.1 & squares.2 & tt;
      light-row = (row_of 256 24 0x10302, record { long = refl; symbols = tt; holds = tt }, refl);
      light-word = (flat_map (row_of 256 24) (0x1e2cf9ef5eba4e8c525 ∷ replicate 11 0), record { long = refl; symbols = tt; holds = tt }, refl);
    }

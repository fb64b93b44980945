-- What backs the demands on plan 3. The lightest words were found by another program. Assumes nothing.
use Rattle.plans.specs.Plan.{locations3, powers3, plan3}
use Rattle.plans.proofs.Plan3.{plan-3}
use Rattle.demands.proofs.Backed.{arith, refl, [], flat_map, ◌∷◌, ◌&◌, ◌++◌, lit<, replicate, when◌then◌else◌, up_from, weight, ◌⊕◌, size, double, times, mul, dot, gf16, power, all, only, vanish, bits_of, sums_of, all_ones, word_of, plan_of, no_level, level_of, checks_to, row_at, marks_at, marks_of, across, check_places_of, carried, all_below, rows_hold, totals_hold, is_codeword, row_of, symbols_carried, row_distance, distance, counts, RowSquare, row-by-number, Backed}

-- a row has as many check places as power sums
squares : RowSquare plan3 1 0 × RowSquare plan3 2 6 × RowSquare plan3 3 7
unfolding when◌then◌else◌ up_from flat_map only bits_of all_ones word_of locations3 powers3 plan3 checks_to marks_at
squares = (
  row-by-number plan-3 0 0 (lit< tt) tt,
  row-by-number plan-3 1 6 (lit< tt) tt,
  row-by-number plan-3 2 7 (lit< tt) tt,
)

pub backed-3 : Backed 3
unfolding when◌then◌else◌ up_from ◌⊕◌ size double times mul dot gf16 power flat_map weight all only vanish sums_of bits_of
    all_ones word_of locations3 powers3 plan3 plan_of no_level level_of row_at marks_at marks_of check_places_of carried all_below
    across rows_hold totals_hold is_codeword row_of symbols_carried row_distance distance counts
backed-3 =
    let low = squares.0 in
    record {
      order = replicate 6 1 ++ (2 ∷ 3 ∷ []);
      tested = omega arith;
      rows-square = low & low & low & low & low & low & squares.1 & squares.2 & tt;
      light-row = (row_of 16 15 0x981, record { long = refl; symbols = tt; holds = tt }, refl);
      light-word = (flat_map (row_of 16 15) (0xfb51 ∷ 0xfb51 ∷ replicate 6 0), record { long = refl; symbols = tt; holds = tt }, refl);
    }

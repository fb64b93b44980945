-- The bench sheet's table holds, by computation. Assumes nothing.
use mathlib.Core.Path.{refl}
use mathlib.Core.List.{flat_map}
use Rattle.field.specs.Lists.{when◌then◌else◌, up_from}
use Rattle.field.specs.Field.{◌⊕◌, size, double, times, mul, dot, gf2, gf16, gf32}
use Rattle.field.specs.Power.{power}
use Rattle.fills.specs.Lists.{any, all, only, same, zeros, vanish, first, rest, beside}
use Rattle.fills.specs.Marks.{bits_of}
use Rattle.fills.specs.Fill.{sums_of, options, before, one_of_each, choices, loose, dependent, fillings, fill_by, fill, is_none, vector_in}
use Rattle.plans.specs.Plan.{all_ones, bit_checks, word_of, locations1, plan1, known, plan_of, no_level, level_of, checks_to, row_at, marks_at, marks_of, across, check_places_of, carried}
use Rattle.plans.specs.Refusal.{first_failed, unasked, stripe_fits, words_fit, marks_fit, all_below, unmarked_below, symbols_fit, sums_at, sums_fit, level_fits, lent_tests, lent_refusal, bench_tests, bench_refusal}
use Rattle.steps.specs.Steps.{fresh, stepped, unless_refused, row_fill, put_row, row_step_by, row_step, lossy, check_fill, level_fill, keep_sums, raise, level_step_by, level_step}
use Rattle.steps.specs.Rounds.{more, after_row, after_level, take_turn, go_on, turns}
use Rattle.rounds.specs.Reports.{rows_left, end_report, bare}
use Rattle.repair.specs.Mending.{mended, turn_report, turn_stripe, turn_marks, mend_report, mend_stripe, mend_marks}
use Rattle.encoding.specs.Data.{placed, encode_refusal}
use Rattle.repair.specs.Encoding.{encoded, encode_stripe}
use Rattle.repair.specs.Sheet.{restored, stuck, clashed, blank, unchanged, blank_restored, row1, example_stripe, example_marks, example_after, example_data, example_word, cases, done, Sheet}

pub sheet : Sheet
unfolding when◌then◌else◌ up_from ◌⊕◌ size double times mul dot gf2 gf16 gf32 power flat_map
    any all only same zeros vanish first rest beside bits_of sums_of options before one_of_each choices loose dependent fillings fill_by fill
    all_ones bit_checks word_of locations1 plan1 known plan_of no_level level_of checks_to row_at marks_at marks_of
    first_failed unasked stripe_fits words_fit marks_fit all_below unmarked_below symbols_fit sums_at sums_fit level_fits lent_tests lent_refusal bench_tests bench_refusal
    fresh stepped unless_refused row_fill put_row row_step_by row_step lossy across check_fill is_none vector_in level_fill keep_sums raise level_step_by level_step
    more after_row after_level take_turn go_on turns mended rows_left end_report bare turn_report turn_stripe turn_marks mend_report mend_stripe mend_marks
    check_places_of carried placed encoded encode_refusal encode_stripe
    restored stuck clashed blank unchanged blank_restored row1 example_stripe example_marks example_after example_data example_word cases done
sheet = record {
  mending = refl;
  encode_fits = refl;
  encodes = refl;
  product8 = refl;
  product15 = refl;
  product16 = refl;
  cube4 = refl;
}

-- The bench sheet's file is read and printed as the sheet says, by computation. Assumes nothing.
use mathlib.Core.Path.{◌≡◌, refl}
use mathlib.Core.Bool.{true, false}
use mathlib.Core.List.{[], ◌∷◌, ◌++◌, flat_map}
use lib.ListN.{replicate}
use Rattle.field.specs.Lists.{when◌then◌else◌, up_from}
use Rattle.field.specs.Field.{◌⊕◌, size, double, times, mul, dot, gf2, gf64}
use Rattle.fills.specs.Lists.{any, all, only, same, zeros, vanish, first, rest, beside}
use Rattle.fills.specs.Marks.{bits_of}
use Rattle.fills.specs.Fill.{sums_of, options, before, one_of_each, choices, loose, dependent, fillings, fill_by, fill, is_none, vector_in}
use Rattle.plans.specs.Plan.{all_ones, bit_checks, word_of, locations1, plan1, binary_plan, plan5, known, plan_of, no_level, level_of, checks_to, row_at, marks_at, marks_of, across, marks_offset, wide_marks, word_bytes, symbols_offset, file_length}
use Rattle.plans.specs.Answers.{answer_number, place_values, end_values, answer_values, report_values}
use Rattle.plans.specs.Refusal.{first_failed, unasked, stripe_fits, words_fit, marks_fit, all_below, unmarked_below, symbols_fit, sums_at, sums_fit, level_fits, lent_tests, lent_refusal, bench_tests, bench_refusal}
use Rattle.steps.specs.Steps.{fresh, stepped, unless_refused, row_fill, put_row, row_step_by, row_step, lossy, check_fill, level_fill, keep_sums, raise, level_step_by, level_step}
use Rattle.steps.specs.Rounds.{more, after_row, after_level, take_turn, go_on, turns}
use Rattle.repair.specs.Mending.{mended, turn_report, turn_stripe, turn_marks, mend_report, mend_stripe, mend_marks}
use Rattle.rounds.specs.Reports.{rows_left, end_report}
use Rattle.repair.specs.Sheet.{example_stripe, example_marks}
use Rattle.repair.proofs.Sheet.{sheet}
use Rattle.words.specs.Words.{bytes_of, number_at}
use Rattle.files.specs.File.{header_of, blanked, plan_in, marks_in, symbols_in, file_refusal}
use Rattle.files.specs.Example.{example_file}
use Rattle.texts.specs.Text.{bytes, digits_in, decimal, hex, hexes, item, line_end, symbol_digits, symbol_text, shown, grid, captioned, end_text, place_text, answer_text, told_text, mend_text, printed}
use Rattle.scripts.specs.Sheet.{FileSheet}
use Rattle.plans.specs.declared.Place.TheVariants.{Row, Across}
use Rattle.plans.specs.declared.Answer.TheVariants.{Clash}

pub file-sheet : FileSheet
unfolding when◌then◌else◌ up_from ◌⊕◌ size double times mul dot gf2 flat_map
    any all only same zeros vanish first rest beside bits_of sums_of options before one_of_each choices loose dependent fillings fill_by fill
    all_ones bit_checks locations1 plan1 known plan_of no_level level_of checks_to row_at marks_at marks_of
    answer_number end_values answer_values report_values
    first_failed unasked stripe_fits words_fit marks_fit all_below unmarked_below symbols_fit sums_at sums_fit level_fits lent_tests lent_refusal bench_tests bench_refusal
    fresh stepped unless_refused row_fill put_row row_step_by row_step lossy across check_fill is_none vector_in level_fill keep_sums raise level_step_by level_step
    more after_row after_level take_turn go_on turns mended rows_left end_report turn_report turn_stripe turn_marks mend_report mend_stripe mend_marks
    bytes_of marks_offset wide_marks word_bytes symbols_offset file_length header_of blanked plan_in number_at marks_in symbols_in file_refusal
    bytes digits_in decimal hex hexes item line_end symbol_digits symbol_text shown grid captioned end_text answer_text told_text mend_text printed
    example_stripe example_marks example_file
file-sheet = record { library = sheet; file_stripe = refl; file_marks = refl; file_printed = refl }

-- what follows the number of a Clash in row 2 at level 1, and of one across rows at level 2
pub clash-lines :
    (answer_text (Clash (Row 2 1)) (place_values (Row 2 1)) [] ≡ bytes " level 1 place row 2\n")
    × (answer_text (Clash (Across 2)) (place_values (Across 2)) [] ≡ bytes " level 2 place across\n")
unfolding when◌then◌else◌ place_values bytes digits_in decimal item line_end captioned place_text answer_text
clash-lines = (refl, refl)

-- a row of plan 5 that has a mark at its last column: a character for each of its 64 columns
pub wide-line : shown (symbol_digits plan5) (marks_at plan5 (word_of (63 ∷ []) ∷ []) 0) (row_at plan5 (replicate 64 1) 0) ++ line_end ≡ bytes "111111111111111111111111111111111111111111111111111111111111111?\n"
unfolding when◌then◌else◌ up_from size gf2 gf64 flat_map first rest beside bits_of word_of binary_plan plan5 row_at marks_at bytes hex hexes line_end symbol_digits symbol_text shown
wide-line = refl

-- symbols of two digits, the second of them marked
pub two-digit-line : shown 2 (false ∷ true ∷ false ∷ []) (0xa5 ∷ 0x5a ∷ 0x0f ∷ []) ≡ bytes "a5??0f"
unfolding when◌then◌else◌ flat_map first rest beside bytes hex hexes symbol_text shown
two-digit-line = refl

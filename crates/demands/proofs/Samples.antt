-- The premises of each theorem can be met on plan 1: stripes of the bench sheet, by computation. Assumes nothing.
use mathlib.Core.Path.{◌≡◌, refl, sym, ap, subst}
use mathlib.Core.Bool.{true}
use mathlib.Core.List.{List, [], ◌∷◌, ◌++◌, map, flat_map}
use Prim.Native.Nat.{ℕ, zero, suc, ◌*◌, ◌<◌, ◌-◌}
use native.Mathlib.Omega.{arith}
use lib.Count.{ones, ones_in}
use lib.Dec.{T, ltb}
use lib.ListN.{length, get_or, replicate, set}
use Rattle.std.specs.Prelude.{Result, Ok}
use Rattle.plans.specs.Answers.{answered}
use Rattle.field.specs.Lists.{when◌then◌else◌, up_from, weight}
use Rattle.field.specs.Field.{◌⊕◌, size, double, times, mul, dot, gf2}
use Rattle.fills.specs.Lists.{any, all, only, same, zeros, vanish, first, rest, beside}
use Rattle.fills.specs.Marks.{bits_of}
use Rattle.fills.specs.Fill.{sums_of, options, before, one_of_each, choices, loose, dependent, fillings, fill_by, fill, is_none, vector_in}
use Rattle.fills.proofs.Choices.{alike_at}
use Rattle.plans.specs.Plan.{all_ones, bit_checks, word_of, locations1, binary_plan, plan1, plan2, plan3, plan4, plan5, known, no_plan, plan_of, no_level, level_of, checks_to, row_at, marks_at, marks_of, across, check_places_of, carried, marks_offset, wide_marks, word_bytes, symbols_offset, file_length}
use Rattle.plans.specs.Rooms.{row_room, symbol_room, sum_room, learned_room}
use Rattle.plans.specs.Refusal.{first_failed, unasked, stripe_fits, words_fit, marks_fit, all_below, unmarked_below, symbols_fit, sums_at, sums_fit, level_fits, lent_refusal, bench_refusal, lent_tests, bench_tests}
use Rattle.steps.specs.Steps.{fresh, empty, stepped, unless_refused, row_fill, put_row, row_step_by, row_step, lossy, check_fill, level_fill, keep_sums, raise, level_step_by, level_step}
use Rattle.steps.specs.Rounds.{Standing, on, more, after_row, after_level, take_turn, go_on, turns}
use Rattle.steps.specs.Parts.{standing_of}
use Rattle.repair.specs.Mending.{mend_report, mend_marks}
use Rattle.codewords.specs.Codeword.{rows_hold, totals_hold, is_codeword}
use Rattle.encoding.specs.Data.{taken, encode_refusal, extract_refusal}
use Rattle.encoding.proofs.Data.{taken-alike}
use Rattle.words.specs.Words.{bytes_of, number_at}
use Rattle.files.specs.File.{header_of, blanked, write_refusal, plan_in, marks_in, symbols_in, file_refusal, read_refusal}
use Rattle.plans.specs.declared.Bench.{Bench}
use Rattle.plans.specs.declared.Answer.{Answer}
use Rattle.plans.specs.declared.Answer.TheVariants.{Restored, Stuck, Clash}
use Rattle.plans.specs.declared.Place.TheVariants.{Row}
use Rattle.repair.specs.Sheet.{Case, restored, stuck, clashed, blank, unchanged, blank_restored, row1, example_stripe, example_marks, example_after, example_data, cases, done}
use Rattle.files.specs.Example.{example_file}
use Rattle.repair.proofs.Sheet.{sheet}
use Rattle.repair.proofs.Samples.{no_marks}
use Rattle.files.proofs.Samples.{with_byte, with_bytes, file-order}
use Rattle.steps.proofs.Sound.{row-outside}
use Rattle.demands.specs.Published.{counts, row_distance, distance}
use Rattle.demands.specs.Words.{Codeword, Agree, Fit, Move, on_row, on_level, walk, Quiet, rounds, rows_with, MeetsCounts, total}
use Rattle.demands.specs.Second.{IsEncoding}
use Rattle.demands.specs.Third.{Premise}
use Rattle.demands.specs.Stopping.{begun}
use Rattle.demands.specs.Silence.{SameUnmarked, SameButMarks, SameFile}
use Rattle.demands.specs.Room.{SameRead}
use Rattle.demands.specs.Parameters.{RowWord}
use Rattle.demands.proofs.Encoding.{codewords-are-encodings}
use Rattle.demands.proofs.Third.{rounds-suffice}
use Rattle.demands.proofs.Silence.{fresh-same}
use Rattle.demands.proofs.Distance.{blank_of, blank-codeword}

-- the plans' numbers
pub plans-known : T (known 1) × T (known 2) × T (known 3) × T (known 4) × T (known 5)
unfolding binary_plan plan1 plan2 plan3 plan4 plan5 plan_of known
plans-known = (tt, tt, tt, tt, tt)

-- stripes agree where their unmarked symbols are the same
pub agree : (p : ℕ) (marks X Y : List ℕ) → let ms = marks_of (plan_of p) marks in taken ms X ≡ taken ms Y → Agree p marks X Y
agree p marks X Y e = let ms = marks_of (plan_of p) marks in alike_at ms X Y (taken-alike ms X Y e)

-- ---- the third demand's premise: the example's stripe, 1?00000 ?0?0?10 00?0000

pub example-word : Codeword 1 example_after
unfolding when◌then◌else◌ up_from ◌⊕◌ size double times mul dot gf2 all vanish sums_of all_ones bit_checks locations1 plan1 plan_of no_level level_of row_at
    all_below across rows_hold totals_hold is_codeword example_after
example-word = record { long = refl; symbols = tt; holds = tt }

pub example : Premise 1 example_stripe example_marks
unfolding when◌then◌else◌ up_from flat_map size gf2 all first rest beside bits_of plan1 known plan_of row_at marks_at marks_of
    first_failed unasked stripe_fits words_fit marks_fit unmarked_below symbols_fit lent_tests lent_refusal example_stripe example_marks example_after taken
example = record {
  fit = refl;
  true-stripe = example_after;
  codeword = example-word;
  agrees = agree 1 example_marks example_after example_stripe refl;
}

-- two sequences of steps that end quiet: the rounds, and a shorter one in another order
pub rounds-quiet : Quiet (walk (rounds (plan_of 1) 2) (fresh 1 example_stripe example_marks))
unfolding plan1 plan_of
rounds-quiet = rounds-suffice 1 example_stripe example_marks example

abbrev other_order : List Move
other_order = on_row 2 ∷ on_row 0 ∷ on_level ∷ on_row 1 ∷ []

-- a list, and x behind it up to n numbers
abbrev filled : ℕ → ℕ → List ℕ → List ℕ
filled n x xs = xs ++ replicate (n - length xs) x

-- the bench that both end with: all rows restored, level 2, and the level-2 sums of rows 0 and 1 are 3
unfoldable pub example_end : Bench
example_end =
    let sums : List ℕ = filled sum_room 0 (0 ∷ 1 ∷ 1 ∷ 0 ∷ []) in
    record { plan = 1; level = 2; symbols = filled symbol_room 0 example_after; marks = replicate row_room 0; sums = filled learned_room 0 (sums ++ sums) }

-- ---- the stopping's: the standing of the example after its first round, rows 0 and 2 restored

unfoldable pub example_round : Standing
example_round = standing_of
    record {
      plan = 1;
      level = 2;
      symbols = filled symbol_room 0 (set example_stripe 1 1);
      marks = filled row_room 0 (0 ∷ 21 ∷ []);
      sums = example_end.sums;
    }
    0 (2 ∷ 0 ∷ 0 ∷ [])

pub example-walks :
    (walk other_order (fresh 1 example_stripe example_marks) ≡ example_end) × (turns 4 (begun 1 example_stripe example_marks) ≡ on example_round)
    -- and silence's: a place that is still marked after a step, column 0 of row 1, once row 0 is filled
    × (get_or (marks_of (plan_of 1) (walk (on_row 0 ∷ []) (fresh 1 example_stripe example_marks)).marks) 7 true ≡ true)
unfolding when◌then◌else◌ up_from ◌⊕◌ size double times mul dot gf2 flat_map
    any all only same zeros vanish first rest beside bits_of sums_of options before one_of_each choices loose dependent fillings fill_by fill
    all_ones bit_checks locations1 plan1 known plan_of no_level level_of checks_to row_at marks_at marks_of
    first_failed unasked marks_fit all_below unmarked_below symbols_fit sums_at sums_fit level_fits bench_tests bench_refusal
    fresh stepped unless_refused row_fill put_row row_step_by row_step lossy across check_fill is_none vector_in level_fill keep_sums raise level_step_by level_step
    more after_row after_level take_turn go_on turns example_stripe example_marks example_after example_end example_round
example-walks = (refl, refl, refl)

end_quiet : Quiet example_end
unfolding when◌then◌else◌ up_from ◌⊕◌ size double times mul dot gf2 flat_map
    any all only same zeros vanish first rest beside bits_of sums_of options before one_of_each choices loose dependent fillings fill_by fill
    all_ones bit_checks locations1 plan1 known plan_of no_level level_of checks_to row_at marks_at
    first_failed unasked marks_fit all_below unmarked_below symbols_fit sums_at sums_fit level_fits bench_tests bench_refusal
    stepped unless_refused row_fill put_row row_step_by row_step level_step example_after example_end
end_quiet (on_row zero) = refl
end_quiet (on_row (suc zero)) = refl
end_quiet (on_row (suc (suc zero))) = refl
end_quiet (on_row (suc (suc (suc r)))) = row-outside example_end (suc (suc (suc r))) (omega arith)
end_quiet on_level = refl

pub other-quiet : Quiet (walk other_order (fresh 1 example_stripe example_marks))
other-quiet = subst Quiet (sym example-walks.0) end_quiet

-- ---- the second demand's: an answer of each kind, out of the bench sheet's table

module _ (i : ℕ) where
  -- what mending answers in case i
  abbrev answers : List Case → Result Answer ℕ
  answers cs = get_or (map (λ (c : Case). answered c.report) cs) i (Ok Stuck)

pub answer-samples :
    (answered (mend_report 1 example_stripe example_marks) ≡ Ok Restored) × (answered (mend_report 1 blank (row1 (0 ∷ 1 ∷ 3 ∷ 6 ∷ []))) ≡ Ok Stuck)
    × (answered (mend_report 1 (set blank 0 1) (0 ∷ 0 ∷ 0 ∷ [])) ≡ Ok (Clash (Row 0 1)))
unfolding answered restored stuck clashed unchanged blank_restored cases done
answer-samples = (ap (answers 1) sheet.mending, ap (answers 3) sheet.mending, ap (answers 7) sheet.mending)

-- and a codeword that agrees with what is Stuck: the stripe itself
pub blank-word : Codeword 1 blank
unfolding plan1 plan_of blank_of blank
blank-word = blank-codeword 1

-- ---- the counts' premises: the example again, which has 1, 3 and 1 marks in a row

pub counts-met : MeetsCounts 1 example_marks
unfolding when◌then◌else◌ only plan1 plan_of ones ones_in rows_with counts example_marks
counts-met = (omega arith, (omega arith, tt))

-- ---- the distance's: three of those five marks, among them the places where the example's stripe is not the codeword

unfoldable pub few_marks : List ℕ
few_marks = 2 ∷ 16 ∷ 4 ∷ []

pub few-marks : Fit 1 example_stripe few_marks × Agree 1 few_marks example_after example_stripe × (total few_marks < distance 1)
unfolding when◌then◌else◌ up_from flat_map size gf2 all first rest beside bits_of plan1 known plan_of row_at marks_at marks_of
    first_failed unasked stripe_fits words_fit marks_fit unmarked_below symbols_fit lent_tests lent_refusal example_stripe example_after few_marks taken
    ones ones_in total distance
few-marks = (refl, agree 1 few_marks example_after example_stripe refl, omega arith)

-- ---- encoding's and extraction's: the bench sheet's data, the example's codeword, and buffers of the plan's lengths

pub encode-fits : encode_refusal 1 example_data blank ≡ 0
encode-fits = sheet.encode_fits

pub lengths-fit : (length (replicate {A = ℕ} 15 0) ≡ carried (plan_of 1)) × (length blank ≡ (plan_of 1).rows * (plan_of 1).columns)
unfolding when◌then◌else◌ up_from flat_map only bits_of plan1 word_of plan_of marks_at marks_of check_places_of carried blank
lengths-fit = (refl, refl)

pub example-encoding : IsEncoding 1 example_after (replicate 15 0) blank
example-encoding = codewords-are-encodings 1 example_after (replicate 15 0) blank plans-known.0 example-word lengths-fit.0 lengths-fit.1

-- ---- silence's: bytes under the example's marks that are no symbols at all

unfoldable pub other_stripe : List ℕ
other_stripe = set (set example_stripe 1 255) 7 7

pub same-unmarked : SameUnmarked 1 example_marks example_stripe other_stripe
unfolding when◌then◌else◌ up_from flat_map first rest beside bits_of plan1 plan_of marks_at marks_of example_stripe example_marks other_stripe taken
same-unmarked = record { long = refl; agree = agree 1 example_marks example_stripe other_stripe refl }

pub same-benches : SameButMarks (fresh 1 example_stripe example_marks) (fresh 1 other_stripe example_marks)
same-benches = fresh-same 1 example_marks example_stripe other_stripe same-unmarked example.fit

-- files that differ in a byte under a mark: one is read, the other is refused with 22; and two whose first unmarked symbol is 2
pub same-files : SameFile example_file (with_byte 21 1) × SameFile (with_byte 20 2) (with_bytes 20 2 21 1)
unfolding up_from flat_map first rest bits_of plan1 plan_of marks_at marks_of marks_offset wide_marks word_bytes symbols_offset plan_in number_at marks_in symbols_in
    example_file with_byte with_bytes taken beside when◌then◌else◌
same-files = (
  record { long = refl; before = refl; agree = agree 1 (marks_in example_file) (symbols_in example_file) (symbols_in (with_byte 21 1)) refl },
  record { long = refl; before = refl; agree = agree 1 (marks_in example_file) (symbols_in (with_byte 20 2)) (symbols_in (with_bytes 20 2 21 1)) refl },
)

pub read-and-22 : (read_refusal example_file blank no_marks ≡ 0) × (read_refusal (with_byte 21 1) blank no_marks ≡ 22)
unfolding blank no_marks
read-and-22 = (file-order.9, file-order.8)

-- the two are both refused, with 13
pub both-13 : (file_refusal (with_byte 20 2) unasked ≡ 13) × (file_refusal (with_bytes 20 2 21 1) unasked ≡ 13)
unfolding when◌then◌else◌ up_from size gf2 flat_map all same bits_of plan1 known no_plan plan_of row_at marks_at marks_of
    first_failed unasked marks_fit unmarked_below symbols_fit
    bytes_of marks_offset wide_marks word_bytes symbols_offset file_length header_of blanked plan_in number_at marks_in symbols_in file_refusal example_file with_byte with_bytes first rest beside
both-13 = (refl, refl)

-- a place that is still marked once a stripe is Stuck: column 0 of row 1
pub still_marked : get_or (marks_of (plan_of 1) (mend_marks 1 blank (row1 (0 ∷ 1 ∷ 3 ∷ 6 ∷ [])))) 7 true ≡ true
unfolding up_from flat_map bits_of plan1 plan_of marks_at marks_of word_of restored stuck clashed unchanged blank_restored row1 cases done
still_marked =
    ap (λ (cs : List Case). get_or (marks_of (plan_of 1) (get_or (map (λ (c : Case). c.marks_after) cs) 3 [])) 7 true) sheet.mending

-- ---- the room's: a bench that differs from the example's fresh one wherever a step may not read

unfoldable pub other_room : Bench
other_room =
    let sums : List ℕ = filled sum_room 200 (0 ∷ []) in
    record {
      plan = 1;
      level = 1;
      symbols = filled symbol_room 200 example_stripe;
      marks = filled row_room 200 example_marks;
      sums = filled learned_room 200 (sums ++ sums ++ sums);
    }

pub same_read : SameRead (fresh 1 example_stripe example_marks) other_room
unfolding flat_map all_ones plan1 plan_of checks_to sums_at fresh example_stripe example_marks other_room
same_read = record { plan = refl; level = refl; symbols = refl; marks = refl; sums = sums_same; places = refl }
  where
    sums_same : (r : ℕ) → r < 3 → sums_at plan1 1 (replicate learned_room 0) r ≡ sums_at plan1 1 other_room.sums r
    sums_same zero l = refl
    sums_same (suc zero) l = refl
    sums_same (suc (suc zero)) l = refl
    sums_same (suc (suc (suc r))) l = absurd (omega arith)

-- ---- the refusals': each call refused

pub refusals :
    -- start and mending; encoding; extraction; reading; writing
    (lent_refusal 6 blank [] ≡ 10) × (encode_refusal 1 [] blank ≡ 11) × (extract_refusal 1 (set blank 0 1) (replicate 15 0) ≡ 16)
    × (read_refusal [] blank [] ≡ 20) × (write_refusal 1 blank (128 ∷ 0 ∷ 0 ∷ []) (replicate 41 0) ≡ 12)
    -- a row step; a level step
    × (bench_refusal other_room (ltb 3 (plan_of other_room.plan).rows) ≡ 14) × (bench_refusal empty unasked ≡ 10)
unfolding when◌then◌else◌ up_from ◌⊕◌ size double times mul dot gf2 flat_map all only vanish first rest beside bits_of sums_of
    all_ones bit_checks word_of locations1 plan1 known no_plan plan_of no_level level_of checks_to row_at marks_at marks_of
    first_failed unasked stripe_fits words_fit marks_fit all_below unmarked_below symbols_fit sums_at sums_fit level_fits lent_tests lent_refusal bench_tests bench_refusal
    empty across rows_hold totals_hold is_codeword check_places_of carried encode_refusal extract_refusal
    marks_offset wide_marks word_bytes symbols_offset file_length write_refusal plan_in file_refusal read_refusal blank example_stripe example_marks other_room
refusals = (refl, refl, refl, refl, refl, refl, refl)

-- ---- the parameters': the zero row and stripe, which are light

pub light : RowWord 1 (replicate 7 0) × (weight (replicate 7 0) < row_distance 1) × Codeword 1 blank × (weight blank < distance 1)
unfolding when◌then◌else◌ ◌⊕◌ size double times mul dot gf2 all vanish sums_of all_ones plan1 plan_of level_of all_below weight row_distance distance blank
light = (record { long = refl; symbols = tt; holds = tt }, omega arith, blank-word, omega arith)

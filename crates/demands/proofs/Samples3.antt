-- The premises of the theorems on extraction, on what mending leaves, on where it stops and on reading can be met on plan 3 too: stripes
-- and files of zeros, and the sample codeword, by computation. Assumes nothing.
use mathlib.Core.Path.{◌≡◌, refl, sym, subst}
use mathlib.Core.List.{List, [], ◌∷◌, ◌++◌, flat_map}
use Prim.Native.Nat.{ℕ, zero, suc, ◌*◌}
use lib.Dec.{T}
use lib.ListN.{length, replicate, set}
use Rattle.std.specs.Prelude.{Ok}
use Rattle.plans.specs.Answers.{answered}
use Rattle.field.specs.Lists.{when◌then◌else◌, up_from}
use Rattle.field.specs.Field.{◌⊕◌, size, double, times, mul, dot, gf16}
use Rattle.field.specs.Power.{power}
use Rattle.fills.specs.Lists.{any, all, only, same, zeros, vanish, first, rest, beside}
use Rattle.fills.specs.Marks.{bits_of}
use Rattle.fills.specs.Fill.{sums_of, options, before, choices, loose, dependent, fillings, fill_by, fill, one_of_each}
use Rattle.plans.specs.Plan.{all_ones, word_of, locations3, powers3, plan3, known, no_plan, plan_of, no_level, level_of, checks_to, row_at, marks_at, marks_of, check_places_of, carried, marks_offset, wide_marks, word_bytes, symbols_offset, file_length}
use Rattle.plans.specs.Refusal.{first_failed, unasked, stripe_fits, words_fit, marks_fit, all_below, unmarked_below, symbols_fit, sums_at, sums_fit, level_fits, lent_refusal, bench_refusal, lent_tests, bench_tests}
use Rattle.steps.specs.Steps.{fresh, stepped, unless_refused, row_fill, put_row, row_step_by, row_step}
use Rattle.steps.specs.Rounds.{on, more, after_row, take_turn, go_on, turns}
use Rattle.steps.specs.Parts.{standing_of}
use Rattle.repair.specs.Mending.{mended, turn_report, mend_report}
use Rattle.rounds.specs.Reports.{bare}
use Rattle.encoding.specs.Data.{encode_refusal}
use Rattle.words.specs.Words.{bytes_of, number_at}
use Rattle.files.specs.File.{header_of, blanked, plan_in, marks_in, symbols_in, file_refusal, read_refusal}
use Rattle.plans.specs.declared.Answer.TheVariants.{Clash}
use Rattle.plans.specs.declared.Place.TheVariants.{Row}
use Rattle.repair.proofs.Samples.{row_of, sample3, samples}
use Rattle.demands.specs.Words.{Codeword, Agree, Fit}
use Rattle.demands.specs.Second.{IsEncoding}
use Rattle.demands.specs.Stopping.{begun}
use Rattle.demands.specs.Silence.{SameFile}
use Rattle.demands.proofs.Encoding.{codewords-are-encodings}
use Rattle.demands.proofs.Distance.{blank_of, blank-codeword}
use Rattle.demands.proofs.Samples.{plans-known}

unfoldable pub blank3 : List ℕ
blank3 = replicate 120 0

pub blank-word : Codeword 3 blank3
unfolding plan3 plan_of blank_of blank3
blank-word = blank-codeword 3

-- ---- encoding and extraction

pub lengths-fit : (length (replicate {A = ℕ} 98 0) ≡ carried (plan_of 3)) × (length blank3 ≡ (plan_of 3).rows * (plan_of 3).columns)
    × (encode_refusal 3 (replicate 98 0) blank3 ≡ 0)
unfolding when◌then◌else◌ up_from size gf16 flat_map all only bits_of plan3 word_of known plan_of marks_at marks_of
    first_failed unasked stripe_fits all_below check_places_of carried encode_refusal blank3
lengths-fit = (refl, refl, refl)

pub sample-word : Codeword 3 sample3
unfolding up_from flat_map size gf16 all plan3 plan_of all_below row_of sample3
sample-word = record { long = refl; symbols = tt; holds = subst T (sym samples.2) tt }

pub sample-encoding : IsEncoding 3 sample3 (replicate 98 0) blank3
sample-encoding = codewords-are-encodings 3 sample3 (replicate 98 0) blank3 plans-known.2 sample-word lengths-fit.0 lengths-fit.1

-- ---- mending: a mark on the first symbol of a zero stripe, which holds a byte that is no symbol

unfoldable pub lost_first : List ℕ
lost_first = set blank3 0 255

unfoldable pub first_mark : List ℕ
first_mark = 1 ∷ replicate 7 0

pub lost-fit : Fit 3 lost_first first_mark
unfolding when◌then◌else◌ up_from size gf16 all bits_of plan3 known plan_of row_at marks_at
    first_failed unasked stripe_fits words_fit marks_fit unmarked_below symbols_fit lent_tests lent_refusal blank3 lost_first first_mark first rest beside
lost-fit = refl

-- its first turn restores row 0; and a Clash: one symbol of row 0 is not 0
pub mends :
    (turns 1 (begun 3 lost_first first_mark) ≡ on (standing_of (fresh 3 blank3 (replicate 8 0)) 1 (1 ∷ 0 ∷ 0 ∷ [])))
    × (answered (mend_report 3 (set blank3 0 1) (replicate 8 0)) ≡ Ok (Clash (Row 0 1)))
unfolding when◌then◌else◌ up_from ◌⊕◌ size double times mul dot gf16 power flat_map
    any all only same zeros vanish first rest bits_of sums_of options before choices loose dependent fillings fill_by fill
    all_ones locations3 powers3 plan3 known plan_of no_level level_of checks_to row_at marks_at
    first_failed unasked stripe_fits words_fit marks_fit all_below unmarked_below symbols_fit sums_at sums_fit level_fits lent_tests lent_refusal bench_tests bench_refusal
    fresh stepped unless_refused row_fill put_row row_step_by row_step more after_row take_turn go_on turns mended bare turn_report answered mend_report
    blank3 lost_first first_mark beside one_of_each
mends = (refl, refl)

-- ---- reading: files of zeros with a mark on the first symbol

unfoldable pub file3 : (first second : ℕ) → List ℕ
file3 x y = (3 ∷ 8 ∷ 15 ∷ 0 ∷ 8 ∷ 0 ∷ 40 ∷ 0 ∷ []) ++ (1 ∷ replicate 31 0) ++ (x ∷ y ∷ replicate 118 0)

-- they differ in the first symbol alone
pub same-file : (x y z : ℕ) → SameFile (file3 x z) (file3 y z)
unfolding when◌then◌else◌ up_from flat_map bits_of plan3 plan_of marks_at marks_of marks_offset wide_marks word_bytes symbols_offset plan_in number_at marks_in symbols_in file3
same-file x y z = record { long = refl; before = refl; agree = agrees }
  where
    agrees : Agree 3 (marks_in (file3 x z)) (symbols_in (file3 x z)) (symbols_in (file3 y z))
    agrees zero e = absurd (subst T e tt)
    agrees (suc i) e = refl

-- one is read, the other is refused with 22; and both are refused with 13 where the second symbol is 16
pub reads :
    (read_refusal (file3 0 0) blank3 (replicate 8 0) ≡ 0) × (read_refusal (file3 5 0) blank3 (replicate 8 0) ≡ 22)
    × (file_refusal (file3 0 16) unasked ≡ 13) × (file_refusal (file3 5 16) unasked ≡ 13)
unfolding when◌then◌else◌ up_from size gf16 flat_map all same bits_of plan3 known no_plan plan_of row_at marks_at marks_of
    first_failed unasked stripe_fits words_fit marks_fit unmarked_below symbols_fit
    bytes_of marks_offset wide_marks word_bytes symbols_offset file_length header_of blanked plan_in number_at marks_in symbols_in file_refusal read_refusal blank3 file3 first rest beside
reads = (refl, refl, refl, refl)

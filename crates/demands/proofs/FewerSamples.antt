-- The premises of 'fewer losses never hurt' can be met: on plan 1, where only the first set of marks lets row 0 be restored, with what mending
-- makes of both; and on plan 3. Assumes nothing.
use mathlib.Core.Path.{◌≡◌, refl, sym, subst}
use mathlib.Core.Bool.{Bool, true, not, ◌||◌}
use mathlib.Core.Logic.{inl, inr}
use mathlib.Core.List.{List, [], ◌∷◌, flat_map}
use Prim.Native.Nat.{ℕ}
use lib.Dec.{T, T_not, ltb, ltb→lt, nltb→le}
use lib.ListN.{length, get_or, replicate, set, get_or-eq_default}
use Rattle.std.specs.Prelude.{Ok}
use Rattle.field.specs.Lists.{when◌then◌else◌, up_from, ◌to◌}
use Rattle.field.specs.Field.{◌⊕◌, size, double, times, mul, dot, gf2, gf16}
use Rattle.field.proofs.Test.{below, at}
use Rattle.fills.proofs.Tests.{either, is_true, or_cases}
use Rattle.fills.specs.Lists.{any, all, only, same, zeros, vanish, first, rest, beside}
use Rattle.fills.specs.Marks.{bits_of}
use Rattle.fills.specs.Fill.{sums_of, options, before, choices, loose, dependent, fillings, fill_by, fill, one_of_each, is_none, vector_in}
use Rattle.plans.specs.Plan.{all_ones, bit_checks, word_of, locations1, plan1, plan3, known, plan_of, no_level, level_of, checks_to, row_at, marks_at, marks_of, across}
use Rattle.plans.specs.Refusal.{first_failed, unasked, stripe_fits, words_fit, marks_fit, all_below, unmarked_below, symbols_fit, sums_at, sums_fit, level_fits, lent_refusal, bench_refusal, lent_tests, bench_tests}
use Rattle.steps.specs.Steps.{fresh, stepped, unless_refused, row_fill, put_row, row_step_by, row_step, lossy, check_fill, level_fill, keep_sums, raise, level_step_by, level_step}
use Rattle.steps.specs.Rounds.{more, after_row, after_level, take_turn, go_on, turns}
use Rattle.repair.specs.Mending.{mended, turn_report, turn_stripe, turn_marks, mend_report, mend_stripe, mend_marks}
use Rattle.rounds.specs.Reports.{rows_left, end_report}
use Rattle.encoding.specs.Data.{taken}
use Rattle.plans.specs.declared.Answer.TheVariants.{Restored, Stuck}
use Rattle.repair.specs.Sheet.{example_after}
use Rattle.demands.specs.Fewer.{FewerLosses}
use Rattle.demands.proofs.Samples.{agree, example-word}
use Rattle.demands.proofs.Samples3.{blank3, blank-word}

-- the test of marks that lie inside others
inside_test : List Bool → List Bool → Bool
inside_test ms ns = below (length ns) (λ i. not (get_or ms i true) || get_or ns i true)

are-inside : (ms ns : List Bool) → T (inside_test ms ns) → (i : ℕ) → get_or ms i true ≡ true → get_or ns i true ≡ true
unfolding inside_test
are-inside ms ns t i e = elim (either (ltb i (length ns))) [
  | inl l ↦ elim (or_cases (not (get_or ms i true)) _ (at (length ns) _ t i (ltb→lt i (length ns) l))) [
    | inl n ↦ absurd (T_not (get_or ms i true) n (subst T (sym e) tt))
    | inr m ↦ is_true _ m
  ]
  | inr l ↦ get_or-eq_default ns true (nltb→le i (length ns) l)
]

-- ---- plan 1: the example's codeword, 1100000 0000110 0000000, and bytes under marks that are no symbols

-- ??00000 0000??0 ?000000
unfoldable pub more_marks : List ℕ
more_marks = 3 ∷ 48 ∷ 1 ∷ []

unfoldable pub more_stripe : List ℕ
more_stripe = set (set example_after 1 7) 11 255

-- row 1's two modules are back: ??00000 0000110 ?000000
unfoldable pub back_marks : List ℕ
back_marks = 3 ∷ 0 ∷ 1 ∷ []

unfoldable pub back_stripe : List ℕ
back_stripe = set (set example_after 0 255) 14 9

pub fewer-losses : FewerLosses 1 example_after back_stripe back_marks more_stripe more_marks
unfolding when◌then◌else◌ up_from flat_map size gf2 all first rest bits_of plan1 known plan_of row_at marks_at marks_of
    first_failed unasked stripe_fits words_fit marks_fit unmarked_below symbols_fit lent_tests lent_refusal
    example_after more_marks more_stripe back_marks back_stripe taken inside_test beside
fewer-losses =
    record {
      codeword = example-word;
      inside = are-inside (marks_of (plan_of 1) back_marks) (marks_of (plan_of 1) more_marks) tt;
      fit = refl;
      agrees = agree 1 back_marks example_after back_stripe refl;
      fit-more = refl;
      agrees-more = agree 1 more_marks example_after more_stripe refl;
    }

-- under the second set row 2 alone is restored, and level 1 is reached; under the first row 0 is restored too, and level 2 is reached
pub fewer-restored :
    (mend_report 1 more_stripe more_marks ≡ Ok (record { answer = Stuck; level = 1; rows = 1 ∷ 0 ∷ 0 ∷ []; left = 2 }))
    × (mend_marks 1 more_stripe more_marks ≡ 3 ∷ 48 ∷ 0 ∷ []) × (mend_stripe 1 more_stripe more_marks ≡ more_stripe)
    × (mend_report 1 back_stripe back_marks ≡ Ok (record { answer = Restored; level = 2; rows = 1 ∷ 1 ∷ 0 ∷ []; left = 0 }))
    × (mend_marks 1 back_stripe back_marks ≡ 0 ∷ 0 ∷ 0 ∷ []) × (mend_stripe 1 back_stripe back_marks ≡ example_after)
unfolding when◌then◌else◌ up_from ◌⊕◌ size double times mul dot gf2 flat_map
    any all only same zeros vanish first rest bits_of sums_of options before choices loose dependent fillings fill_by fill
    all_ones bit_checks locations1 plan1 known plan_of no_level level_of checks_to row_at marks_at marks_of
    first_failed unasked stripe_fits words_fit marks_fit all_below unmarked_below symbols_fit sums_at sums_fit level_fits lent_tests lent_refusal bench_tests bench_refusal
    fresh stepped unless_refused row_fill put_row row_step_by row_step lossy across check_fill is_none vector_in level_fill keep_sums raise level_step_by level_step
    more after_row after_level take_turn go_on turns mended rows_left end_report turn_report turn_stripe turn_marks mend_report mend_stripe mend_marks
    example_after more_marks more_stripe back_marks back_stripe beside one_of_each
fewer-restored = (refl, refl, refl, refl, refl, refl)

-- ---- plan 3: the zero stripe, rows 0 and 1 with 3 and 8 marks, and with 3 and 7

unfoldable pub eight_marks : List ℕ
eight_marks = word_of (0 to 2) ∷ word_of (0 to 7) ∷ replicate 6 0

unfoldable pub seven_marks : List ℕ
seven_marks = word_of (0 to 2) ∷ word_of (1 to 7) ∷ replicate 6 0

pub fewer-losses-3 : FewerLosses 3 blank3 (set blank3 2 200) seven_marks (set blank3 15 99) eight_marks
unfolding when◌then◌else◌ up_from flat_map size gf16 all first rest bits_of word_of plan3 known plan_of row_at marks_at marks_of
    first_failed unasked stripe_fits words_fit marks_fit unmarked_below symbols_fit lent_tests lent_refusal
    blank3 eight_marks seven_marks taken inside_test beside
fewer-losses-3 =
    record {
      codeword = blank-word;
      inside = are-inside (marks_of (plan_of 3) seven_marks) (marks_of (plan_of 3) eight_marks) tt;
      fit = refl;
      agrees = agree 3 seven_marks blank3 (set blank3 2 200) refl;
      fit-more = refl;
      agrees-more = agree 3 eight_marks blank3 (set blank3 15 99) refl;
    }

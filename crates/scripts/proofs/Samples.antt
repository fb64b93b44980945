-- The premises of each theorem can be met: the example's stripe on plan 1, and a zero stripe of the bench sheet on plan 3. Assumes nothing.
use mathlib.Core.Path.{◌≡◌, refl, sym, ap, ◌∙◌, subst}
use mathlib.Core.List.{List, [], ◌∷◌, map}
use Prim.Native.Nat.{ℕ, suc, ◌<◌, ◌≤◌}
use native.Mathlib.Omega.{arith}
use lib.Dec.{T}
use lib.ListN.{length, take, get_or, set, replicate, length-replicate, get_or-replicate}
use Rattle.field.specs.Lists.{when◌then◌else◌, up_from, ◌to◌}
use Rattle.fills.specs.Lists.{all, only}
use Rattle.fills.specs.Marks.{bits_of}
use Rattle.plans.specs.Plan.{word_of, plan1, plan3, no_plan, known, plan_of, row_at, marks_at}
use Rattle.plans.specs.Rooms.{row_room}
use Rattle.plans.specs.Answers.{step_number, as_number}
use Rattle.plans.specs.Refusal.{first_failed, marks_fit, all_below, bench_tests, bench_refusal}
use Rattle.steps.specs.Steps.{fresh, started_by, started, stepped, unless_refused, put_row, row_step, lossy, raise, level_step}
use Rattle.plans.specs.declared.Bench.{Bench}
use Rattle.repair.specs.Sheet.{Case, restored, stuck, clashed, unchanged, blank_restored, example_stripe, example_marks, example_after, cases, done}
use Rattle.repair.proofs.Sheet.{sheet}
use Rattle.steps.proofs.Fit.{marks-fit, fit-lent}
use Rattle.plans.proofs.Refusals.{unmarked-below}
use Rattle.walks.proofs.Settled.{put_whole}
use Rattle.words.specs.Words.{byte_range}
use Rattle.layout.specs.Layout.{report_size, symbols_from, marks_from, sums_from, bench_size, bench_in}
use Rattle.texts.specs.Text.{text_room}
use Rattle.shelf.specs.Calls.{size_room}
use Rattle.demands.specs.Published.{counts}
use Rattle.demands.specs.Words.{Fit, Move, on_row, on_level, after, walk, Quiet, rounds}
use Rattle.demands.specs.Third.{Premise}
use Rattle.demands.proofs.Codewords.{word_below}
use Rattle.demands.proofs.Few.{few-independent, weights-independent}
use Rattle.demands.proofs.Held.{RowFree, LevelFree, Held, held-fresh, held-unmarked, row-fills, level-learns, Made, stays, fills, learns, makes, held_after}
use Rattle.demands.proofs.Samples.{example, other-quiet}
use Rattle.demands.proofs.Samples3.{blank3, blank-word}
use Rattle.scripts.specs.Calls.{Call, start, step, told, numbers}
use Rattle.scripts.specs.Third.{script, QuietBytes}
use Rattle.scripts.proofs.Calls.{calls-are-steps}
use Rattle.scripts.proofs.Third.{script-holds, quiet-bytes, scripts-end-equal, scripts-end-mended, script-rounds-suffice}

-- ---- the sizes that scripts plan on: a bench and where its parts begin, a report, a text and the bytes that tell its length

pub sizes :
    (bench_size ≡ 838) × (symbols_from ≡ 2) × (marks_from ≡ 514) × (sums_from ≡ 610) × (report_size ≡ 8) × (text_room ≡ 640) × (size_room ≡ 2)
sizes = (refl, refl, refl, refl, refl, refl, refl)

-- ---- buffers of the bench's size: zeros, and bytes that are no bench at all

unfoldable pub clean : List ℕ
clean = replicate bench_size 0

unfoldable pub used : List ℕ
used = replicate bench_size 200

pub used-long : length used ≡ bench_size
unfolding used
used-long = length-replicate {A = ℕ} bench_size 200

pub clean-long : length clean ≡ bench_size
unfolding clean
clean-long = length-replicate {A = ℕ} bench_size 0

pub used-bytes : T (all_below byte_range used)
unfolding all all_below used
used-bytes = tt

-- steps on such bytes are refused, and a start puts a bench in their place
abbrev calls : List Call
calls = step (on_row 0) ∷ step on_level ∷ start 1 example_stripe example_marks ∷ []

calls-numbers : numbers calls (bench_in used) ≡ 10 ∷ 10 ∷ 0 ∷ []
unfolding when◌then◌else◌ no_plan plan_of known first_failed bench_tests bench_refusal started_by started stepped unless_refused row_step level_step step_number as_number
    bench_in used
calls-numbers = ap (λ n. 10 ∷ 10 ∷ as_number (λ _. 0) (started_by n 1 example_stripe example_marks).answer ∷ []) example.fit

pub calls-told : told calls used ≡ 10 ∷ 10 ∷ 0 ∷ []
calls-told = (calls-are-steps calls used used-bytes used-long).answers ∙ calls-numbers

-- ---- plan 1: the example's stripe, by the rounds and in another order

abbrev other_order : List Move
other_order = on_row 2 ∷ on_row 0 ∷ on_level ∷ on_row 1 ∷ []

pub rounds-quiet : QuietBytes (script 1 example_stripe example_marks (rounds (plan_of 1) 2) clean)
unfolding plan1 plan_of
rounds-quiet = script-rounds-suffice 1 example_stripe example_marks example clean clean-long

pub order-quiet : QuietBytes (script 1 example_stripe example_marks other_order used)
order-quiet = quiet-bytes (script-holds 1 example_stripe example_marks example used used-long other_order) other-quiet

pub example-equal : script 1 example_stripe example_marks (rounds (plan_of 1) 2) clean ≡ script 1 example_stripe example_marks other_order used
example-equal =
    scripts-end-equal 1 example_stripe example_marks example clean used clean-long used-long (rounds (plan_of 1) 2) other_order rounds-quiet order-quiet

-- and the bytes hold the stripe restored
pub example-restored : take (length example_stripe) (bench_in (script 1 example_stripe example_marks other_order used)).symbols ≡ example_after
unfolding restored stuck clashed unchanged blank_restored cases done
example-restored =
    (scripts-end-mended 1 example_stripe example_marks example used used-long other_order order-quiet).stripe-left
    ∙ ap (λ (cs : List Case). get_or (map (λ (c : Case). c.stripe_after) cs) 1 []) sheet.mending

-- ---- plan 3: a zero stripe, rows 0 and 1 with 3 and 7 marks

unfoldable pub two_marked : List ℕ
two_marked = word_of (0 to 2) ∷ word_of (0 to 6) ∷ replicate 6 0

zero-fits : Fit 3 blank3 two_marked
unfolding when◌then◌else◌ up_from all word_of plan3 known plan_of marks_fit two_marked
zero-fits = fit-lent 3 blank3 two_marked record {
  plan-known = tt;
  long = blank-word.long;
  words = refl;
  mark-lt = marks-fit (plan_of 3) two_marked tt;
  row_fits = λ r h.
      unmarked-below (plan_of 3).field (marks_at (plan_of 3) two_marked r) (row_at (plan_of 3) blank3 r) (word_below 3 blank3 blank-word r h);
}

pub zero-premise : Premise 3 blank3 two_marked
zero-premise = record { fit = zero-fits; true-stripe = blank3; codeword = blank-word; agrees = λ i e. refl }

-- ---- by the rounds again, and in another order: each level as soon as it can be learned, and no rows but these two

pub zero-rounds-quiet : QuietBytes (script 3 blank3 two_marked (rounds (plan_of 3) 3) clean)
unfolding plan3 plan_of
zero-rounds-quiet = script-rounds-suffice 3 blank3 two_marked zero-premise clean clean-long

-- a bench held to a codeword, at level t and with these marks
record At (p : ℕ) (X : List ℕ) (b : Bench) (t : ℕ) (marks : List ℕ) : Type 0 where
  held : Held p X b
  level : b.level ≡ t
  words : b.marks ≡ marks

module _ (p : ℕ) (X : List ℕ) {b : Bench} {t : ℕ} {marks : List ℕ} (at : At p X b t marks) where
  abbrev h : Held p X b
  h = at.held

  -- a level that may be learned, a row that may be filled
  raised : t < length (plan_of p).levels → LevelFree p t marks → At p X (after b on_level) (suc t) marks
  unfolding raise
  raised low free =
      let e = level-learns p X b h (rw at.level low) (rw (at.level, at.words) free) in
      record {
        held = held_after p X b h on_level;
        level = ap (λ (c : Bench). c.level) e ∙ ap suc at.level;
        words = ap (λ (c : Bench). c.marks) e ∙ at.words;
      }

  filled : (r : ℕ) → r < (plan_of p).rows → RowFree p t marks r → At p X (after b (on_row r)) t (set marks r 0)
  unfolding put_row
  filled r l free =
      let e = row-fills p X b h r l (rw (at.level, at.words) free) in
      record {
        held = held_after p X b h (on_row r);
        level = ap (λ (c : Bench). c.level) e ∙ at.level;
        words = ap (λ (c : Bench). c.marks) e ∙ ap (λ m. set m r 0) at.words;
      }

  -- at the last level, with no row marked, no step changes anything
  module _ (top : length (plan_of p).levels ≤ t) (clear : (r : ℕ) → r < (plan_of p).rows → get_or marks r 0 ≡ 0) where
    row-whole : (r : ℕ) → r < (plan_of p).rows → put_row b r (row_at (plan_of p) X r) ≡ b
    row-whole r l =
        let z = ap (λ m. get_or m r 0) at.words ∙ clear r l in
        ap (put_row b r) (sym (held-unmarked p X b h r l z) ∙ ap (λ q. row_at (plan_of q) b.symbols r) (sym h.plan))
        ∙ put_whole b h.sound r (subst (λ q. r < (plan_of q).rows) (sym h.plan) l) z

    same-made : (c : Bench) → Made p X b c → c ≡ b
    same-made c stays = refl
    same-made c (fills r l free) = row-whole r l
    same-made c (learns low free) = absurd (omega (arith, at.level, low))

    whole-quiet : Quiet b
    whole-quiet m = same-made (after b m) (makes p X b h m)

abbrev levels_first : List Move
levels_first = on_level ∷ on_row 0 ∷ on_level ∷ on_row 1 ∷ []

-- the mark words of its bench
unfoldable bench_marked : List ℕ
bench_marked = (fresh 3 blank3 two_marked).marks

zero-at : At 3 blank3 (fresh 3 blank3 two_marked) 1 bench_marked
unfolding fresh bench_marked
zero-at = record { held = held-fresh 3 blank3 blank3 two_marked zero-fits blank-word (λ i e. refl); level = refl; words = refl }

zero-ends : At 3 blank3 (walk levels_first (fresh 3 blank3 two_marked)) 3 (replicate row_room 0)
unfolding when◌then◌else◌ up_from only bits_of word_of plan3 plan_of marks_at lossy counts fresh two_marked bench_marked
zero-ends =
    let two = raised 3 blank3 zero-at (omega arith) (weights-independent 3 0 (lossy (plan_of 3) bench_marked) refl (omega arith)) in
    let row = filled 3 blank3 two 0 (omega arith) (few-independent 3 1 (marks_at (plan_of 3) bench_marked 0) refl (omega arith)) in
    let three = raised 3 blank3 row (omega arith) (weights-independent 3 1 (lossy (plan_of 3) (set bench_marked 0 0)) refl (omega arith)) in
    filled 3 blank3 three 1 (omega arith) (few-independent 3 2 (marks_at (plan_of 3) (set bench_marked 0 0) 1) refl (omega arith))

pub zero-order-quiet : QuietBytes (script 3 blank3 two_marked levels_first used)
unfolding plan3 plan_of
zero-order-quiet =
    quiet-bytes (script-holds 3 blank3 two_marked zero-premise used used-long levels_first)
    (whole-quiet 3 blank3 zero-ends (omega arith) (λ r l. get_or-replicate row_room r 0 0 (omega arith)))

pub zero-equal : script 3 blank3 two_marked (rounds (plan_of 3) 3) clean ≡ script 3 blank3 two_marked levels_first used
zero-equal =
    scripts-end-equal 3 blank3 two_marked zero-premise clean used clean-long used-long (rounds (plan_of 3) 3) levels_first zero-rounds-quiet zero-order-quiet

-- Stripe files as they were before there were plans 4 and 5, and what is kept: a file of any other plan is written and read as it was then.
use Rattle.std.specs.Prelude.{ℕ, ◌+◌, ◌*◌, ◌/◌, ◌%◌, ◌^◌, ◌≡◌, ◌≢◌, Bool, ◌&&◌, eqb, ltb, leb, length, take, drop, get_or}
use mathlib.Core.List.{List, [], ◌∷◌, ◌++◌, map, flat_map}
use Rattle.field.specs.Lists.{when◌then◌else◌, up_from}
use Rattle.fills.specs.Lists.{same}
use Rattle.plans.specs.Plan.{Plan, plan1, plan2, plan3, no_plan, marks_of, marks_offset}
use Rattle.plans.specs.Refusal.{first_failed, stripe_fits, words_fit, marks_fit, symbols_fit}
use Rattle.files.specs.File.{header_size, blanked, write_refusal, write_file, plan_in, read_refusal, read_stripe, read_marks}

-- ---- what a file was

-- there were three plans, by the numbers 1 to 3
unfoldable pub plan_before : ℕ → Plan
plan_before p = get_or (no_plan ∷ plan1 ∷ plan2 ∷ plan3 ∷ []) p no_plan

unfoldable pub known_before : ℕ → Bool
known_before p = ltb 0 p && leb p 3

-- a number of two bytes and one of four, and the number of the four bytes from place i on
unfoldable pub bytes2 : ℕ → List ℕ
bytes2 n = n % 256 ∷ n / 256 % 256 ∷ []

unfoldable pub bytes4 : ℕ → List ℕ
bytes4 n = n % 256 ∷ n / 256 % 256 ∷ n / 2 ^ 16 % 256 ∷ n / 2 ^ 24 % 256 ∷ []

unfoldable pub word_at : List ℕ → ℕ → ℕ
word_at bytes i = get_or bytes i 0 + get_or bytes (i + 1) 0 * 256 + get_or bytes (i + 2) 0 * 2 ^ 16 + get_or bytes (i + 3) 0 * 2 ^ 24

-- each mark word had four bytes
unfoldable pub offset_before : Plan → ℕ
offset_before P = marks_offset + 4 * P.rows

unfoldable pub length_before : Plan → ℕ
length_before P = offset_before P + P.rows * P.columns

-- byte 3 was 0
unfoldable pub header_before : ℕ → List ℕ
header_before p = let P = plan_before p in p ∷ P.rows ∷ P.columns ∷ 0 ∷ bytes2 marks_offset ++ bytes2 (offset_before P)

unfoldable pub file_before : ℕ → List ℕ → List ℕ → List ℕ
file_before p stripe marks = header_before p ++ flat_map bytes4 marks ++ blanked (marks_of (plan_before p) marks) stripe

-- ---- how it was written

unfoldable pub write_refusal_before : ℕ → List ℕ → List ℕ → List ℕ → ℕ
write_refusal_before p stripe marks file =
    let P = plan_before p in
    first_failed
    ((10, known_before p) ∷ (11, stripe_fits P stripe && words_fit P marks && eqb (length file) (length_before P)) ∷ (12, marks_fit P marks)
    ∷ (13, symbols_fit P marks stripe) ∷ [])

unfoldable pub write_file_before : ℕ → List ℕ → List ℕ → List ℕ → List ℕ
write_file_before p stripe marks file = when eqb (write_refusal_before p stripe marks file) 0 then file_before p stripe marks else file

-- ---- how it was read

unfoldable pub marks_before : List ℕ → List ℕ
marks_before file = map (λ r. word_at file (marks_offset + 4 * r)) (up_from 0 (plan_before (plan_in file)).rows)

unfoldable pub symbols_before : List ℕ → List ℕ
symbols_before file = let P = plan_before (plan_in file) in take (P.rows * P.columns) (drop (offset_before P) file)

unfoldable pub read_refusal_before : List ℕ → List ℕ → List ℕ → ℕ
read_refusal_before file stripe marks =
    let p = plan_in file in
    let P = plan_before p in
    let words = marks_before file in
    let symbols = symbols_before file in
    first_failed
    ((20, leb header_size (length file)) ∷ (10, known_before p) ∷ (21, same (take header_size file) (header_before p)) ∷ (20, eqb (length file) (length_before P))
    ∷ (11, stripe_fits P stripe && words_fit P marks) ∷ (12, marks_fit P words) ∷ (13, symbols_fit P words symbols)
    ∷ (22, same symbols (blanked (marks_of P words) symbols)) ∷ [])

unfoldable pub read_stripe_before : List ℕ → List ℕ → List ℕ → List ℕ
read_stripe_before file stripe marks = when eqb (read_refusal_before file stripe marks) 0 then symbols_before file else stripe

unfoldable pub read_marks_before : List ℕ → List ℕ → List ℕ → List ℕ
read_marks_before file stripe marks = when eqb (read_refusal_before file stripe marks) 0 then marks_before file else marks

-- ---- what is kept

-- any number but 4 and 5
abbrev pub Older : ℕ → Type 0
Older p = (p ≢ 4) × (p ≢ 5)

-- for every such number, whatever is lent
pub record AsBefore : Type 0 where
  pub writes-refused : (p : ℕ) (stripe marks file : List ℕ) → Older p → write_refusal p stripe marks file ≡ write_refusal_before p stripe marks file
  pub writes : (p : ℕ) (stripe marks file : List ℕ) → Older p → write_file p stripe marks file ≡ write_file_before p stripe marks file
  pub reads-refused : (file stripe marks : List ℕ) → Older (plan_in file) → read_refusal file stripe marks ≡ read_refusal_before file stripe marks
  pub reads-stripe : (file stripe marks : List ℕ) → Older (plan_in file) → read_stripe file stripe marks ≡ read_stripe_before file stripe marks
  pub reads-marks : (file stripe marks : List ℕ) → Older (plan_in file) → read_marks file stripe marks ≡ read_marks_before file stripe marks

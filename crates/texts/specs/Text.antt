-- The text that `mend` prints, for any bytes that it reads.
use Rattle.std.specs.Prelude.{ℕ, zero, suc, ◌+◌, ◌/◌, ◌%◌, Bool, eqb, leb, ltb, replicate, Result, Ok, Err}
use Prim.Native.Char.{code}
use Prim.Native.String.{String, [] as ε, ◌∷◌ as ◌∶◌}
use mathlib.Core.List.{List, [], ◌∷◌, ◌++◌, flat_map}
use Rattle.field.specs.Lists.{when◌then◌else◌, up_from}
use Rattle.field.specs.Field.{size}
use Rattle.fills.specs.Lists.{beside}
use Rattle.plans.specs.Plan.{Plan, plan_of, row_at, marks_at}
use Rattle.plans.specs.Answers.{answer_number, report_values}
use Rattle.plans.specs.Refusal.{unasked}
use Rattle.repair.specs.Mending.{mend_report, mend_stripe, mend_marks}
use Rattle.files.specs.File.{plan_in, marks_in, symbols_in, file_refusal}
use Rattle.plans.specs.declared.Place.{Place}
use Rattle.plans.specs.declared.Place.TheVariants.{Row, Across}
use Rattle.plans.specs.declared.Answer.{Answer}
use Rattle.plans.specs.declared.Report.{Report}
use Rattle.plans.specs.declared.Answer.TheVariants.{Restored, Stuck, Clash}

-- ---- bytes

-- a text's characters by their numbers
unfoldable pub bytes : String → List ℕ
bytes ε = []
bytes (c ∶ s) = code c ∷ bytes s

unfoldable pub digits_in : (most : ℕ) → ℕ → List ℕ
digits_in zero n = []
digits_in (suc k) n = let high = digits_in k (n / 10) in (when ltb n 10 then [] else high) ++ ((48 + n % 10) ∷ [])

-- decimal, without leading zeros
unfoldable pub decimal : ℕ → List ℕ
decimal n = digits_in (suc n) n

-- a lowercase hex digit, and the n low ones of a number, the high one first
unfoldable pub hex : ℕ → ℕ
hex x = when ltb x 10 then 48 + x else 87 + x

unfoldable pub hexes : ℕ → ℕ → List ℕ
hexes zero x = []
hexes (suc n) x = hexes n (x / 16) ++ (hex (x % 16) ∷ [])

-- a word and a number
unfoldable pub item : String → ℕ → List ℕ
item word n = bytes word ++ decimal n

unfoldable pub line_end : List ℕ
line_end = 10 ∷ []

-- ---- lines

-- how many hex digits a symbol has
unfoldable pub symbol_digits : Plan → ℕ
symbol_digits P = when leb (size P.field) 16 then 1 else 2

-- a symbol by its n digits, each `?` at a place still marked
unfoldable pub symbol_text : ℕ → Bool → ℕ → List ℕ
symbol_text n m x = when m then replicate n 63 else hexes n x

-- a row's symbols
unfoldable pub shown : ℕ → List Bool → List ℕ → List ℕ
shown n ms xs = flat_map (λ l. l) (beside (symbol_text n) ms xs)

unfoldable pub grid : Plan → List ℕ → List ℕ → List ℕ
grid P stripe marks =
    flat_map (λ r. shown (symbol_digits P) (marks_at P marks r) (row_at P stripe r) ++ line_end) (up_from 0 P.rows)

-- each value behind its words, as far as there are values
unfoldable pub captioned : List String → List ℕ → List ℕ
captioned [] values = []
captioned (words ∷ more) [] = []
captioned (words ∷ more) (n ∷ values) = item words n ++ captioned more values

-- level reached, rows left, and rows restored at each level of the plan
unfoldable pub end_text : (values : List ℕ) → List ℕ
end_text values = captioned (" level " ∷ " left " ∷ " rows " ∷ " " ∷ " " ∷ []) values

-- the place of a Clash
unfoldable pub place_text : Place → (values : List ℕ) → List ℕ
place_text (Row row level) values = captioned (" level " ∷ " place row " ∷ []) values
place_text (Across level) values = captioned (" level " ∷ []) values ++ bytes " place across"

-- what follows an answer's number: its values, and the rows behind Restored and Stuck
unfoldable pub answer_text : Answer → (values rows : List ℕ) → List ℕ
answer_text Restored values rows = end_text values ++ line_end ++ rows
answer_text Stuck values rows = end_text values ++ line_end ++ rows
answer_text (Clash place) values rows = place_text place values ++ line_end

-- what follows the plan: the answer's number and text
unfoldable pub told_text : Plan → Result Report ℕ → (rows : List ℕ) → List ℕ
told_text P (Ok r) rows = item " answer " (answer_number r.answer) ++ answer_text r.answer (report_values P r) rows
told_text P (Err n) rows = item " answer " n ++ line_end

unfoldable pub mend_text : ℕ → (stripe marks : List ℕ) → List ℕ
mend_text p stripe marks =
    let P = plan_of p in
    item "plan " p ++ told_text P (mend_report p stripe marks) (grid P (mend_stripe p stripe marks) (mend_marks p stripe marks))

-- what is printed for a file
unfoldable pub printed : List ℕ → List ℕ
printed file =
    let n = file_refusal file unasked in
    when eqb n 0 then mend_text (plan_in file) (symbols_in file) (marks_in file) else item "refused " n ++ line_end

-- how many bytes a text has room for
abbrev pub text_room : ℕ
text_room = 640

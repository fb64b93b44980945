-- The stripe file, read and written.
use Rattle.std.specs.Prelude.{ℕ, ◌*◌, Bool, ◌&&◌, eqb, leb, length, take, drop, get_or}
use mathlib.Core.List.{List, [], ◌∷◌, ◌++◌, flat_map}
use Rattle.field.specs.Lists.{when◌then◌else◌}
use Rattle.fills.specs.Lists.{same, beside}
use Rattle.plans.specs.Plan.{plan_of, known, marks_of, marks_offset, wide_marks, word_bytes, symbols_offset, file_length}
use Rattle.plans.specs.Refusal.{first_failed, stripe_fits, words_fit, marks_fit, symbols_fit}
use Rattle.words.specs.Words.{bytes_of, words_at}

-- ---- the format

-- how many bytes a header has
abbrev pub header_size : ℕ
header_size = 8

-- plan, rows, columns, 1 where mark words have eight bytes, and the places where the marks and the symbols begin
unfoldable pub header_of : ℕ → List ℕ
header_of p =
    let P = plan_of p in
    p ∷ P.rows ∷ P.columns ∷ (when wide_marks P then 1 else 0) ∷ bytes_of 2 marks_offset ++ bytes_of 2 (symbols_offset P)

-- the symbols, with 0 at each marked place
unfoldable pub blanked : List Bool → List ℕ → List ℕ
blanked ms xs = beside (λ m x. when m then 0 else x) ms xs

unfoldable pub file_of : ℕ → List ℕ → List ℕ → List ℕ
file_of p stripe marks = let P = plan_of p in header_of p ++ flat_map (bytes_of (word_bytes P)) marks ++ blanked (marks_of P marks) stripe

-- ---- writing

unfoldable pub write_refusal : ℕ → List ℕ → List ℕ → List ℕ → ℕ
write_refusal p stripe marks file =
    let P = plan_of p in
    first_failed
    ((10, known p) ∷ (11, stripe_fits P stripe && words_fit P marks && eqb (length file) (file_length P)) ∷ (12, marks_fit P marks)
    ∷ (13, symbols_fit P marks stripe) ∷ [])

-- what the lent file buffer holds afterwards
unfoldable pub write_file : ℕ → List ℕ → List ℕ → List ℕ → List ℕ
write_file p stripe marks file = when eqb (write_refusal p stripe marks file) 0 then file_of p stripe marks else file

-- ---- reading

unfoldable pub plan_in : List ℕ → ℕ
plan_in file = get_or file 0 0

unfoldable pub marks_in : List ℕ → List ℕ
marks_in file = let P = plan_of (plan_in file) in words_at (word_bytes P) file marks_offset P.rows

unfoldable pub symbols_in : List ℕ → List ℕ
symbols_in file = let P = plan_of (plan_in file) in take (P.rows * P.columns) (drop (symbols_offset P) file)

-- `lengths` says whether the buffers lent to receive it fit the file's plan
unfoldable pub file_refusal : List ℕ → (lengths : Bool) → ℕ
file_refusal file lengths =
    let p = plan_in file in
    let P = plan_of p in
    let marks = marks_in file in
    first_failed
    ((20, leb header_size (length file)) ∷ (10, known p) ∷ (21, same (take header_size file) (header_of p)) ∷ (20, eqb (length file) (file_length P))
    ∷ (11, lengths) ∷ (12, marks_fit P marks) ∷ (13, symbols_fit P marks (symbols_in file))
    ∷ (22, same (symbols_in file) (blanked (marks_of P marks) (symbols_in file))) ∷ [])

unfoldable pub read_refusal : List ℕ → List ℕ → List ℕ → ℕ
read_refusal file stripe marks =
    let P = plan_of (plan_in file) in file_refusal file (stripe_fits P stripe && words_fit P marks)

-- what the lent stripe and marks hold afterwards
unfoldable pub read_stripe : List ℕ → List ℕ → List ℕ → List ℕ
read_stripe file stripe marks = when eqb (read_refusal file stripe marks) 0 then symbols_in file else stripe

unfoldable pub read_marks : List ℕ → List ℕ → List ℕ → List ℕ
read_marks file stripe marks = when eqb (read_refusal file stripe marks) 0 then marks_in file else marks

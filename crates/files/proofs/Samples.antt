-- The orders of refusal for files, on samples that have two flaws at once. Assumes nothing.
use Prim.Native.Nat.{ℕ}
use mathlib.Core.Path.{◌≡◌, refl}
use mathlib.Core.List.{List, [], ◌∷◌, flat_map}
use lib.ListN.{take, replicate, set}
use Rattle.field.specs.Lists.{when◌then◌else◌, up_from}
use Rattle.field.specs.Field.{size, gf2, gf64}
use Rattle.fills.specs.Lists.{all, same, first, rest, beside}
use Rattle.fills.specs.Marks.{bits_of}
use Rattle.plans.specs.Plan.{plan1, plan5, binary_plan, known, no_plan, plan_of, row_at, marks_at, marks_of, marks_offset, wide_marks, word_bytes, symbols_offset, file_length}
use Rattle.plans.specs.Refusal.{first_failed, unasked, stripe_fits, words_fit, marks_fit, unmarked_below, symbols_fit}
use Rattle.words.specs.Words.{bytes_of, number_at}
use Rattle.files.specs.File.{header_of, blanked, plan_in, marks_in, symbols_in, file_refusal, read_refusal, write_refusal}
use Rattle.files.specs.Example.{example_file}

-- a stripe, mark words and a file of zeros
abbrev stripe : List ℕ
stripe = replicate 21 0

abbrev marks : List ℕ
marks = replicate 3 0

abbrev file : List ℕ
file = replicate 41 0

-- the example's file with one byte changed, and with two
unfoldable pub with_byte : (at byte : ℕ) → List ℕ
with_byte at byte = set example_file at byte

unfoldable pub with_bytes : (at byte at' byte' : ℕ) → List ℕ
with_bytes at byte at' byte' = set (set example_file at byte) at' byte'

-- reading: 20 (shorter than 8), 10, 21, 20 (whole length), 11, 12, 13, 22
pub file-order :
    -- shorter than 8, of an unknown plan
    (read_refusal (9 ∷ []) stripe marks ≡ 20)
    -- an unknown plan, and a header that disagrees
    × (read_refusal (with_byte 0 9) stripe marks ≡ 10)
    -- a header that disagrees, one byte too few; byte 3 of another plan, alone
    × (read_refusal (take 40 (with_byte 1 4)) stripe marks ≡ 21) × (read_refusal (with_byte 3 1) stripe marks ≡ 21)
    -- one byte too few, a lent stripe too short
    × (read_refusal (take 40 example_file) [] marks ≡ 20)
    -- a lent stripe too short, a mark bit at column 7
    × (read_refusal (with_byte 8 0x82) [] marks ≡ 11)
    -- a mark bit at column 7, a symbol 2
    × (read_refusal (with_bytes 8 0x82 20 2) stripe marks ≡ 12)
    -- a symbol 2, and 1 under a mark
    × (read_refusal (with_bytes 20 2 21 1) stripe marks ≡ 13)
    -- 1 under a mark alone, and nothing
    × (read_refusal (with_byte 21 1) stripe marks ≡ 22) × (read_refusal example_file stripe marks ≡ 0)
unfolding when◌then◌else◌ up_from size gf2 flat_map all same first rest beside bits_of plan1 known no_plan plan_of row_at marks_at marks_of
    first_failed unasked stripe_fits words_fit marks_fit unmarked_below symbols_fit
    bytes_of marks_offset wide_marks word_bytes symbols_offset file_length header_of blanked plan_in number_at marks_in symbols_in file_refusal read_refusal
    example_file with_byte with_bytes
file-order = (refl, refl, refl, refl, refl, refl, refl, refl, refl, refl)

-- writing: 10, 11, 12, 13
pub write-order :
    -- an unknown plan, its lengths; no room for the file, a mark bit at column 7; the mark bit, a symbol 2; the symbol alone
    (write_refusal 6 stripe marks file ≡ 10) × (write_refusal 1 stripe (set marks 0 128) [] ≡ 11)
    × (write_refusal 1 (set stripe 0 2) (set marks 0 128) file ≡ 12) × (write_refusal 1 (set stripe 0 2) marks file ≡ 13)
unfolding when◌then◌else◌ up_from size gf2 all first rest beside bits_of plan1 known no_plan plan_of row_at marks_at
    first_failed unasked stripe_fits words_fit marks_fit unmarked_below symbols_fit marks_offset wide_marks word_bytes symbols_offset file_length write_refusal
write-order = (refl, refl, refl, refl)

-- plan 5: byte 3 is 1, the symbols stand at 72, and the file has 584 bytes; with byte 3 zero it is refused
pub wide-file :
    (header_of 5 ≡ 5 ∷ 8 ∷ 64 ∷ 1 ∷ 8 ∷ 0 ∷ 72 ∷ 0 ∷ []) × (file_length (plan_of 5) ≡ 584)
    × (read_refusal (5 ∷ 8 ∷ 64 ∷ 0 ∷ 8 ∷ 0 ∷ 72 ∷ 0 ∷ []) [] [] ≡ 21)
unfolding when◌then◌else◌ size gf64 same plan5 binary_plan known plan_of first_failed bytes_of marks_offset wide_marks word_bytes symbols_offset file_length
    header_of plan_in file_refusal read_refusal
wide-file = (refl, refl, refl)

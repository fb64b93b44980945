-- Plans 2 to 5 on samples: a codeword of each, found by another program from the rule of the code alone, and the plans' published sizes.
-- And the orders of refusal, on samples that have two flaws at once.
-- Assumes nothing.
use Prim.Native.Nat.{ℕ, suc, ◌/◌, ◌%◌, ◌^◌}
use mathlib.Core.Path.{◌≡◌, refl}
use mathlib.Core.Bool.{true, false}
use mathlib.Core.List.{List, [], ◌∷◌, map, flat_map}
use lib.ListN.{get_or, replicate, set}
use Rattle.field.specs.Lists.{when◌then◌else◌, up_from}
use Rattle.field.specs.Field.{◌⊕◌, size, double, times, mul, dot, gf2, gf16, gf32, gf64, gf256}
use Rattle.field.specs.Power.{power}
use Rattle.fills.specs.Lists.{all, only, vanish, first, rest, beside}
use Rattle.fills.specs.Marks.{bits_of}
use Rattle.fills.specs.Fill.{sums_of}
use Rattle.plans.specs.Plan.{all_ones, bit_checks, word_of, locations1, plan1, elements, power_bits, front_and_last, binary_plan, plan2, plan5, locations3, powers3, plan3, locations4, powers4, weights4, plan4, known, no_plan, plan_of, no_level, level_of, checks_to, row_at, marks_at, marks_of, across, check_places_of, carried, marks_offset, wide_marks, word_bytes, symbols_offset, file_length}
use Rattle.plans.specs.Refusal.{first_failed, unasked, stripe_fits, words_fit, marks_fit, all_below, unmarked_below, symbols_fit, sums_at, sums_fit, level_fits, lent_tests, lent_refusal, bench_tests, bench_refusal}
use Rattle.plans.specs.Rooms.{row_room, symbol_room, learned_room}
use Rattle.codewords.specs.Codeword.{rows_hold, totals_hold, is_codeword, test_refusal}
use Rattle.encoding.specs.Data.{encode_refusal, extract_refusal}
use Rattle.repair.specs.Sheet.{blank}
use Rattle.plans.specs.declared.Bench.{Bench}

-- a row of n symbols below q, read off a number, column 0 last
unfoldable pub row_of : (q n : ℕ) → ℕ → List ℕ
row_of q n w = map (λ c. w / q ^ c % q) (up_from 0 n)

unfoldable pub sample2 : List ℕ
sample2 =
    flat_map (row_of 2 32)
    (0x7d3b4042 ∷ 0x5934e1cb ∷ 0xfa05587c ∷ 0x50db3605 ∷ 0x1e4e7549 ∷ 0x13088626 ∷ 0x09eab16d ∷ 0x15221d01 ∷ [])

unfoldable pub sample3 : List ℕ
sample3 =
    flat_map (row_of 16 15)
    (0x4346dfdabe852f5 ∷ 0xb8e34e8647c73ef ∷ 0x1f2a8115f357270 ∷ 0x7851f7fc1f4e8d1
    ∷ 0x86b3b80841f1a7b ∷ 0x506e2bbc5160e1e ∷ 0x279e5511f8ecee7 ∷ 0x4e9e3f89bd0b4f6 ∷ [])

unfoldable pub sample4 : List ℕ
sample4 =
    flat_map (row_of 256 24)
    (0xea6608a677fea827a7b35d4442ee397fd931d70129fe1a30 ∷ 0xed12575ed90f97eabbce8434162a4024e773c49908f46a9f
    ∷ 0xa30e7831bb05baf87800e9780276a8036f53063682d12b5a ∷ 0x469b133961b30bd56649e6e87ca2e84516b62df05a4dd417
    ∷ 0xb254c9dd200328bc82456227116fcd0a5be3a24d6375f5ca ∷ 0x31f310e9af8abb93f2a6e5b4c851dc74e008da8beacc48d5
    ∷ 0x9e0ff050447332e5cad8be24507a8b0ec5bc6b101dd2fac1 ∷ 0xa999cb38d145ed7bdbcd95b5d7a59162628711cb09be6799
    ∷ 0xb2b7681e8ed73017753b84bc6a9e90cbffb21e32262e813c ∷ 0xee7c35be8ef861e049d24f70af9e29f18d3527efec10e0cf
    ∷ 0xf77e34a9a1d70c23fc6494cd6f5c1472c1be44b77d5c5d29 ∷ 0xb3e1ccb3dba86814a56a36eac4d6a2f87c98b5065416cfa3 ∷ [])

unfoldable pub sample5 : List ℕ
sample5 =
    flat_map (row_of 2 64)
    (0xf81f4d92b190ffdf ∷ 0x21b1758b3d5d0da9 ∷ 0x25fec4dbc66d0849 ∷ 0x32e5ef6b64a52314
    ∷ 0x4f4ab94ca7f90067 ∷ 0x3acb681411b6cb21 ∷ 0x3d73acee800a50ec ∷ 0x947e649745efe752 ∷ [])

-- two symbols of a row changed so that its level-1 parity stays as it was
unfoldable pub changed : (at by : ℕ) → List ℕ → List ℕ
changed at by l = set (set l at (get_or l at 0 ⊕ by)) (suc at) (get_or l (suc at) 0 ⊕ by)

pub samples :
    (is_codeword plan2 sample2 ≡ true) × (is_codeword plan2 (changed 40 1 sample2) ≡ false)
    × (is_codeword plan3 sample3 ≡ true) × (is_codeword plan3 (changed 40 9 sample3) ≡ false)
    × (is_codeword plan4 sample4 ≡ true) × (is_codeword plan4 (changed 40 9 sample4) ≡ false)
    × (is_codeword plan5 sample5 ≡ true) × (is_codeword plan5 (changed 126 1 sample5) ≡ false)
unfolding when◌then◌else◌ up_from ◌⊕◌ size double times mul dot gf2 gf16 gf32 gf64 gf256 power flat_map all vanish bits_of sums_of
    all_ones bit_checks word_of elements power_bits front_and_last binary_plan plan2 plan5 locations3 powers3 plan3 locations4 powers4 weights4 plan4 no_level level_of row_at
    across rows_hold totals_hold is_codeword row_of sample2 sample3 sample4 sample5 changed
samples = (refl, refl, refl, refl, refl, refl, refl, refl)

-- symbols carried, and the length of a file
pub sizes :
    (carried plan1 ≡ 15) × (carried plan2 ≡ 198) × (carried plan3 ≡ 98) × (carried plan4 ≡ 253) × (carried plan5 ≡ 444)
    × (file_length plan1 ≡ 41) × (file_length plan2 ≡ 296) × (file_length plan3 ≡ 160) × (file_length plan4 ≡ 344) × (file_length plan5 ≡ 584)
unfolding when◌then◌else◌ up_from flat_map size gf32 gf64 only bits_of all_ones word_of front_and_last binary_plan plan1 plan2 plan3 plan4 plan5 marks_at marks_of check_places_of carried
    marks_offset wide_marks word_bytes symbols_offset file_length
sizes = (refl, refl, refl, refl, refl, refl, refl, refl, refl, refl)

-- ---- the orders of refusal: of two flaws the earlier in the order is named

unfoldable pub no_marks : List ℕ
no_marks = replicate 3 0

unfoldable pub no_data : List ℕ
no_data = replicate 15 0

-- a bench whose row 0 has this mark word, this symbol in column 0 and this sum of level 1
unfoldable pub bench_with : (plan level word symbol sum : ℕ) → Bench
bench_with p t word symbol sum = record {
  plan = p;
  level = t;
  symbols = set (replicate symbol_room 0) 0 symbol;
  marks = set (replicate row_room 0) 0 word;
  sums = set (replicate learned_room 0) 0 sum;
}

-- in memory: 10, 11, 15, 12, 13, 14, 16; no call has all of them
pub memory-order :
    -- lent: an unknown plan, its lengths; a stripe too short, a mark bit at column 7; the mark bit, a symbol 2
    (lent_refusal 6 blank no_marks ≡ 10) × (lent_refusal 1 [] (set no_marks 0 128) ≡ 11) × (lent_refusal 1 (set blank 0 2) (set no_marks 0 128) ≡ 12)
    -- a bench: an unknown plan, level 0; level 3, a mark bit at column 7; the mark bit, a symbol 2
    × (bench_refusal (bench_with 6 0 0 0 0) unasked ≡ 10) × (bench_refusal (bench_with 1 3 128 0 0) unasked ≡ 15)
    × (bench_refusal (bench_with 1 1 128 2 0) unasked ≡ 12)
    -- and a row number that does not fit: with a symbol 2, with a sum 2, alone
    × (bench_refusal (bench_with 1 1 0 2 0) false ≡ 13) × (bench_refusal (bench_with 1 1 0 0 2) false ≡ 13) × (bench_refusal (bench_with 1 1 0 0 0) false ≡ 14)
    -- extraction: lengths, a symbol 2; a symbol 2, no codeword; no codeword alone
    × (extract_refusal 1 (set blank 0 2) [] ≡ 11) × (extract_refusal 1 (set (set blank 0 2) 7 1) no_data ≡ 13)
    × (extract_refusal 1 (set blank 0 1) no_data ≡ 16)
unfolding when◌then◌else◌ up_from ◌⊕◌ size double times mul dot gf2 flat_map all only vanish first rest beside bits_of sums_of
    all_ones bit_checks word_of locations1 plan1 known no_plan plan_of no_level level_of checks_to row_at marks_at marks_of
    first_failed unasked stripe_fits words_fit marks_fit all_below unmarked_below symbols_fit sums_at sums_fit level_fits lent_tests lent_refusal bench_tests bench_refusal
    across rows_hold totals_hold is_codeword check_places_of carried extract_refusal blank no_marks no_data bench_with
memory-order = (refl, refl, refl, refl, refl, refl, refl, refl, refl, refl, refl, refl)

-- and in the calls that have fewer of them
pub other-orders :
    -- the codeword test: an unknown plan, its length; a stripe too long, a symbol 2; the symbol alone
    (test_refusal 6 blank ≡ 10) × (test_refusal 1 (2 ∷ blank) ≡ 11) × (test_refusal 1 (set blank 0 2) ≡ 13)
    -- encoding: an unknown plan, its lengths; too many data, a data symbol 2; the symbol alone
    × (encode_refusal 6 no_data blank ≡ 10) × (encode_refusal 1 (2 ∷ no_data) blank ≡ 11) × (encode_refusal 1 (set no_data 0 2) blank ≡ 13)
    -- extraction: an unknown plan, its lengths
    × (extract_refusal 6 blank no_data ≡ 10)
unfolding when◌then◌else◌ up_from ◌⊕◌ size double times mul dot gf2 flat_map all only vanish first rest beside bits_of sums_of
    all_ones bit_checks word_of locations1 plan1 known no_plan plan_of no_level level_of row_at marks_at marks_of
    first_failed unasked stripe_fits words_fit marks_fit all_below unmarked_below symbols_fit
    across rows_hold totals_hold is_codeword test_refusal check_places_of carried encode_refusal extract_refusal blank no_marks no_data
other-orders = (refl, refl, refl, refl, refl, refl, refl)

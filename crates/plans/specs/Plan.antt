-- The plans. Row checks and weights are computed from the locations.
use Rattle.std.specs.Prelude.{ℕ, pred, ◌+◌, ◌*◌, ◌/◌, ◌%◌, ◌^◌, Bool, not, ltb, length, take, drop, get_or, replicate}
use mathlib.Core.List.{List, [], ◌∷◌, ◌++◌, map, flat_map}
use Rattle.field.specs.Lists.{when◌then◌else◌, up_from, ◌to◌}
use Rattle.field.specs.Field.{Field, size, dot, gf2, gf16, gf32, gf64, gf256}
use Rattle.field.specs.Power.{power}
use Rattle.fills.specs.Lists.{only}
use Rattle.fills.specs.Marks.{bits_of}

-- a level's row checks, N coefficients each, and its weights, R each. Level 1 has no weights: its sums are zero in each row
pub record Level : Type 0 where
  pub checks : List (List ℕ)
  pub weights : List (List ℕ)

-- symbols are of `field`; check places are a mark word for each row
pub record Plan : Type 0 where
  pub field : Field
  pub rows : ℕ
  pub columns : ℕ
  pub levels : List Level
  pub check_places : List ℕ

-- ---- row checks and weights

-- every coefficient is 1: parity, and the plain total
unfoldable pub all_ones : ℕ → List ℕ
all_ones n = replicate n 1

-- a check for each of the n bits of a column's number, low first
unfoldable pub bit_checks : ℕ → List ℕ → List (List ℕ)
bit_checks n numbers = map (λ k. map (λ x. x / 2 ^ k % 2) numbers) (up_from 0 n)

-- the mark word of these columns
unfoldable pub word_of : List ℕ → ℕ
word_of [] = 0
word_of (c ∷ cs) = 2 ^ c + word_of cs

-- ---- plan 1: column c has location c + 1

unfoldable pub locations1 : List ℕ
locations1 = 1 to 7

unfoldable pub plan1 : Plan
plan1 = record {
  field = gf2;
  rows = 3;
  columns = 7;
  levels =
      record { checks = all_ones 7 ∷ []; weights = [] }
      ∷ record { checks = bit_checks 3 locations1; weights = all_ones 3 ∷ [] }
      ∷ [];
  check_places = replicate 2 (word_of (6 ∷ [])) ++ (word_of (2 ∷ 4 ∷ 5 ∷ 6 ∷ []) ∷ []);
}

-- ---- plans 2 and 5: a column for each element of a field F. The last has location 0, column c before it location a ^ c

unfoldable pub elements : Field → List ℕ
elements F = map (power F 2) (up_from 0 (pred (size F))) ++ (0 ∷ [])

-- the bits of the locations' powers p
unfoldable pub power_bits : Field → ℕ → List (List ℕ)
power_bits F p = bit_checks F.width (map (λ x. power F x p) (elements F))

-- the first n columns and the last
unfoldable pub front_and_last : Field → ℕ → List ℕ
front_and_last F n = up_from 0 n ++ (pred (size F) ∷ [])

unfoldable pub binary_plan : Field → Plan
binary_plan F = record {
  field = gf2;
  rows = 8;
  columns = size F;
  levels =
      record { checks = all_ones (size F) ∷ power_bits F 1; weights = [] }
      ∷ record { checks = power_bits F 3; weights = all_ones 8 ∷ [] }
      ∷ record { checks = power_bits F 5; weights = all_ones 8 ∷ [] }
      ∷ [];
  check_places = replicate 7 (word_of (front_and_last F F.width)) ++ (word_of (front_and_last F (3 * F.width)) ∷ []);
}

-- 32 columns, and 64
unfoldable pub plan2 : Plan
plan2 = binary_plan gf32

unfoldable pub plan5 : Plan
plan5 = binary_plan gf64

-- ---- plan 3: column c has location a ^ c

unfoldable pub locations3 : List ℕ
locations3 = map (power gf16 2) (0 to 14)

unfoldable pub powers3 : ℕ → List ℕ
powers3 p = map (λ x. power gf16 x p) locations3

unfoldable pub plan3 : Plan
plan3 = record {
  field = gf16;
  rows = 8;
  columns = 15;
  levels =
      record { checks = map powers3 (0 to 1); weights = [] }
      ∷ record { checks = powers3 2 ∷ []; weights = all_ones 8 ∷ map (power gf16 2) (0 to 7) ∷ [] }
      ∷ record { checks = map powers3 (3 to 6); weights = all_ones 8 ∷ [] }
      ∷ [];
  check_places = replicate 6 (word_of (13 to 14)) ++ (word_of (12 to 14) ∷ word_of (8 to 14) ∷ []);
}

-- ---- plan 4: symbols are bytes; column c has location a ^ c

unfoldable pub locations4 : List ℕ
locations4 = map (power gf256 2) (0 to 23)

unfoldable pub powers4 : ℕ → List ℕ
powers4 p = map (λ x. power gf256 x p) locations4

-- a ^ (k r) for row r
unfoldable pub weights4 : ℕ → List ℕ
weights4 k = map (λ r. power gf256 2 (k * r)) (0 to 11)

unfoldable pub plan4 : Plan
plan4 = record {
  field = gf256;
  rows = 12;
  columns = 24;
  levels =
      record { checks = map powers4 (0 to 1); weights = [] }
      ∷ record { checks = map powers4 (2 to 3); weights = map weights4 (0 to 2) }
      ∷ record { checks = map powers4 (4 to 8); weights = all_ones 12 ∷ [] }
      ∷ [];
  check_places = replicate 9 (word_of (22 to 23)) ++ replicate 2 (word_of (20 to 23)) ++ (word_of (15 to 23) ∷ []);
}

-- ---- a plan by its number

-- an unknown number has the plan with nothing in it
unfoldable pub no_plan : Plan
no_plan = record { field = gf2; rows = 0; columns = 0; levels = []; check_places = [] }

-- the plans in the order of their numbers, from 1 on
abbrev pub plans : List Plan
plans = plan1 ∷ plan2 ∷ plan3 ∷ plan4 ∷ plan5 ∷ []

unfoldable pub plan_of : ℕ → Plan
plan_of p = get_or (no_plan ∷ plans) p no_plan

-- a plan has rows
unfoldable pub known : ℕ → Bool
known p = ltb 0 (plan_of p).rows

-- ---- what is read off a plan

unfoldable pub no_level : Level
no_level = record { checks = []; weights = [] }

-- level t, counted from 1
unfoldable pub level_of : Plan → ℕ → Level
level_of P t = get_or P.levels (pred t) no_level

-- the row checks of levels 1 to t
unfoldable pub checks_to : Plan → ℕ → List (List ℕ)
checks_to P t = flat_map (λ (L : Level). L.checks) (take t P.levels)

-- row r of a stripe
unfoldable pub row_at : Plan → List ℕ → ℕ → List ℕ
row_at P symbols r = take P.columns (drop (r * P.columns) symbols)

-- the marks of row r
unfoldable pub marks_at : Plan → List ℕ → ℕ → List Bool
marks_at P marks r = bits_of P.columns (get_or marks r 0)

-- the marks of all rows, one after the other
unfoldable pub marks_of : Plan → List ℕ → List Bool
marks_of P marks = flat_map (marks_at P marks) (up_from 0 P.rows)

-- the rows' sums under one check
unfoldable pub across : Plan → List ℕ → List ℕ → List ℕ
across P symbols check = map (λ r. dot P.field check (row_at P symbols r)) (up_from 0 P.rows)

-- true at a check place, row by row
unfoldable pub check_places_of : Plan → List Bool
check_places_of P = marks_of P P.check_places

-- symbols carried
unfoldable pub carried : Plan → ℕ
carried P = length (only not (check_places_of P))

-- ---- a stripe file: a head, a mark word for each row, the symbols

unfoldable pub marks_offset : ℕ
marks_offset = 8

-- a word of four bytes where that is a bit for each column, else one of eight
unfoldable pub wide_marks : Plan → Bool
wide_marks P = ltb 32 P.columns

unfoldable pub word_bytes : Plan → ℕ
word_bytes P = when wide_marks P then 8 else 4

unfoldable pub symbols_offset : Plan → ℕ
symbols_offset P = marks_offset + word_bytes P * P.rows

unfoldable pub file_length : Plan → ℕ
file_length P = symbols_offset P + P.rows * P.columns

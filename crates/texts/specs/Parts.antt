-- What the functions that print ask of their callers, and the room that they need.
use Rattle.std.specs.Prelude.{ℕ, ◌+◌, ◌*◌, ◌≤◌, ◌<◌, List, T, length}
use Rattle.plans.specs.Plan.{plan_of, known}
use Rattle.plans.specs.Rooms.{row_room}
use Rattle.plans.specs.Answers.{place_values, end_values}
use Rattle.plans.specs.Refusal.{all_below}
use Rattle.plans.specs.declared.Place.{Place}
use Rattle.plans.specs.declared.Report.{Report}
use Rattle.words.specs.Words.{word_bits}
use Rattle.words.specs.Written.{Put}
use Rattle.files.specs.Parts.{Symbols}

-- ---- rooms

-- numbers that are printed are below 100, and a symbol is a byte: it has no more than two hex digits
abbrev pub numbers : ℕ
numbers = 100

abbrev pub digit_room : ℕ
digit_room = 2

-- the most bytes of a number, of a count, of level, rows left and counts, of a Clash's place, and of all rows: 24 symbols of two digits
-- and a line feed for each of 12
abbrev pub number_room : ℕ
number_room = 2

abbrev pub count_room : ℕ
count_room = 1 + number_room

abbrev pub summary_room : ℕ
summary_room = 32

abbrev pub place_room : ℕ
place_room = 22

abbrev pub grid_room : ℕ
grid_room = row_room * (24 * digit_room + 1)

-- the bytes xs were written, no more than there is room for
pub record Within (room : ℕ) (old : List ℕ) (at : ℕ) (xs : List ℕ) (next : ℕ) (new : List ℕ) : Type 0 where
  pub put : Put old at xs next new
  pub most : next ≤ at + room

-- ---- what is asked

-- a number behind k bytes
pub record Item (k n : ℕ) (out : List ℕ) (at : ℕ) : Type 0 where
  pub small : n < numbers
  pub room : at + k + number_room ≤ length out

-- a symbol has a digit, or two
pub record Digits (n : ℕ) : Type 0 where
  pub some : 0 < n
  pub few : n ≤ digit_room

-- a symbol of so many digits
pub record SymbolPut (n : ℕ) (out : List ℕ) (at : ℕ) : Type 0 where
  pub digits : Digits n
  pub room : at + n ≤ length out

-- a row of such symbols
pub record Line (n : ℕ) (row out : List ℕ) (at : ℕ) : Type 0 where
  pub digits : Digits n
  pub narrow : length row ≤ word_bits
  pub room : at + length row * n + 1 ≤ length out

-- a stripe and marks
pub record Grid (p : ℕ) (stripe marks out : List ℕ) (at : ℕ) : Type 0 where
  pub sized : Symbols p stripe marks
  pub room : at + grid_room ≤ length out

pub record Counts (counts out : List ℕ) (at : ℕ) : Type 0 where
  pub small : T (all_below numbers counts)
  pub room : at + count_room * length counts ≤ length out

-- the values of Restored and of Stuck
pub record Summary (p : ℕ) (report : Report) (out : List ℕ) (at : ℕ) : Type 0 where
  pub plan-known : T (known p)
  pub small : T (all_below numbers (end_values (plan_of p) report))
  pub room : at + summary_room ≤ length out

-- those of a Clash
pub record PlacePut (place : Place) (out : List ℕ) (at : ℕ) : Type 0 where
  pub small : T (all_below numbers (place_values place))
  pub room : at + place_room ≤ length out

-- What the functions that place and take data ask.
use Rattle.std.specs.Prelude.{ℕ, ◌*◌, ◌≤◌, ◌≡◌, List, length}
use Rattle.fills.specs.Marks.{bits_of}
use Rattle.plans.specs.Plan.{Plan, marks_of}
use Rattle.plans.specs.Tables.{unmarked}
use Rattle.plans.specs.Rooms.{column_room}

-- a row, and data or room for its unmarked columns
pub record RowFits (word : ℕ) (row ds : List ℕ) : Type 0 where
  pub narrow : length row ≤ column_room
  pub room : unmarked (bits_of (length row) word) ≤ length ds

-- mark words for the plan's rows, data or room for the unmarked places, and a stripe
pub record Fits (P : Plan) (words ds stripe : List ℕ) : Type 0 where
  pub high : length words ≡ P.rows
  pub room : length ds ≡ unmarked (marks_of P words)
  pub long : length stripe ≡ P.rows * P.columns

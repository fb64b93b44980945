-- A plan's tables, as the code has them, and what has room for a plan.
use Rattle.std.specs.Prelude.{ℕ, ◌*◌, ◌-◌, ◌≤◌, Bool, not, ◌||◌, eqb, length, take, drop, replicate}
use mathlib.Core.List.{List, ◌++◌, map, flat_map}
use Rattle.field.specs.Lists.{up_from}
use Rattle.field.specs.Field.{Field, size, dot}
use Rattle.fills.specs.Lists.{only}
use Rattle.plans.specs.Plan.{Plan, level_of, checks_to}
use Rattle.plans.specs.Rooms.{sum_room}

-- whether at level 1 more marks than sums show alone that a row is tied: its checks are power sums, or one parity
unfoldable pub tied_by_count : Plan → Bool
tied_by_count P = not (eqb (size P.field) 2) || eqb (length (checks_to P 1)) 1

-- ---- tables

-- a list with zeros behind it, n numbers in all
unfoldable pub padded : ℕ → List ℕ → List ℕ
padded n xs = xs ++ replicate (n - length xs) 0

-- the row checks of all levels, one behind the other
unfoldable pub check_table : Plan → List ℕ
check_table P = flat_map (λ row. row) (checks_to P (length P.levels))

-- the weights of a level, one total behind the other
unfoldable pub weight_table : Plan → ℕ → List ℕ
weight_table P t = flat_map (λ row. row) (level_of P t).weights

-- ---- room

-- mark words and symbols for each row of the plan
pub record Holds (P : Plan) (marks symbols : List ℕ) : Type 0 where
  pub rows : P.rows ≤ length marks
  pub size : P.rows * P.columns ≤ length symbols

-- and learned sums
pub record HoldsBench (P : Plan) (symbols marks sums : List ℕ) : Type 0 where
  pub stripe : Holds P marks symbols
  pub learned : P.rows * sum_room ≤ length sums

-- ---- places

-- how many places are not marked
abbrev pub unmarked : List Bool → ℕ
unmarked ms = length (only not ms)

-- ---- sums

-- the sums of `rows` rows under one check, which is as long as a row
unfoldable pub row_sums : Field → (rows : ℕ) → List ℕ → List ℕ → List ℕ
row_sums F rows symbols check = map (λ r. dot F check (take (length check) (drop (r * length check) symbols))) (up_from 0 rows)

-- A row's fill as its code is lent the parts of a bench.
use Rattle.std.specs.Prelude.{ℕ, ◌*◌, ◌^◌, ◌<◌, ◌≤◌, List, T, length}
use Rattle.fills.specs.Marks.{bits_of}
use Rattle.fills.specs.Fill.{Fill, fill}
use Rattle.plans.specs.Plan.{Plan, plan_of, checks_to, row_at}
use Rattle.plans.specs.Refusal.{sums_at, sums_fit}
use Rattle.plans.specs.Rooms.{sum_room}

-- the fill of row r, whose marks are `word`, by the checks of levels 1 to t and its learned sums
abbrev pub fill_at : Plan → (t : ℕ) → (sums : List ℕ) → (word : ℕ) → (symbols : List ℕ) → (r : ℕ) → Fill
fill_at P t sums word symbols r =
    fill P.field (checks_to P t) (sums_at P t sums r) (bits_of P.columns word) (row_at P symbols r)

-- row r and its marks are the plan's, its sums are symbols, and the lists have room for the plan's
pub record RowReady (p t : ℕ) (stripe learned : List ℕ) (word r : ℕ) : Type 0 where
  pub inside : r < (plan_of p).rows
  pub marks : word < 2 ^ (plan_of p).columns
  pub small : T (sums_fit (plan_of p) t learned)
  pub symbols : (plan_of p).rows * (plan_of p).columns ≤ length stripe
  pub sums : (plan_of p).rows * sum_room ≤ length learned

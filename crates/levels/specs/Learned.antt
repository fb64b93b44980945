-- Learning a level: what each part asks, answers and leaves.
use Rattle.std.specs.Prelude.{ℕ, suc, ◌*◌, ◌^◌, ◌<◌, ◌≤◌, ◌≡◌, Bool, List, length, take, drop}
use Rattle.fills.specs.Lists.{zeros}
use Rattle.fills.specs.Fill.{Fill, fill}
use Rattle.plans.specs.Plan.{plan_of, level_of, checks_to, across}
use Rattle.plans.specs.Rooms.{row_room, sum_room}
use Rattle.plans.specs.Tables.{check_table}
use Rattle.steps.specs.Steps.{Learned, failing, blocked, learned, level_fill, raise}
use Rattle.steps.specs.Parts.{Room}
use Rattle.plans.specs.declared.Bench.{Bench}
use Rattle.levels.specs.declared.Learning.{Learning}
use Rattle.levels.specs.declared.Learning.TheVariants.{Failing, Blocked, Learned as AllLearned}

-- the rows' sums under check j of all checks
unfoldable pub column_of : Bench → (j : ℕ) → List ℕ
column_of b j = let P = plan_of b.plan in across P b.symbols (take P.columns (drop (j * P.columns) (check_table P)))

-- they are filled by the weights of the next level
unfoldable pub column_fill : Bench → (lossy : List Bool) → (j : ℕ) → Fill
column_fill b ms j =
    let P = plan_of b.plan in
    let L = level_of P (suc b.level) in
    fill P.field L.weights (zeros L.weights) ms (column_of b j)

-- what learning answers
unfoldable pub learning_of : Learned → Learning
learning_of failing = Failing
learning_of blocked = Blocked
learning_of (learned cs) = AllLearned

-- what learning answers, and the sums afterwards where all are learned
pub record Learns (b : Bench) (r : Learning) (after : List ℕ) : Type 0 where
  pub answer : r ≡ learning_of (level_fill b)
  pub sums : (cs : List (List ℕ)) → level_fill b ≡ learned cs → after ≡ (raise b cs).sums

-- ---- what is asked

-- a word's bit and a mark word for each row
pub record LossyReady (rows : ℕ) (marks : List ℕ) : Type 0 where
  pub few : rows ≤ row_room
  pub words : rows ≤ length marks

-- one check's sums, a place for each row's among the learned
pub record KeepReady (at : ℕ) (column learned : List ℕ) : Type 0 where
  pub place : at < sum_room
  pub sums : length column * sum_room ≤ length learned

-- check j of the next level, rows as they are lossy, a place for each row's sum
pub record ColumnReady (b : Bench) (lossy j : ℕ) (column : List ℕ) : Type 0 where
  pub level : b.level < length (plan_of b.plan).levels
  pub check : j < length (checks_to (plan_of b.plan) (suc b.level))
  pub rows : lossy < 2 ^ (plan_of b.plan).rows
  pub places : length column ≡ (plan_of b.plan).rows

-- the same, and room for the plan's symbols
pub record ColumnLent (b : Bench) (lossy j : ℕ) (column : List ℕ) : Type 0 where
  pub symbols : (plan_of b.plan).rows * (plan_of b.plan).columns ≤ length b.symbols
  pub ready : ColumnReady b lossy j column

-- a level below the last, and lists with room for the plan
pub record LearnReady (b : Bench) : Type 0 where
  pub level : b.level < length (plan_of b.plan).levels
  pub room : Room b

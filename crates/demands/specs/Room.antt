-- Room: what a bench has beyond the plan's size, and its sums of levels above t, are not read by a step and do not change.
use Rattle.std.specs.Prelude.{ℕ, ◌*◌, ◌<◌, ◌≤◌, ◌≡◌, List, length, take, drop}
use Rattle.plans.specs.Plan.{plan_of, checks_to}
use Rattle.plans.specs.Refusal.{sums_at}
use Rattle.plans.specs.Rooms.{sum_room}
use Rattle.steps.specs.Steps.{row_step, level_step}
use Rattle.plans.specs.declared.Bench.{Bench}
use Rattle.demands.specs.Words.{Move, after, walk, SameStep}

-- ---- not read

-- benches that agree within the plan's size and in the sums of levels 1 to t; all else may differ
pub record SameRead (b c : Bench) : Type 0 where
  pub plan : b.plan ≡ c.plan
  pub level : b.level ≡ c.level
  pub symbols : let P = plan_of b.plan in take (P.rows * P.columns) b.symbols ≡ take (P.rows * P.columns) c.symbols
  pub marks : let P = plan_of b.plan in take P.rows b.marks ≡ take P.rows c.marks
  pub sums : let P = plan_of b.plan in (r : ℕ) → r < P.rows → sums_at P b.level b.sums r ≡ sums_at P b.level c.sums r
  pub places : length b.sums ≡ length c.sums

-- a step answers the same, and the benches agree again, at the level then reached
abbrev pub RowStepReads : Type 0
RowStepReads = (b c : Bench) (r : ℕ) → SameRead b c → SameStep SameRead (row_step b r) (row_step c r)

abbrev pub LevelStepReads : Type 0
LevelStepReads = (b c : Bench) → SameRead b c → SameStep SameRead (level_step b) (level_step c)

-- and so for any sequence of steps
abbrev pub WalkReads : Type 0
WalkReads = (ms : List Move) (b c : Bench) → SameRead b c → SameRead (walk ms b) (walk ms c)

-- ---- not changed

-- row r's places for sums
abbrev pub places_at : List ℕ → ℕ → List ℕ
places_at sums r = take sum_room (drop (r * sum_room) sums)

-- c came from b: the room beyond the plan's size, the sums learned before, and those of levels above c's are as they were
pub record RoomKept (b c : Bench) : Type 0 where
  pub plan : b.plan ≡ c.plan
  pub level : b.level ≤ c.level
  pub symbols : let P = plan_of b.plan in drop (P.rows * P.columns) c.symbols ≡ drop (P.rows * P.columns) b.symbols
  pub marks : let P = plan_of b.plan in drop P.rows c.marks ≡ drop P.rows b.marks
  pub sums : let P = plan_of b.plan in drop (P.rows * sum_room) c.sums ≡ drop (P.rows * sum_room) b.sums
  pub before : let P = plan_of b.plan in (r : ℕ) → r < P.rows → sums_at P b.level c.sums r ≡ sums_at P b.level b.sums r
  pub above : let P = plan_of b.plan in let n = length (checks_to P c.level) in
      (r : ℕ) → r < P.rows → drop n (places_at c.sums r) ≡ drop n (places_at b.sums r)

-- after any row step and any level step
abbrev pub StepsKeepRoom : Type 0
StepsKeepRoom = (b : Bench) (m : Move) → RoomKept b (after b m)

-- and so after any sequence of steps
abbrev pub WalksKeepRoom : Type 0
WalksKeepRoom = (ms : List Move) (b : Bench) → RoomKept b (walk ms b)

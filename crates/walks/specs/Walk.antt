-- The rows of a round, and what their code says of them in terms of the turns.
use Rattle.std.specs.Prelude.{ℕ, pred, ◌+◌, ◌≤◌, ◌<◌, ◌≡◌, Bool, ◌&&◌, List, ltb, length, get_or, Option, Some, None}
use Rattle.std.specs.Int.Count.{ones}
use Rattle.field.specs.Lists.{up_from}
use Rattle.fills.specs.Lists.{all}
use Rattle.fills.specs.Fill.{sums_of}
use Rattle.plans.specs.Plan.{Plan, plan_of, checks_to, row_at}
use Rattle.plans.specs.Refusal.{sums_at}
use Rattle.plans.specs.Tables.{tied_by_count}
use Rattle.steps.specs.Rounds.{clash, more, turns}
use Rattle.steps.specs.Parts.{standing_of, Ready}
use Rattle.plans.specs.declared.Bench.{Bench}
use Rattle.plans.specs.declared.Place.TheVariants.{Row}

-- every row has more marks than sums at level 1, in a plan in which this shows that it is tied
unfoldable pub over_marked : Plan → (marks : List ℕ) → Bool
over_marked P marks = tied_by_count P && all (λ r. ltb (length (checks_to P 1)) (ones (get_or marks r 0))) (up_from 0 P.rows)

-- row r has the sums that are learned for it
abbrev pub HasSums : Bench → (r : ℕ) → Type 0
HasSums b r =
    let P = plan_of b.plan in
    sums_of P.field (checks_to P b.level) (row_at P b.symbols r) ≡ sums_at P b.level b.sums r

-- every row without marks has them
abbrev pub Settled : Bench → Type 0
Settled b = (r : ℕ) → r < (plan_of b.plan).rows → get_or b.marks r 0 ≡ 0 → HasSums b r

-- the row turns of a round lead from bench b to bench c, which is settled, and to the level step's turn
pub record WalkedAll (b c : Bench) (filled : ℕ) : Type 0 where
  pub settled : Settled c
  pub turned : (n : ℕ) (restored : List ℕ) → pred b.level < length restored
      → turns ((plan_of b.plan).rows + n) (standing_of b 0 restored)
      ≡ turns n (standing_of c (plan_of b.plan).rows (more b.level filled restored))

-- they lead to a Clash in row `row`
pub record WalkedTo (b : Bench) (row : ℕ) : Type 0 where
  pub inside : row < (plan_of b.plan).rows
  pub turned : (n : ℕ) (restored : List ℕ) → pred b.level < length restored
      → turns ((plan_of b.plan).rows + n) (standing_of b 0 restored) ≡ clash (Row row b.level)

-- the one where no row's checks fail, the other at the first row whose checks do
abbrev pub WalkEnd : (b c : Bench) → (failed : Option ℕ) → (filled : ℕ) → Type 0
WalkEnd b c None filled = WalkedAll b c filled
WalkEnd b c (Some row) filled = WalkedTo b row

-- either way bench c is ready, of the plan, level and sums of bench b, and no more rows were filled than there are
pub record Walked (b c : Bench) (failed : Option ℕ) (filled : ℕ) : Type 0 where
  pub plan : c.plan ≡ b.plan
  pub level : c.level ≡ b.level
  pub sums : c.sums ≡ b.sums
  pub ready : Ready c
  pub few : filled ≤ (plan_of b.plan).rows
  pub ends : WalkEnd b c failed filled

-- what the walk asks: a bench that is ready, and above level 1 a settled one
pub record WalkReady (b : Bench) : Type 0 where
  pub ready : Ready b
  pub settled : (b.level ≡ 1 → ⊥) → Settled b

-- Where mending in one call stops: at the first Clash, at Blocked, or at Top; its turns never run out, and no step of it is refused.
use Rattle.std.specs.Prelude.{ℕ, suc, ◌<◌, ◌≤◌, ◌≡◌, ◌≢◌, List, ltb, Ok, Err}
use Rattle.field.specs.Lists.{when◌then◌else◌}
use Rattle.plans.specs.Plan.{plan_of}
use Rattle.steps.specs.Steps.{Stepped, fresh, row_step, level_step}
use Rattle.steps.specs.Rounds.{Standing, Turn, on, end, clash, turns}
use Rattle.repair.specs.Mending.{mended}
use Rattle.rounds.specs.Reports.{begun_on}
use Rattle.plans.specs.declared.Step.{Step}
use Rattle.plans.specs.declared.Step.TheVariants.{Blocked, Top, Clash}
use Rattle.plans.specs.declared.Place.TheVariants.{Row, Across}
use Rattle.demands.specs.Words.{Fit}

-- where mending begins: on a fresh bench
abbrev pub begun : ℕ → (stripe marks : List ℕ) → Standing
begun p stripe marks = begun_on (fresh p stripe marks)

-- the step whose turn it is: a row's, and behind the last row the level step
unfoldable pub next_step : ℕ → Standing → Stepped Step
next_step p m = when ltb m.turn (plan_of p).rows then row_step m.bench m.turn else level_step m.bench

-- the step whose turn it is stops the rounds: a Clash at its place, or Blocked, or Top
pub data StopsAt (p : ℕ) (m : Standing) : Turn → Type 0 where
  clash-in-row : m.turn < (plan_of p).rows → (row_step m.bench m.turn).answer ≡ Ok Clash
      → StopsAt p m (clash (Row m.turn m.bench.level))
  clash-across : (plan_of p).rows ≤ m.turn → (level_step m.bench).answer ≡ Ok Clash → StopsAt p m (clash (Across (suc m.bench.level)))
  at-blocked : (plan_of p).rows ≤ m.turn → (level_step m.bench).answer ≡ Ok Blocked → StopsAt p m (end m)
  at_top : (plan_of p).rows ≤ m.turn → (level_step m.bench).answer ≡ Ok Top → StopsAt p m (end m)

-- from m on `taken` turns go on, and the next one stops at t
pub record Stops (p : ℕ) (m : Standing) (t : Turn) : Type 0 where
  pub taken : ℕ
  pub standing : Standing
  pub goes : turns taken m ≡ on standing
  pub stops : StopsAt p standing t

abbrev pub MendingStops : Type 0
MendingStops = (p : ℕ) (stripe marks : List ℕ) → Fit p stripe marks → Stops p (begun p stripe marks) (mended p stripe marks)

-- so its turns never run out
abbrev pub TurnsSuffice : Type 0
TurnsSuffice = (p : ℕ) (stripe marks : List ℕ) → Fit p stripe marks → (m : Standing) → mended p stripe marks ≢ on m

-- no step on the way is refused
abbrev pub NoStepRefused : Type 0
NoStepRefused = (p : ℕ) (stripe marks : List ℕ) → Fit p stripe marks → (n : ℕ) (m : Standing) → turns n (begun p stripe marks) ≡ on m
    → (k : ℕ) → (next_step p m).answer ≢ Err k

-- Benches and standings by their parts, as the contracts of inner functions speak of them.
use Rattle.std.specs.Prelude.{ℕ, ◌≡◌, List}
use Rattle.plans.specs.Plan.{plan_of}
use Rattle.plans.specs.Refusal.{unasked, bench_refusal}
use Rattle.plans.specs.Tables.{HoldsBench}
use Rattle.plans.specs.declared.Bench.{Bench}
use Rattle.steps.specs.Rounds.{Standing}

-- the bench of these parts
abbrev pub bench_of : (plan level : ℕ) → (symbols marks sums : List ℕ) → Bench
bench_of plan level symbols marks sums = record { plan = plan; level = level; symbols = symbols; marks = marks; sums = sums }

abbrev pub standing_of : Bench → (turn : ℕ) → (restored : List ℕ) → Standing
standing_of b turn restored = record { bench = b; turn = turn; restored = restored }

-- a bench's lists have room for its plan's symbols, mark words and sums
abbrev pub Room : Bench → Type 0
Room b = HoldsBench (plan_of b.plan) b.symbols b.marks b.sums

-- nothing is refused of the bench, and its lists have room
pub record Ready (b : Bench) : Type 0 where
  pub fit : bench_refusal b unasked ≡ 0
  pub room : Room b

-- Rounds of steps. A round is taken turn by turn: rows 0 to R - 1, then the level step.
use Rattle.std.specs.Prelude.{ℕ, zero, suc, pred, ◌+◌, List, ltb, get_or, set, Result, Ok, Err}
use Rattle.field.specs.Lists.{when◌then◌else◌}
use Rattle.plans.specs.Plan.{plan_of}
use Rattle.steps.specs.Steps.{row_step, level_step}
use Rattle.plans.specs.declared.Bench.{Bench}
use Rattle.plans.specs.declared.Step.{Step}
use Rattle.plans.specs.declared.Step.TheVariants.{Whole, Filled, Tied, Raised, Blocked, Top, Clash}
use Rattle.plans.specs.declared.Place.{Place}
use Rattle.plans.specs.declared.Place.TheVariants.{Row, Across}

-- where the rounds stand: the bench, the row whose turn is next (R: the level step's), and the rows restored at each level
pub record Standing : Type 0 where
  pub bench : Bench
  pub turn : ℕ
  pub restored : List ℕ

-- the rounds go on, end at Blocked or Top, or stop at a Clash
pub data Turn : Type 0 where
  on : Standing → Turn
  end : Standing → Turn
  clash : Place → Turn

-- k rows more restored at level t
unfoldable pub more : (t k : ℕ) → List ℕ → List ℕ
more t k restored = set restored (pred t) (get_or restored (pred t) 0 + k)

-- the next row has its turn
abbrev pub next_row : Standing → Bench → (restored : List ℕ) → Turn
next_row m b restored = on (record { bench = b; turn = suc m.turn; restored = restored })

-- a Clash stops at the row; a row that was filled counts as restored at the level; all others leave the rows restored as they were
unfoldable pub after_row : Standing → Result Step ℕ → Bench → Turn
after_row m (Ok Clash) b = clash (Row m.turn m.bench.level)
after_row m (Ok Filled) b = next_row m b (more m.bench.level 1 m.restored)
after_row m (Ok Whole) b = next_row m b m.restored
after_row m (Ok Tied) b = next_row m b m.restored
after_row m (Ok Raised) b = next_row m b m.restored
after_row m (Ok Blocked) b = next_row m b m.restored
after_row m (Ok Top) b = next_row m b m.restored
after_row m (Err n) b = next_row m b m.restored

-- a Clash stops at the level whose totals fail; a level that was raised starts the next round; all others end the rounds
unfoldable pub after_level : Standing → Result Step ℕ → Bench → Turn
after_level m (Ok Raised) b = on (record { bench = b; turn = 0; restored = m.restored })
after_level m (Ok Clash) b = clash (Across (suc m.bench.level))
after_level m (Ok Blocked) b = end m
after_level m (Ok Top) b = end m
after_level m (Ok Whole) b = end m
after_level m (Ok Filled) b = end m
after_level m (Ok Tied) b = end m
after_level m (Err n) b = end m

unfoldable pub take_turn : Standing → Turn
take_turn m =
    let r = row_step m.bench m.turn in
    let s = level_step m.bench in
    when ltb m.turn (plan_of m.bench.plan).rows
    then after_row m r.answer r.bench
    else after_level m s.answer s.bench

unfoldable pub go_on : (Standing → Turn) → Turn → Turn
go_on rest (on m) = rest m
go_on rest (end m) = end m
go_on rest (clash place) = clash place

-- at most n turns
unfoldable pub turns : ℕ → Standing → Turn
turns zero m = on m
turns (suc n) m = go_on (turns n) (take_turn m)

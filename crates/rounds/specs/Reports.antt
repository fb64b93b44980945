-- Rounds on a bench, and the reports of how they stop.
use Rattle.std.specs.Prelude.{ℕ, suc, ◌*◌, eqb, length, replicate}
use Rattle.field.specs.Lists.{when◌then◌else◌}
use Rattle.fills.specs.Lists.{only}
use Rattle.plans.specs.Plan.{plan_of}
use Rattle.steps.specs.Steps.{lossy}
use Rattle.steps.specs.Rounds.{Standing, Turn, turns}
use Rattle.plans.specs.declared.Bench.{Bench}
use Rattle.plans.specs.declared.Report.{Report}
use Rattle.plans.specs.declared.Answer.{Answer}
use Rattle.plans.specs.declared.Answer.TheVariants.{Restored, Stuck}

-- where rounds on a bench begin: row 0 has its turn, and no row is restored
abbrev pub begun_on : Bench → Standing
begun_on b = record { bench = b; turn = 0; restored = replicate 3 0 }

-- as many rounds on it as the plan has levels
abbrev pub rounds_on : (plan : ℕ) → Bench → Turn
rounds_on p b = let P = plan_of p in turns (length P.levels * suc P.rows) (begun_on b)

-- how many rows have marks
unfoldable pub rows_left : Bench → ℕ
rows_left b = length (only (λ m. m) (lossy (plan_of b.plan) b.marks))

unfoldable pub end_report : Standing → Report
end_report m = record {
  answer = when eqb (rows_left m.bench) 0 then Restored else Stuck;
  level = m.bench.level;
  rows = m.restored;
  left = rows_left m.bench;
}

-- beside a Clash, level, rows and left are 0
unfoldable pub bare : Answer → Report
bare a = record { answer = a; level = 0; rows = replicate 3 0; left = 0 }

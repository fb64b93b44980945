-- Rounds on a bench of the lent parts: what their code says where they end.
use Rattle.std.specs.Prelude.{ℕ, ◌≡◌, Bool, not, eqb, List, replicate}
use Rattle.plans.specs.Rooms.{learned_room}
use Rattle.steps.specs.Parts.{bench_of}
use Rattle.steps.specs.Rounds.{Turn, on, end, clash}
use Rattle.rounds.specs.Reports.{end_report, bare}
use Rattle.plans.specs.declared.Bench.{Bench}
use Rattle.plans.specs.declared.Report.{Report}
use Rattle.plans.specs.declared.Answer.TheVariants.{Clash}

-- a bench at level 1, all sums zero
abbrev pub start_of : (plan : ℕ) → (symbols marks : List ℕ) → Bench
start_of plan symbols marks = bench_of plan 1 symbols marks (replicate learned_room 0)

-- what the code answers where the turns end, and the symbols and marks that it has then
abbrev pub Ended : Turn → Report → (symbols marks : List ℕ) → Type 0
Ended (on m) r symbols marks = ⊥
Ended (end m) r symbols marks = (r ≡ end_report m) × (symbols ≡ m.bench.symbols) × (marks ≡ m.bench.marks)
Ended (clash place) r symbols marks = r ≡ bare (Clash place)

-- a mark word that has marks
abbrev pub has_marks : ℕ → Bool
has_marks w = not (eqb w 0)

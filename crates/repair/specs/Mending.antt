-- Mending in one call: rounds on a bench of its own, until they stop; its report, and what it leaves.
use Rattle.std.specs.Prelude.{ℕ, List, eqb, length, take, Result, Ok, Err}
use Rattle.field.specs.Lists.{when◌then◌else◌}
use Rattle.plans.specs.Refusal.{lent_refusal}
use Rattle.steps.specs.Steps.{fresh}
use Rattle.rounds.specs.Reports.{rounds_on, end_report, bare}
use Rattle.plans.specs.declared.Report.{Report}
use Rattle.plans.specs.declared.Answer.TheVariants.{Clash as Clashing}
use Rattle.steps.specs.Rounds.{Turn, on, end, clash}

unfoldable pub mended : ℕ → List ℕ → List ℕ → Turn
mended p stripe marks = rounds_on p (fresh p stripe marks)

unfoldable pub turn_report : Turn → Report
turn_report (on m) = end_report m
turn_report (end m) = end_report m
turn_report (clash place) = bare (Clashing place)

-- what stands in the lent stripe and marks afterwards; a Clash leaves them as they were
unfoldable pub turn_stripe : Turn → List ℕ → List ℕ
turn_stripe (on m) stripe = take (length stripe) m.bench.symbols
turn_stripe (end m) stripe = take (length stripe) m.bench.symbols
turn_stripe (clash place) stripe = stripe

unfoldable pub turn_marks : Turn → List ℕ → List ℕ
turn_marks (on m) marks = take (length marks) m.bench.marks
turn_marks (end m) marks = take (length marks) m.bench.marks
turn_marks (clash place) marks = marks

-- what mending in one call answers, and what it leaves in the two lent buffers
unfoldable pub mend_report : ℕ → List ℕ → List ℕ → Result Report ℕ
mend_report p stripe marks =
    let n = lent_refusal p stripe marks in when eqb n 0 then Ok (turn_report (mended p stripe marks)) else Err n

unfoldable pub mend_stripe : ℕ → List ℕ → List ℕ → List ℕ
mend_stripe p stripe marks = when eqb (lent_refusal p stripe marks) 0 then turn_stripe (mended p stripe marks) stripe else stripe

unfoldable pub mend_marks : ℕ → List ℕ → List ℕ → List ℕ
mend_marks p stripe marks = when eqb (lent_refusal p stripe marks) 0 then turn_marks (mended p stripe marks) marks else marks

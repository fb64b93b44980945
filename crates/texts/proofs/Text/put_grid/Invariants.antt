-- What is written and the lines of what is left make it whole. Assumes nothing.
use mathlib.Core.Path.{◌≡◌}
use Rattle.plans.specs.Plan.{plan_of}
use Rattle.texts.specs.Text.{symbol_digits, grid}
use Rattle.texts.proofs.Texts.{Printing}
use Rattle.texts.proofs.Text.put_grid.Given as goal

abbrev pub invariant-loop-row : goal.invariant-loop-row
invariant-loop-row l =
    let P = plan_of l.plan in
    let start = l.initial.self in
    let left = l.row-iterator in
    (l.self.out.ghost_name ≡ start.out.ghost_name) × (left.a.size ≡ P.columns)
    × Printing (symbol_digits P) P.columns start.out.now start.at (grid P l.stripe l.marks) left.a.rest.now left.b.rest.now l.self.out.now l.self.at

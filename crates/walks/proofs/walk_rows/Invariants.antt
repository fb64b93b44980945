-- `walk_rows`: `Walking` is kept from row to row, by what the row's sums or its fill say. Within a row without marks the checks passed have
-- the sums learned. It ends behind the last row, or at the first that fails. Assumes nothing.
use Prim.Native.Nat.{ℕ, ◌+◌, ◌*◌, ◌<◌}
use mathlib.Core.Path.{◌≡◌}
use lib.ListN.{get_or}
use Rattle.fills.specs.Fill.{sums_of}
use Rattle.plans.specs.Plan.{plan_of, checks_to, row_at}
use Rattle.plans.specs.Rooms.{sum_room}
use Rattle.steps.specs.Parts.{bench_of}
use Rattle.walks.proofs.Walking.{Walking, Tested}
use Rattle.walks.proofs.walk_rows.Given as goal

abbrev pub invariant-loop-row : goal.invariant-loop-row
invariant-loop-row l =
    let b = bench_of l.plan l.level l.initial.symbols l.initial.marks l.sums in
    Tested b l.count × Walking b (bench_of l.plan l.level l.symbols l.marks l.sums) l.row l.filled

abbrev pub invariant-loop-j : goal.invariant-loop-j
invariant-loop-j l =
    (i : ℕ) → i < l.j
    → get_or (sums_of (plan_of l.plan).field (checks_to (plan_of l.plan) l.level) (row_at (plan_of l.plan) l.symbols l.row)) i 0
    ≡ get_or l.sums (l.row * sum_room + i) 0

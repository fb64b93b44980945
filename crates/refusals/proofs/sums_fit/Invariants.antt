-- Where the highest of all is below q all are; else each row that was passed fits. Assumes nothing.
use lib.ListN.{length}
use Rattle.plans.specs.Plan.{plan_of}
use Rattle.plans.specs.Rooms.{sum_room}
use Rattle.plans.proofs.Chunks.{Walk}
use Rattle.refusals.proofs.Fits.{row_sums_fit}
use Rattle.refusals.proofs.sums_fit.Given as goal

abbrev pub invariant-loop-row : goal.invariant-loop-row
invariant-loop-row l =
    let P = plan_of l.plan in
    Walk (row_sums_fit P l.level l.sums) P.rows sum_room l.sums (length l.yielded) l.row-iterator

-- The step is taken on the bench's parts. Assumes nothing.
use native.Mathlib.Omega.{arith}
use Rattle.steps.proofs.Fit.{sized-room}
use Rattle.rows.proofs.row_step.Goals as goal

pub step_row-requires : goal.step_row-requires
step_row-requires c = sized-room c.args.bench.now (record { symbols = omega arith; marks = omega arith; sums = omega arith })

-- Each word is at most the largest, or the walk stops at one above it. Assumes nothing.
use Rattle.std.proofs.Common.{rules}
use Rattle.std.proofs.iter.runs.Made.{chains}
use Prim.Native.Nat.{◌^◌}
use borrow.Author.Tests.{tests}
use lib.Dec.{ltb}
use lib.ListN.{take}
use Rattle.plans.specs.Plan.{plan_of}
use Rattle.plans.specs.Refusal.{marks_fit}
use Rattle.plans.proofs.Scan.{decided}
use Rattle.refusals.proofs.marks_fit.Goals as goal

pub returns : goal.returns
unfolding marks_fit
returns c =
    let P = plan_of c.args.plan in
    decided (λ w. ltb w (2 ^ P.columns)) 0 (take P.rows c.args.marks.now) c.all.result (search (rules, chains, tests))

-- The highest so far is none, takes the next symbol in, and is at the end the highest of all. Assumes nothing.
use native.Mathlib.Omega.{arith}
use Rattle.plans.proofs.Scan.{highest-none, highest-more, highest-all}
use Rattle.refusals.proofs.all_below.Goals as goal

pub loop-symbol-init : goal.loop-symbol-init
loop-symbol-init c = highest-none c.requires

pub loop-symbol-preserved : goal.loop-symbol-preserved
loop-symbol-preserved c = rw c.max-most.ensures (highest-more c.loop-symbol.invariant (omega arith))

pub returns : goal.returns
returns c = rw c.from.ensures (highest-all c.loop-symbol.invariant (omega arith))

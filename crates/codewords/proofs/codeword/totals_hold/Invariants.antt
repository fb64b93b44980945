-- The sums of the totals passed are zero: those to come are where all are. The total that fails answers, or the end of the walk.
use mathlib.Core.Path.{◌≡◌}
use Rattle.plans.specs.Plan.{plan_of, level_of}
use Rattle.codewords.specs.Codeword.{totals_hold}
use Rattle.codewords.proofs.Walk.{Cutting}
use Rattle.codewords.proofs.Holding.{total_holds}
use Rattle.codewords.proofs.codeword.totals_hold.Given as goal

abbrev pub invariant-loop-weights : goal.invariant-loop-weights
invariant-loop-weights l = let P = plan_of l.plan in let L = level_of P l.level in record {
  can : (goal.iterator-loop-weights).can_next l.weights-iterator;
  ends : (goal.iterator-loop-weights).is_finite l.weights-iterator;
  size : l.weights-iterator.size ≡ P.rows;
  walk : Cutting P.rows (total_holds P L l.stripe) (totals_hold P l.stripe L) l.weights-iterator.rest.now;
}

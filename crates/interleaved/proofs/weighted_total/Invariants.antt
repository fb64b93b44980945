-- The rows passed and those to come make the whole total.
use mathlib.Core.Path.{◌≡◌}
use Rattle.interleaved.specs.Interleaved.{columns}
use Rattle.interleaved.proofs.Testing.{Weighing}
use Rattle.interleaved.proofs.weighted_total.Given as goal

abbrev pub invariant-loop-weight : goal.invariant-loop-weight
invariant-loop-weight l = record {
  can : (goal.iterator-loop-weight).can_next l.weight-iterator;
  ends : (goal.iterator-loop-weight).is_finite l.weight-iterator;
  size : l.weight-iterator.b.size ≡ columns;
  begun : Weighing l.check l.weights l.stripe l.weight-iterator.a.rest.now l.weight-iterator.b.rest.now l.total;
}

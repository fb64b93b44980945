-- The checks passed give 0: those to come give 0 where all do. The check that fails answers, or the end of the walk.
use mathlib.Core.Path.{◌≡◌}
use lib.ListN.{length}
use Rattle.field.specs.Ours.{field_of}
use Rattle.codewords.proofs.Walk.{Cutting}
use Rattle.codewords.proofs.Holding.{gives0, all_give0}
use Rattle.codewords.proofs.codeword.vanishes.Given as goal

abbrev pub invariant-loop-check : goal.invariant-loop-check
invariant-loop-check l = record {
  can : (goal.iterator-loop-check).can_next l.check-iterator;
  ends : (goal.iterator-loop-check).is_finite l.check-iterator;
  size : l.check-iterator.size ≡ length l.v;
  walk : Cutting (length l.v) (gives0 (field_of l.q) l.v) (all_give0 (field_of l.q) l.checks l.v) l.check-iterator.rest.now;
}

-- From turn to turn the buffer keeps its length; the tries left fall. Assumes nothing.
use Rattle.std.proofs.Common.{length, ◌≡◌}
use Rattle.mend.proofs.streams.read_some.Given as goal

abbrev pub invariant-loop-patience : goal.invariant-loop-patience
invariant-loop-patience g l = length l.buf ≡ length l.fn.buf

abbrev pub decreases-loop-patience : goal.decreases-loop-patience
decreases-loop-patience g l = l.patience.tries

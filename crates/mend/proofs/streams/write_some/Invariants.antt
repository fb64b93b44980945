-- The tries left fall. Assumes nothing.
use Rattle.mend.proofs.streams.write_some.Given as goal

abbrev pub decreases-loop-patience : goal.decreases-loop-patience
decreases-loop-patience g l = l.patience.tries

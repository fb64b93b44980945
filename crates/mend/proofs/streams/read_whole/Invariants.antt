-- No more is read than there is room for, and the buffer keeps its length; the room left falls. Assumes nothing.
use Rattle.std.proofs.Common.{length, ◌-◌, ◌≤◌, ◌≡◌}
use Rattle.mend.proofs.streams.read_whole.Given as goal

abbrev pub invariant-loop-size : goal.invariant-loop-size
invariant-loop-size g l = (l.size ≤ length l.buf) × (length l.buf ≡ length l.fn.buf)

abbrev pub decreases-loop-size : goal.decreases-loop-size
decreases-loop-size g l = length l.buf - l.size

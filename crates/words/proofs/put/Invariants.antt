-- After i turns the first i bytes are copied. Assumes nothing.
use Rattle.words.proofs.Writing.{Writing}
use Rattle.words.proofs.put.Given as goal

abbrev pub invariant-loop-i : goal.invariant-loop-i
invariant-loop-i l = Writing l.initial.out l.at l.bytes l.i l.out

-- The bits from i on are gathered. Assumes nothing.
use Rattle.equations.proofs.Wording.{Gathered}
use Rattle.equations.proofs.word_of.Given as goal

abbrev pub invariant-loop-i : goal.invariant-loop-i
invariant-loop-i g l = Gathered (goal.F-post g l.is_set) l.bits l.i l.word

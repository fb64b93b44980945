-- Bit by bit, by the lemmas of Wording. Assumes nothing.
use native.Mathlib.Omega.{arith}
use Rattle.equations.proofs.Wording.{gathered-turn, gathered-end}
use Rattle.equations.proofs.word_of.Goals as goal

pub loop-i-preserved : goal.loop-i-preserved
loop-i-preserved g c = gathered-turn _ _ _ _ _ c.loop-i.invariant (omega arith) (omega arith) c.is_set.ensures

pub returns-clause-each : goal.returns-clause-each
returns-clause-each g c = gathered-end _ _ _ _ c.loop-i.invariant (omega arith)

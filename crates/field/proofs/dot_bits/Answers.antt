-- The walk begins with both vectors, and each column passed takes its product into the low bit. Assumes nothing.
use native.Mathlib.Omega.{arith}
use Rattle.field.specs.Field.{◌⊕◌}
use Rattle.field.specs.Ours.{field_of}
use Rattle.field.proofs.Summing.{summing-starts, summing-ends, bits-turn}
use Rattle.field.proofs.dot_bits.Goals as goal

pub loop-c-init : goal.loop-c-init
loop-c-init c = summing-starts _ _ _ (cc) (cc) c.requires

pub loop-c-preserved : goal.loop-c-preserved
unfolding ◌⊕◌
loop-c-preserved c = bits-turn _ _ _ c.in-Some.ensures.steps.0 c.in-Some.ensures.steps.1 c.loop-c.invariant

pub returns : goal.returns
unfolding field_of
returns c = summing-ends _ _ _ (omega (arith, c.in-None.ensures.steps)) c.loop-c.invariant

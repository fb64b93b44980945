-- x times the power at 255 less the logarithm of x is a ^ 255, which is 1. Assumes nothing.
use Rattle.field.proofs.Bytes.{zero-inverse, inverse-at}
use Rattle.std.proofs.Common.{rules}
use Rattle.field.proofs.byte_inverse.Goals as goal

pub returns-then-x-eq0 : goal.returns-then-x-eq0
returns-then-x-eq0 c = zero-inverse _ c.if-x-eq0.true

pub returns : goal.returns
returns c = rw (c.powers_of_a.ensures, c.logarithms.ensures) (inverse-at c.args.x (search rules) c.if-x-eq0.false)

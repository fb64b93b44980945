-- Of two elements that are not 0 the exponents add. Assumes nothing.
use native.Mathlib.Omega.{arith}
use Rattle.field.proofs.Bytes.{zero-product, product-zero, product_at, below_order}
use Rattle.std.proofs.Common.{rules}
use Rattle.field.proofs.byte_product.Goals as goal

pub returns-then-x-eq0 : goal.returns-then-x-eq0
returns-then-x-eq0 c = zero-product _ c.args.y c.if-x-eq0.true

pub returns-then-y-eq0 : goal.returns-then-y-eq0
returns-then-y-eq0 c = product-zero c.args.x _ c.if-y-eq0.true

pub bounds-powers_of_a-i : goal.bounds-powers_of_a-i
bounds-powers_of_a-i c = omega (
  arith,
  below_order _ c.args.x c.logarithms.ensures (search rules),
  below_order _ c.args.y c.logarithms-2.ensures (search rules),
)

pub returns : goal.returns
returns c = product_at c.args.x c.args.y c.powers_of_a.ensures c.logarithms.ensures c.logarithms-2.ensures
    (search rules) (search rules) c.if-x-eq0.false c.if-y-eq0.false

-- 1 over GF(2), over GF(16) x ^ 2 · (x ^ 4 · x ^ 8), whose factors the products give. Assumes nothing.
use Rattle.field.specs.Ours.{field_of}
use Rattle.field.proofs.Table.{inverse-1, inverse-14}
use Rattle.field.proofs.Gf.inverse.Goals as goal

pub returns-in-Two : goal.returns-in-Two
unfolding field_of
returns-in-Two c = rw c.in-Two.is (inverse-1 c.args.x)

pub returns-in-Sixteen : goal.returns-in-Sixteen
unfolding field_of
returns-in-Sixteen c = rw c.in-Sixteen.is
    (inverse-14 _ _ _ _ _ _ (rw c.in-Sixteen.is at c.product-x2.ensures) (rw c.in-Sixteen.is at c.product-x4.ensures)
    (rw c.in-Sixteen.is at c.product-x8.ensures) (rw c.in-Sixteen.is at c.product.ensures) (rw c.in-Sixteen.is at c.product-in-Sixteen.ensures))

pub returns-in-Bytes : goal.returns-in-Bytes
unfolding field_of
returns-in-Bytes c = rw c.in-Bytes.is c.byte_inverse.ensures

-- Over GF(2) the product of the low bits, over GF(16) the table's entry at them. Assumes nothing.
use Rattle.field.specs.Ours.{field_of}
use Rattle.field.proofs.Table.{entry, bits-product}
use Rattle.field.proofs.Gf.product.Goals as goal

pub returns-in-Two : goal.returns-in-Two
unfolding field_of
returns-in-Two c = rw c.in-Two.is (bits-product c.args.x c.args.y)

pub returns-in-Sixteen : goal.returns-in-Sixteen
unfolding field_of
returns-in-Sixteen c = rw c.in-Sixteen.is (entry _ c.args.x c.args.y c.products.ensures)

pub returns-in-Bytes : goal.returns-in-Bytes
unfolding field_of
returns-in-Bytes c = rw c.in-Bytes.is c.byte_product.ensures

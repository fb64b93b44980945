-- The field's bits of a symbol are its product with 1. Assumes nothing.
use Rattle.field.specs.Field.{size, gf2, gf16, gf256}
use Rattle.field.specs.Ours.{field_of}
use Rattle.field.specs.declared.Gf.TheVariants.{Two, Sixteen, Bytes}
use Rattle.codewords.proofs.Totals.{plain-product}
use Rattle.codewords.proofs.codeword.weighted.Goals.{in-Two, in-Sixteen, in-Bytes}
use Rattle.codewords.proofs.codeword.weighted.Goals as goal

pub returns-after-q : goal.returns-after-q
unfolding field_of size gf2 gf16 gf256
returns-after-q c = rw c.if-weight-eq1.true (elim c.match-q.branch [
  | in-Two w ↦ rw (w.in-Two.is, w.bits-is) (plain-product Two c.args.symbol)
  | in-Sixteen w ↦ rw (w.in-Sixteen.is, w.bits-is) (plain-product Sixteen c.args.symbol)
  | in-Bytes w ↦ rw (w.in-Bytes.is, w.bits-is) (plain-product Bytes c.args.symbol)
])

-- `field::products`: the one test of the table, entry by entry, against the polynomials. Assumes nothing.
use mathlib.Core.Path.{refl}
use Rattle.field.specs.Lists.{up_from}
use Rattle.field.specs.Field.{◌⊕◌, size, double, times, mul, gf16}
use Rattle.field.specs.Ours.{products}
use Rattle.field.proofs.products.Goals as goal

pub returns : goal.returns
unfolding products up_from mul times double size gf16 ◌⊕◌
returns c = refl

-- A field's size is 2 to its width. Assumes nothing.
use mathlib.Core.Path.{refl}
use Rattle.field.specs.Field.{size, gf2, gf16, gf256}
use Rattle.field.specs.Ours.{field_of}
use Rattle.field.proofs.Gf.size.Goals as goal

pub returns-in-Two : goal.returns-in-Two
unfolding size field_of gf2
returns-in-Two c = rw c.in-Two.is refl

pub returns-in-Sixteen : goal.returns-in-Sixteen
unfolding size field_of gf16
returns-in-Sixteen c = rw c.in-Sixteen.is refl

pub returns-in-Bytes : goal.returns-in-Bytes
unfolding size field_of gf256
returns-in-Bytes c = rw c.in-Bytes.is refl

-- Our fields are fields: one computed test each, of the inverses or of the powers of a. Assumes nothing.
use mathlib.Core.Path.{◌≡◌, refl}
use Prim.Native.Nat.{pred}
use lib.Dec.{T, lit<}
use Rattle.field.specs.Field.{◌⊕◌, size, double, times, mul, squares, inverse, gf2, gf8, gf16, gf32, gf64, gf256}
use Rattle.field.specs.Lists.{when◌then◌else◌, place_from}
use Rattle.field.specs.Power.{power, orbit}
use Rattle.field.specs.Ours.{field_of}
use Rattle.field.specs.declared.Gf.{Gf}
use Rattle.field.specs.declared.Gf.TheVariants.{Two, Sixteen, Bytes}
use Rattle.field.proofs.Test.{below}
use Rattle.field.proofs.Laws.{IsField, is_field, among, powers_in, generates}

pub gf2-field : IsField gf2
unfolding ◌⊕◌ size double times mul squares inverse gf2
gf2-field = is_field gf2 refl (lit< tt) tt

pub gf8-field : IsField gf8
unfolding ◌⊕◌ size double times mul squares inverse gf8
gf8-field = is_field gf8 refl (lit< tt) tt

pub gf16-field : IsField gf16
unfolding ◌⊕◌ size double times mul squares inverse gf16
gf16-field = is_field gf16 refl (lit< tt) tt

pub gf32-field : IsField gf32
unfolding ◌⊕◌ size double times mul squares inverse gf32
gf32-field = is_field gf32 refl (lit< tt) tt

pub gf64-field : IsField gf64
unfolding ◌⊕◌ size double times mul squares inverse gf64
gf64-field = is_field gf64 refl (lit< tt) tt

-- every byte but 0 is a power of 2
pub powers-256 : T (below (pred (size gf256)) (among (powers_in gf256 2)))
unfolding when◌then◌else◌ place_from orbit ◌⊕◌ size double times mul gf256
powers-256 = tt

pub period-256 : power gf256 2 255 ≡ 1
unfolding power ◌⊕◌ size double times mul gf256
period-256 = refl

pub gf256-field : IsField gf256
unfolding size gf256
gf256-field = generates gf256 refl (lit< tt) 2 period-256 powers-256

-- whichever it is
pub our-field : (q : Gf) → IsField (field_of q)
unfolding field_of
our-field Two = gf2-field
our-field Sixteen = gf16-field
our-field Bytes = gf256-field

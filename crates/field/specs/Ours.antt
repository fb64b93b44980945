-- The fields of symbols that our code computes in, and the tables that it reads.
use Rattle.std.specs.Prelude.{ℕ, ◌/◌, ◌%◌, List, map, eqb}
use Rattle.field.specs.Lists.{when◌then◌else◌, up_from, place_from}
use Rattle.field.specs.Field.{Field, mul, gf2, gf16, gf256}
use Rattle.field.specs.Power.{orbit}
use Rattle.field.specs.declared.Gf.{Gf}
use Rattle.field.specs.declared.Gf.TheVariants.{Two, Sixteen, Bytes}

-- the field that each stands for
unfoldable pub field_of : Gf → Field
field_of Two = gf2
field_of Sixteen = gf16
field_of Bytes = gf256

-- a field by its number, which is its size; any number but 2 and 16 names GF(256)
unfoldable pub by_number : ℕ → Gf
by_number q = when eqb q 2 then Two else (when eqb q 16 then Sixteen else Bytes)

-- entry 16 x + y is x times y in GF(16)
unfoldable pub products : List ℕ
products = map (λ k. mul gf16 (k / 16) (k % 16)) (up_from 0 256)

-- the powers of a = 2 in GF(256): the first is 1, each other a times the one before it. The last is never read
unfoldable pub powers : List ℕ
powers = orbit gf256 2 1 510

-- entry x is the k below 255 with a ^ k = x; entry 0 is 0, and never used
unfoldable pub logarithms : List ℕ
logarithms = map (place_from 0 (orbit gf256 2 1 255)) (up_from 0 256)

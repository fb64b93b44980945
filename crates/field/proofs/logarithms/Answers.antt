-- `field::logarithms`: the one test of the table, entry by entry, each against the entry's place among the powers. Assumes nothing.
use mathlib.Core.Path.{refl}
use Rattle.field.specs.Lists.{when◌then◌else◌, place_from}
use Rattle.field.specs.Field.{◌⊕◌, size, double, times, mul, gf256}
use Rattle.field.specs.Power.{orbit}
use Rattle.field.proofs.Bytes.{are-logarithms}
use Rattle.field.proofs.logarithms.Goals as goal

pub returns : goal.returns
unfolding when◌then◌else◌ place_from orbit mul times double size gf256 ◌⊕◌
returns c = are-logarithms _ refl tt

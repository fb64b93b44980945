-- `field::powers_of_a`: the one test of the table, entry by entry, each against the one before it. Assumes nothing.
use mathlib.Core.Path.{refl}
use Rattle.field.specs.Field.{◌⊕◌, size, double, times, mul, gf256}
use Rattle.field.specs.Power.{orbit}
use Rattle.field.specs.Ours.{powers}
use Rattle.field.proofs.powers_of_a.Goals as goal

pub returns : goal.returns
unfolding powers orbit mul times double size gf256 ◌⊕◌
returns c = refl

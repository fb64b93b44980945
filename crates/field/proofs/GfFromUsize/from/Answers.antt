-- A number is compared with 2 and with 16. Assumes nothing.
use mathlib.Core.Path.{refl}
use borrow.Author.Tests.{ne_eqb}
use native.Mathlib.Omega.{arith}
use Rattle.field.specs.Lists.{when◌then◌else◌}
use Rattle.field.specs.Ours.{by_number}
use Rattle.field.proofs.GfFromUsize.from.Goals as goal

pub returns-in-2 : goal.returns-in-2
unfolding when◌then◌else◌ by_number
returns-in-2 c = rw c.in-2.is refl

pub returns-in-16 : goal.returns-in-16
unfolding when◌then◌else◌ by_number
returns-in-16 c = rw c.in-16.is refl

pub returns-in_default : goal.returns-in_default
unfolding when◌then◌else◌ by_number
returns-in_default c = rw (ne_eqb c.args.number 2 (omega arith), ne_eqb c.args.number 16 (omega arith)) refl

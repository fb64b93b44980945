-- The plan's levels are those from 1 on, as many as it has. Assumes nothing.
use native.Mathlib.Omega.{arith}
use Rattle.std.proofs.lemmas.Bool.Decides.{nat_tests}
use Rattle.plans.specs.Refusal.{level_fits}
use Rattle.refusals.proofs.level_fits.Goals as goal

pub returns : goal.returns
unfolding level_fits
returns c = grind (arith, nat_tests)

-- A plan is known by its rows. Assumes nothing.
use mathlib.Core.Path.{ap}
use lib.Dec.{ltb}
use Rattle.plans.specs.Plan.{known}
use Rattle.tables.proofs.is_known.Goals as goal

pub returns : goal.returns
unfolding known
returns c = ap (ltb 0) c.facts_of.ensures.rows

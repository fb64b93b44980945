-- `bare_report` is the definition. Assumes nothing.
use mathlib.Core.Path.{refl}
use Rattle.rounds.specs.Reports.{bare}
use Rattle.rounds.proofs.bare_report.Goals as goal

pub returns : goal.returns
unfolding bare
returns c = refl

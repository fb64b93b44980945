-- The answer is told by its number. Assumes nothing.
use mathlib.Core.Path.{ap, ◌∙◌}
use Rattle.plans.specs.Answers.{as_number, verdict_number}
use Rattle.shelf.proofs.shelf_is_interleaved.Goals as goal

pub returns : goal.returns
returns c = c.number.ensures ∙ ap (as_number verdict_number) c.is_interleaved.ensures

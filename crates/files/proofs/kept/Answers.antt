-- By the test of the mark: by the mark. Assumes nothing.
use mathlib.Core.Path.{sym, ◌∙◌}
use Rattle.field.specs.Lists.{when◌then◌else◌}
use Rattle.files.proofs.kept.Goals as goal

pub returns-then-is_marked : goal.returns-then-is_marked
unfolding when◌then◌else◌
returns-then-is_marked c = rw (sym c.is_marked.ensures ∙ c.if-is_marked.true)

pub returns : goal.returns
unfolding when◌then◌else◌
returns c = rw (sym c.is_marked.ensures ∙ c.if-is_marked.false)

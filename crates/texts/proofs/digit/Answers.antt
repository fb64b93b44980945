-- By the mark, and by the number of the digit. Assumes nothing.
use borrow.Author.Tests.{lt-ltb, le-ltb}
use Rattle.field.specs.Lists.{when◌then◌else◌}
use Rattle.texts.specs.Text.{hex}
use Rattle.texts.proofs.digit.Goals as goal

pub returns-then-marked : goal.returns-then-marked
unfolding when◌then◌else◌
returns-then-marked c = rw c.if-marked.true

pub returns-then-low-lt10 : goal.returns-then-low-lt10
unfolding when◌then◌else◌ hex
returns-then-low-lt10 c = rw (c.if-marked.false, lt-ltb _ _ c.if-low-lt10.true)

pub returns : goal.returns
unfolding when◌then◌else◌ hex
returns c = rw (c.if-marked.false, le-ltb _ _ c.if-low-lt10.false)

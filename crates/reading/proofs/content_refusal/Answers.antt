-- The first test that fails gives its number, those before it having passed. Assumes nothing.
use Rattle.std.proofs.Common.{rules}
use Rattle.field.specs.Lists.{when◌then◌else◌}
use Rattle.plans.specs.Answers.{refusal_number, refused_by}
use Rattle.plans.specs.Refusal.{first_failed}
use Rattle.reading.proofs.content_refusal.Goals as goal

pub returns-then-not-marks_fit : goal.returns-then-not-marks_fit
unfolding when◌then◌else◌ first_failed refusal_number refused_by
returns-then-not-marks_fit c = search rules

pub returns-then-not-symbols_fit : goal.returns-then-not-symbols_fit
unfolding when◌then◌else◌ first_failed refusal_number refused_by
returns-then-not-symbols_fit c = search rules

pub returns-then-not-is_blank : goal.returns-then-not-is_blank
unfolding when◌then◌else◌ first_failed refusal_number refused_by
returns-then-not-is_blank c = search rules

pub returns : goal.returns
unfolding when◌then◌else◌ first_failed refused_by
returns c = search rules

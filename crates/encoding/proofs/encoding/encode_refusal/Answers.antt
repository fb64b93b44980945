-- Each test stands behind those before it in the list, which hold there. Assumes nothing.
use mathlib.Core.Path.{ap}
use Rattle.std.proofs.Common.{rules}
use Rattle.field.specs.Lists.{when◌then◌else◌}
use Rattle.field.specs.Field.{size}
use Rattle.field.proofs.Ring.{size-pos}
use Rattle.plans.specs.Answers.{refusal_number, refused_by}
use Rattle.plans.specs.Refusal.{first_failed}
use Rattle.encoding.specs.Data.{encode_refusal}
use Rattle.encoding.proofs.encoding.encode_refusal.Goals as goal

pub returns-then-not-is_known : goal.returns-then-not-is_known
unfolding when◌then◌else◌ first_failed encode_refusal refusal_number refused_by
returns-then-not-is_known c = search rules

pub returns-then-not-lengths_fit : goal.returns-then-not-lengths_fit
unfolding when◌then◌else◌ first_failed encode_refusal refusal_number refused_by
returns-then-not-lengths_fit c = search rules

pub all_below-requires : goal.all_below-requires
all_below-requires c = rw c.size.ensures (size-pos _)

pub returns-then-not-all_below : goal.returns-then-not-all_below
unfolding when◌then◌else◌ first_failed encode_refusal refusal_number refused_by
returns-then-not-all_below c = let e = ap size c.facts_of.ensures.field.names in search rules

pub returns : goal.returns
unfolding when◌then◌else◌ first_failed encode_refusal refusal_number refused_by
returns c = let e = ap size c.facts_of.ensures.field.names in search rules

-- The tests in their order: an unknown plan, then a buffer of another length, then what is refused in memory. Assumes nothing.
use Rattle.std.proofs.Common.{rules}
use mathlib.Core.Path.{sym, ◌∙◌}
use Rattle.field.specs.Lists.{when◌then◌else◌}
use Rattle.files.specs.File.{write_refusal}
use Rattle.plans.specs.Answers.{refusal_number, refused_by}
use Rattle.plans.specs.Refusal.{first_failed}
use Rattle.files.proofs.Files.{room-refused, room_fits}
use Rattle.files.proofs.write_refusal.Goals as goal

pub returns-then-not-is_known : goal.returns-then-not-is_known
unfolding when◌then◌else◌ first_failed write_refusal refusal_number refused_by
returns-then-not-is_known c = search rules

pub returns-then-file-facts_of : goal.returns-then-file-facts_of
unfolding refusal_number refused_by
returns-then-file-facts_of c = let known = sym c.is_known.ensures ∙ c.if-not-is_known.false in
    sym (room-refused _ _ _ _ known (λ e. c.if-file-facts_of.true (e ∙ sym c.facts_of.ensures.file-length)))

pub returns : goal.returns
returns c = c.lent_refusal.ensures ∙ sym (room_fits _ _ _ _ (c.if-file-facts_of.false ∙ c.facts_of.ensures.file-length))

-- Each test stands behind those before it in the list, which hold there. Assumes nothing.
use Rattle.std.proofs.Common.{rules}
use mathlib.Core.Path.{sym, ◌∙◌}
use native.Mathlib.Nat.{le_of_eq}
use Rattle.field.specs.Lists.{when◌then◌else◌}
use Rattle.plans.specs.Answers.{refusal_number, refused_by}
use Rattle.plans.specs.Refusal.{first_failed, lent_refusal, lent_tests}
use Rattle.plans.proofs.Refusals.{stripe-length, marks-length}
use Rattle.refusals.proofs.lent_refusal.Goals as goal

pub marks_fit-requires : goal.marks_fit-requires
marks_fit-requires c = le_of_eq (sym (marks-length _ _ _ (sym c.lengths_fit.ensures ∙ c.if-not-lengths_fit.false)))

pub symbols_fit-requires : goal.symbols_fit-requires
symbols_fit-requires c = let e = (sym c.lengths_fit.ensures ∙ c.if-not-lengths_fit.false) in record { rows = le_of_eq (sym (marks-length _ _ _ e)); size = le_of_eq (sym (stripe-length _ _ _ e)) }

pub returns-then-not-is_known : goal.returns-then-not-is_known
unfolding when◌then◌else◌ first_failed lent_tests lent_refusal refusal_number refused_by
returns-then-not-is_known c = search rules

pub returns-then-not-lengths_fit : goal.returns-then-not-lengths_fit
unfolding when◌then◌else◌ first_failed lent_tests lent_refusal refusal_number refused_by
returns-then-not-lengths_fit c = search rules

pub returns-then-not-marks_fit : goal.returns-then-not-marks_fit
unfolding when◌then◌else◌ first_failed lent_tests lent_refusal refusal_number refused_by
returns-then-not-marks_fit c = search rules

pub returns-then-not-symbols_fit : goal.returns-then-not-symbols_fit
unfolding when◌then◌else◌ first_failed lent_tests lent_refusal refusal_number refused_by
returns-then-not-symbols_fit c = search rules

pub returns : goal.returns
unfolding when◌then◌else◌ first_failed lent_tests lent_refusal refusal_number refused_by
returns c = search rules

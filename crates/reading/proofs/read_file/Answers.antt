-- Refused, stripe and marks stay; else both are read. Assumes nothing.
use mathlib.Core.Bool.{Bool, ◌&&◌}
use mathlib.Core.Path.{◌≡◌, ap, ◌∙◌}
use mathlib.Core.List.{List}
use Prim.Native.Nat.{ℕ}
use Rattle.std.proofs.lemmas.Result.{err_from_is_err_and}
use Rattle.plans.proofs.Refusals.{accepted, refused}
use Rattle.plans.specs.Refusal.{stripe_fits, words_fit}
use Rattle.plans.specs.Plan.{plan_of}
use Rattle.files.specs.File.{plan_in, file_refusal, read_refusal, read_stripe, read_marks}
use Rattle.files.proofs.Files.{left-new, left-old, read-loading}
use Rattle.reading.proofs.read_file.Goals as goal

-- the number, as the code asks for it
asked : (file stripe marks : List ℕ) {p n : ℕ} {fit : Bool} → p ≡ plan_in file → fit ≡ (stripe_fits (plan_of p) stripe && words_fit (plan_of p) marks)
    → n ≡ file_refusal file fit → n ≡ read_refusal file stripe marks
unfolding read_refusal
asked file stripe marks plan fits e =
    e ∙ ap (file_refusal file) (fits ∙ ap (λ p. stripe_fits (plan_of p) stripe && words_fit (plan_of p) marks) plan)

pub returns-in_err-file_refusal-clause-value : goal.returns-in_err-file_refusal-clause-value
returns-in_err-file_refusal-clause-value c =
    let p = err_from_is_err_and c.from_residual.result c.from_residual.ensures.1 in
    rw (p.1, p.2) (asked _ _ _ c.plan_in-plan.ensures c.lengths_fit-lengths.ensures c.in_err-file_refusal.ensures)

pub returns-in_err-file_refusal-clause-stripe_after : goal.returns-in_err-file_refusal-clause-stripe_after
unfolding read_stripe
returns-in_err-file_refusal-clause-stripe_after c =
    left-old _ _ (refused _ (asked _ _ _ c.plan_in-plan.ensures c.lengths_fit-lengths.ensures c.in_err-file_refusal.ensures))

pub returns-in_err-file_refusal-clause-marks_after : goal.returns-in_err-file_refusal-clause-marks_after
unfolding read_marks
returns-in_err-file_refusal-clause-marks_after c =
    left-old _ _ (refused _ (asked _ _ _ c.plan_in-plan.ensures c.lengths_fit-lengths.ensures c.in_err-file_refusal.ensures))

pub load-requires : goal.load-requires
load-requires c = read-loading _ _ _ (accepted (asked _ _ _ c.plan_in-plan.ensures c.lengths_fit-lengths.ensures c.in_ok-file_refusal.ensures))

pub returns-clause-value : goal.returns-clause-value
returns-clause-value c = asked _ _ _ c.plan_in-plan.ensures c.lengths_fit-lengths.ensures c.in_ok-file_refusal.ensures

pub returns-clause-stripe_after : goal.returns-clause-stripe_after
unfolding read_stripe
returns-clause-stripe_after c =
    c.load.ensures.stripe_after ∙ left-new _ _ (accepted (asked _ _ _ c.plan_in-plan.ensures c.lengths_fit-lengths.ensures c.in_ok-file_refusal.ensures))

pub returns-clause-marks_after : goal.returns-clause-marks_after
unfolding read_marks
returns-clause-marks_after c =
    c.load.ensures.marks_after ∙ left-new _ _ (accepted (asked _ _ _ c.plan_in-plan.ensures c.lengths_fit-lengths.ensures c.in_ok-file_refusal.ensures))

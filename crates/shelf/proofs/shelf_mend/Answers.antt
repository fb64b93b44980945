-- By the size of the report, and by whether mending was refused. Assumes nothing.
use Rattle.std.specs.Prelude.{Ok, Err}
use mathlib.Core.Path.{refl, ◌∙◌}
use Rattle.plans.specs.Answers.{refusal_number, numbered, answered, as_number}
use Rattle.shelf.specs.Calls.{report_after}
use Rattle.shelf.proofs.Fitting.{report-fits}
use Rattle.shelf.proofs.Mending.{mends-unfit, mends-fit}
use Rattle.shelf.proofs.shelf_mend.Goals as goal

pub returns-then-report-ne-REPORT : goal.returns-then-report-ne-REPORT
returns-then-report-ne-REPORT c =
    let h = mends-unfit _ _ _ _ c.if-report-ne-REPORT.true (c.number.ensures ∙ c.unfit.ensures) in
    record { value = h.0; stripe_after = h.1.0; marks_after = h.1.1.0; report_after = h.1.1.1 }

pub report_bytes-requires : goal.report_bytes-requires
unfolding numbered
report_bytes-requires c = report-fits _ _ _ c.in-Ok.ensures.value

pub returns-in-Ok : goal.returns-in-Ok
unfolding numbered answered as_number report_after
returns-in-Ok c =
    let e = c.in-Ok.ensures in
    let written = c.copy_from_slice.ensures.after ∙ c.report_bytes.ensures in
    let h = mends-fit _ _ _ _ c.if-report-ne-REPORT.false (Ok c.in-Ok.mended) e.value c.number-in-Ok.ensures e.stripe_after e.marks_after written in
    record { value = h.0; stripe_after = h.1.0; marks_after = h.1.1.0; report_after = h.1.1.1 }

pub returns-in-Err : goal.returns-in-Err
unfolding numbered answered as_number report_after
returns-in-Err c =
    let e = c.in-Err.ensures in
    let number = refusal_number c.in-Err.refusal in
    let h = mends-fit _ _ _ _ c.if-report-ne-REPORT.false (Err number) e.value c.number-in-Err.ensures e.stripe_after e.marks_after refl in
    record { value = h.0; stripe_after = h.1.0; marks_after = h.1.1.0; report_after = h.1.1.1 }

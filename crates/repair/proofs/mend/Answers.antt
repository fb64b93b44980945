-- `mend`: a refusal, and rows that are all tied, leave what was lent as it was; else the rounds on arrays of its own end, a Clash leaves it too,
-- and all other ends are written back. Assumes nothing.
use Rattle.std.proofs.Common.{rules}
use mathlib.Core.Path.{sym}
use Rattle.plans.proofs.Refusals.{handed-on}
use Rattle.plans.specs.Rooms.{row_room, symbol_room}
use Rattle.plans.proofs.Padded.{copied-over}
use Rattle.repair.proofs.Ending.{mends-refused, words-there, stripe-few, words-few, mends-over, start-ready, mends-clash, mends-end}
use Rattle.repair.proofs.mend.Goals as goal

pub returns-in_err-lent_refusal : goal.returns-in_err-lent_refusal
returns-in_err-lent_refusal c =
    let m = mends-refused _ _ _ _ _ c.in_err-lent_refusal.ensures (handed-on _ _ c.from_residual.ensures.1) in
    record { value = m.0; stripe_after = m.1.0; marks_after = m.1.1 }

pub over_marked-requires : goal.over_marked-requires
over_marked-requires c = words-there _ _ _ c.in_ok-lent_refusal.ensures

pub end_report-requires : goal.end_report-requires
end_report-requires c = words-there _ _ _ c.in_ok-lent_refusal.ensures

pub returns-then-over_marked : goal.returns-then-over_marked
returns-then-over_marked c =
    let m = mends-over _ _ _ c.in_ok-lent_refusal.ensures (sym c.if-over_marked.ensures) _ c.end_report.ensures in
    record { value = m.0; stripe_after = m.1.0; marks_after = m.1.1 }

pub slice_bounds-symbols-end : goal.slice_bounds-symbols-end
slice_bounds-symbols-end c =
    let fits = stripe-few _ _ _ c.in_ok-lent_refusal.ensures in search rules

pub slice_bounds-copy_from_slice-end : goal.slice_bounds-copy_from_slice-end
slice_bounds-copy_from_slice-end c =
    let fits = stripe-few _ _ _ c.in_ok-lent_refusal.ensures in search rules

pub copy_from_slice-requires : goal.copy_from_slice-requires
copy_from_slice-requires c =
    let fits = stripe-few _ _ _ c.in_ok-lent_refusal.ensures in search rules

pub slice_bounds-words-end : goal.slice_bounds-words-end
slice_bounds-words-end c =
    let fits = words-few _ _ _ c.in_ok-lent_refusal.ensures in search rules

pub slice_bounds-copy_from_slice-end-2 : goal.slice_bounds-copy_from_slice-end-2
slice_bounds-copy_from_slice-end-2 c =
    let fits = words-few _ _ _ c.in_ok-lent_refusal.ensures in search rules

pub copy_from_slice-requires-2 : goal.copy_from_slice-requires-2
copy_from_slice-requires-2 c =
    let fits = words-few _ _ _ c.in_ok-lent_refusal.ensures in search rules

pub rounds-report-requires : goal.rounds-report-requires
rounds-report-requires c =
    start-ready _ _ _ c.in_ok-lent_refusal.ensures (copied-over symbol_room _ c.copy_from_slice.ensures.after) (copied-over row_room _ c.copy_from_slice-2.ensures.after)

pub returns-in-Clash : goal.returns-in-Clash
returns-in-Clash c =
    let m = mends-clash _ _ _ c.in_ok-lent_refusal.ensures (copied-over symbol_room _ c.copy_from_slice.ensures.after) (copied-over row_room _ c.copy_from_slice-2.ensures.after)
    _ _ _ c.rounds-report.ensures c.in-Clash.is in
    record { value = m.0; stripe_after = m.1.0; marks_after = m.1.1 }

pub slice_bounds-copy_from_slice-end-3 : goal.slice_bounds-copy_from_slice-end-3
slice_bounds-copy_from_slice-end-3 c =
    let fits = stripe-few _ _ _ c.in_ok-lent_refusal.ensures in search rules

pub slice_bounds-copy_from_slice-end-4 : goal.slice_bounds-copy_from_slice-end-4
slice_bounds-copy_from_slice-end-4 c =
    let fits = words-few _ _ _ c.in_ok-lent_refusal.ensures in search rules

pub returns : goal.returns
returns c =
    let m = mends-end _ _ _ c.in_ok-lent_refusal.ensures (copied-over symbol_room _ c.copy_from_slice.ensures.after) (copied-over row_room _ c.copy_from_slice-2.ensures.after)
    _ _ _ c.rounds-report.ensures c.in_default.not-Clash c.copy_from_slice-3.ensures.after c.copy_from_slice-4.ensures.after in
    record { value = m.0; stripe_after = m.1.0; marks_after = m.1.1 }

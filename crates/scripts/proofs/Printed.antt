-- What is printed does not look under marks. Assumes nothing.
use mathlib.Core.Path.{◌≡◌, refl, ap, ap₂, ◌∙◌}
use mathlib.Core.Logic.{inl, inr}
use mathlib.Core.List.{List, ◌++◌, flat_map}
use Prim.Native.Nat.{ℕ}
use native.Mathlib.Omega.{arith}
use lib.Dec.{eqb}
use Rattle.std.specs.Prelude.{Result}
use Rattle.field.specs.Lists.{when◌then◌else◌}
use Rattle.fills.proofs.Beside.{beside-alike}
use Rattle.plans.specs.Plan.{plan_of, row_at, marks_at}
use Rattle.plans.specs.Refusal.{unasked}
use Rattle.plans.specs.declared.Report.{Report}
use Rattle.repair.specs.Mending.{mend_stripe, mend_marks}
use Rattle.files.specs.File.{plan_in, marks_in, symbols_in, file_refusal}
use Rattle.texts.specs.Text.{item, line_end, symbol_digits, symbol_text, shown, grid, told_text, mend_text, printed}
use Rattle.demands.specs.Silence.{SameUnmarked}
use Rattle.demands.proofs.Blind.{flat-same, rows_alike}
use Rattle.demands.proofs.Silence.{silent-mending}
use Rattle.demands.proofs.Reading.{plan-same, marks-in-same, symbols-alike, refusal-same}
use Rattle.scripts.specs.Printed.{SilentText, SilentPrinting}

grid-same : (p : ℕ) (marks s t : List ℕ) → SameUnmarked p marks s t → grid (plan_of p) s marks ≡ grid (plan_of p) t marks
unfolding when◌then◌else◌ grid symbol_text shown
grid-same p marks s t h =
    let Q = plan_of p in
    let n = symbol_digits Q in
    flat-same (λ r. shown n (marks_at Q marks r) (row_at Q s r) ++ line_end) (λ r. shown n (marks_at Q marks r) (row_at Q t r) ++ line_end) 0 Q.rows
    (λ r l.
    ap (λ z. flat_map (λ l. l) z ++ line_end)
    (beside-alike (symbol_text n) (λ x y. refl) (marks_at Q marks r) (row_at Q s r) (row_at Q t r) (rows_alike p marks s t h r (omega arith))))

pub silent-text : SilentText
unfolding mend_text
silent-text p marks s t h =
    let m = silent-mending p marks s t h in
    ap₂ (λ (r : Result Report ℕ) rows. item "plan " p ++ told_text (plan_of p) r rows) m.report
    (grid-same p (mend_marks p s marks) (mend_stripe p s marks) (mend_stripe p t marks) m.stripes
    ∙ ap (grid (plan_of p) (mend_stripe p t marks)) m.marks-left)

pub silent-printing : SilentPrinting
unfolding printed
silent-printing f g h ne ne' =
    let text : mend_text (plan_in f) (symbols_in f) (marks_in f) ≡ mend_text (plan_in g) (symbols_in g) (marks_in g) =
    silent-text (plan_in f) (marks_in f) (symbols_in f) (symbols_in g) (symbols-alike f g h)
    ∙ (λ i. mend_text (plan-same f g h i) (symbols_in g) (marks-in-same f g h i)) in
    let same-refusal : file_refusal f unasked ≡ file_refusal g unasked =
    elim (refusal-same f g h {a = unasked} refl) [ inl e ↦ e | inr (inl e) ↦ absurd (ne' e.1) | inr (inr e) ↦ absurd (ne e.0) ] in
    (λ i. when eqb (same-refusal i) 0 then text i else item "refused " (same-refusal i) ++ line_end)

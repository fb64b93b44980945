-- How many rows have marks: the mark words that are not 0, counted; and the report of it. Assumes nothing.
use mathlib.Core.Path.{◌≡◌, refl, sym, ap, ◌∙◌}
use mathlib.Core.Bool.{Bool, true, false}
use mathlib.Core.List.{List, [], ◌∷◌, map}
use Prim.Native.Nat.{ℕ, zero, suc, ◌≤◌}
use native.Mathlib.Nat.{le_of_suc-le-suc, not-suc-le-zero}
use borrow.Author.Tests.{eq-eqb, ne_eqb}
use lib.ListN.{length, take, get_or}
use Rattle.std.specs.Prelude.{cond}
use Rattle.std.specs.List.{filter}
use Rattle.field.specs.Lists.{when◌then◌else◌, up_from}
use Rattle.field.proofs.Lists.{map-up-suc}
use Rattle.fills.specs.Lists.{only}
use Rattle.plans.specs.Plan.{plan_of}
use Rattle.steps.specs.Steps.{lossy}
use Rattle.steps.specs.Parts.{bench_of, standing_of}
use Rattle.rounds.specs.Ended.{has_marks}
use Rattle.rounds.specs.Reports.{rows_left, end_report}
use Rattle.plans.specs.declared.Answer.{Answer}
use Rattle.plans.specs.declared.Answer.TheVariants.{Restored, Stuck}

one-more : (b : Bool) (w : ℕ) (ws : List ℕ) (bs : List Bool) → length ws ≡ length (only (λ m. m) bs)
    → length (cond b (w ∷ ws) ws) ≡ length (only (λ m. m) (b ∷ bs))
unfolding only when◌then◌else◌
one-more true w ws bs e = ap suc e
one-more false w ws bs e = e

-- among the first words those that have marks are as many as the rows that have them
pub left-counted : (ws : List ℕ) (rows : ℕ) → rows ≤ length ws
    → length (filter has_marks (take rows ws)) ≡ length (only (λ m. m) (map (λ r. has_marks (get_or ws r 0)) (up_from 0 rows)))
unfolding up_from only
left-counted ws zero h = refl
left-counted [] (suc rows) h = absurd (not-suc-le-zero h)
left-counted (w ∷ ws) (suc rows) h =
    one-more (has_marks w) w (filter has_marks (take rows ws)) (map (λ r. has_marks (get_or (w ∷ ws) r 0)) (up_from 1 rows))
    (left-counted ws rows (le_of_suc-le-suc h)
    ∙ ap (λ l. length (only (λ m. m) l)) (sym (map-up-suc (λ r. has_marks (get_or (w ∷ ws) r 0)) 0 rows)))

-- ---- the report of so many rows left

module _ (p t : ℕ) (marks restored : List ℕ) (room : (plan_of p).rows ≤ length marks) {rows left : ℕ} (high : rows ≡ (plan_of p).rows)
    (e : left ≡ length (filter has_marks (take rows marks))) where
  abbrev Reported : Answer → Type 0
  Reported a = record { answer = a; level = t; rows = restored; left = left } ≡ end_report (standing_of (bench_of p t [] marks []) 0 restored)

  counted : left ≡ length (only (λ m. m) (map (λ r. has_marks (get_or marks r 0)) (up_from 0 (plan_of p).rows)))
  counted = e ∙ ap (λ n. length (filter has_marks (take n marks))) high ∙ left-counted marks (plan_of p).rows room

  pub report-restored : left ≡ 0 → Reported Restored
  unfolding end_report rows_left lossy when◌then◌else◌
  report-restored z = rw (← counted, eq-eqb left 0 z)

  pub report-stuck : (left ≡ 0 → ⊥) → Reported Stuck
  unfolding end_report rows_left lossy when◌then◌else◌
  report-stuck ne = rw (← counted, ne_eqb left 0 ne)

-- What mending in one call leaves in the lent stripe and marks: each row is filled whole or left. Assumes nothing.
use mathlib.Core.Path.{refl, sym, ap, ◌∙◌, subst₂, ◌≡◌, subst}
use mathlib.Core.Logic.{inl, inr}
use mathlib.Core.List.{List}
use mathlib.Core.Bool.{true}
use Prim.Native.Nat.{ℕ, ◌<◌, ◌*◌}
use native.Mathlib.Nat.{eq-zero-or-pos}
use native.Mathlib.Omega.{arith}
use lib.ListN.{length, take, get_or-eq_default, length-take, get_or}
use lib.Seq.{get_or-take}
use lib.Dec.{ltb, ltb→lt, nltb→le}
use Rattle.plans.specs.Plan.{plan_of, marks_of}
use Rattle.plans.specs.Refusal.{lent_refusal}
use Rattle.steps.specs.Rounds.{Standing, Turn, on, end, clash}
use Rattle.steps.specs.Steps.{fresh}
use Rattle.repair.specs.Mending.{mended, turn_stripe, turn_marks, mend_stripe, mend_marks}
use Rattle.steps.proofs.Fit.{lent-fit, fresh-mark, fresh-row}
use Rattle.demands.specs.Words.{Fit, rounds}
use Rattle.demands.specs.Silence.{MarkedKeep}
use Rattle.demands.specs.Leaving.{RowLeft, IsLeft, MendingLeaves, ClashLeaves}
use Rattle.demands.proofs.Rounds.{Ended, Out, mended-out}
use Rattle.demands.proofs.Left.{row-left, long-left, words_left, unmarked-left, stripe-turn, marks-turn, clash-turn}
use Rattle.demands.proofs.Kept.{left_at, kept-walk, Kept}
use Rattle.demands.proofs.Refused.{mend-refused}
use Rattle.fills.proofs.Tests.{either}

-- what holds of the buffers as they were lent, and of those that the rounds leave, holds of what mending leaves
pub mending-by : (p : ℕ) (stripe marks : List ℕ) (S : (stripe marks : List ℕ) → Type 0) → S stripe marks
    → ((fit : Fit p stripe marks) (m : Standing) → Ended p stripe marks fit m
    → S (take (length stripe) m.bench.symbols) (take (length marks) m.bench.marks))
    → S (mend_stripe p stripe marks) (mend_marks p stripe marks)
unfolding turn_stripe turn_marks
mending-by p stripe marks S lent ended =
    elim (eq-zero-or-pos (lent_refusal p stripe marks)) [
      | inl fit ↦
          subst₂ S (sym (stripe-turn p stripe marks fit)) (sym (marks-turn p stripe marks fit))
          (go fit (mended p stripe marks) (mended-out p stripe marks fit))
      | inr pos ↦
          let f = mend-refused p stripe marks (λ e. omega (arith, e)) in subst₂ S (sym f.stripe-stays) (sym f.marks_stay) lent
    ]
  where
    go : (fit : Fit p stripe marks) (t : Turn) → Out p stripe marks fit t → S (turn_stripe t stripe) (turn_marks t marks)
    go fit (on m) h = absurd h
    go fit (end m) h = ended fit m h
    go fit (clash place) h = lent

module _ (p : ℕ) (stripe marks : List ℕ) (fit : Fit p stripe marks) where
  ended-kept : (m : Standing) → Ended p stripe marks fit m → Kept p (fresh p stripe marks) m.bench
  unfolding fresh
  ended-kept m h =
      subst (Kept p (fresh p stripe marks)) h.leads
      (kept-walk (rounds (plan_of p) (length (plan_of p).levels)) p (fresh p stripe marks) refl)

  ended-left : (m : Standing) → Ended p stripe marks fit m
      → IsLeft p stripe marks (take (length stripe) m.bench.symbols) (take (length marks) m.bench.marks)
  ended-left m e = record {
    long = long-left p stripe marks fit m e;
    words = words_left p stripe marks fit m e;
    unmarked = unmarked-left p stripe marks fit m e;
    rows = row;
  }
    where
      row : (r : ℕ) → r < (plan_of p).rows
          → RowLeft (plan_of p) stripe marks (take (length stripe) m.bench.symbols) (take (length marks) m.bench.marks) r
      row r l =
          let lent = lent-fit p stripe marks fit in
          let word = get_or-take (length marks) m.bench.marks r 0 (omega (arith, lent.words)) in
          elim ((ended-kept m e).rows r l) [
            | inl z ↦ inl (word ∙ z)
            | inr k ↦ inr (
              word ∙ k.0 ∙ fresh-mark p stripe marks lent r l,
              row-left p stripe marks fit m e r l ∙ k.1 ∙ fresh-row p stripe marks lent r l,
            )
          ]

  ended-keep : (m : Standing) → Ended p stripe marks fit m → (i : ℕ)
      → get_or (marks_of (plan_of p) (take (length marks) m.bench.marks)) i true ≡ true
      → get_or (take (length stripe) m.bench.symbols) i 0 ≡ get_or stripe i 0
  ended-keep m h i e =
      elim (either (ltb i (length stripe))) [
        | inl t ↦
            let l : i < (plan_of p).rows * (plan_of p).columns = omega (arith, ltb→lt i (length stripe) t, (lent-fit p stripe marks fit).long) in
            left_at (plan_of p) stripe marks _ _ (ended-left m h).rows i l e
        | inr t ↦
            let g = nltb→le i (length stripe) t in
            get_or-eq_default (take (length stripe) m.bench.symbols) 0 {n = i} (simp length-take (omega arith))
            ∙ sym (get_or-eq_default stripe 0 {n = i} g)
      ]

pub mending-leaves : MendingLeaves
mending-leaves p stripe marks =
    mending-by p stripe marks (IsLeft p stripe marks)
    record { long = refl; words = refl; unmarked = λ i e. refl; rows = λ r l. inr (refl, refl) } (ended-left p stripe marks)

pub marked-keep : MarkedKeep
marked-keep p stripe marks =
    mending-by p stripe marks
    (λ Y M. (i : ℕ) → get_or (marks_of (plan_of p) M) i true ≡ true → get_or Y i 0 ≡ get_or stripe i 0) (λ i e. refl) (ended-keep p stripe marks)

pub clash-leaves : ClashLeaves
unfolding turn_stripe turn_marks
clash-leaves p stripe marks place e =
    let c = clash-turn p stripe marks place e in (
      stripe-turn p stripe marks c.0 ∙ ap (λ t. turn_stripe t stripe) c.1,
      marks-turn p stripe marks c.0 ∙ ap (λ t. turn_marks t marks) c.1,
    )

-- The second demand: what Restored, Clash and Stuck mean. Assumes nothing.
use mathlib.Core.Path.{◌≡◌, refl, sym, ap, ◌∙◌, subst}
use mathlib.Core.Logic.{◌⊎◌, inl, inr}
use mathlib.Core.Bool.{Bool, true, false}
use mathlib.Core.List.{List}
use Prim.Native.Nat.{ℕ, ◌<◌, ◌≤◌}
use native.Mathlib.Nat.{zero-add}
use native.Mathlib.Omega.{arith}
use borrow.Author.Tests.{eqb-true}
use lib.Dec.{T, eqb}
use lib.ListN.{length, get_or}
use Rattle.std.specs.Prelude.{Ok}
use Rattle.field.specs.Lists.{when◌then◌else◌}
use Rattle.plans.specs.Answers.{answered}
use Rattle.plans.specs.Plan.{plan_of}
use Rattle.steps.specs.Steps.{lossy, blocked, learned}
use Rattle.steps.specs.Rounds.{Turn, on, end, clash}
use Rattle.repair.specs.Mending.{mended, turn_report, turn_stripe, turn_marks, mend_report, mend_stripe}
use Rattle.rounds.specs.Reports.{rows_left, end_report, bare}
use Rattle.plans.specs.declared.Bench.{Bench}
use Rattle.plans.specs.declared.Answer.TheVariants.{Restored, Stuck}
use Rattle.steps.proofs.Fit.{if-true}
use Rattle.demands.specs.Words.{Codeword, Agree, Fit}
use Rattle.demands.specs.Second.{IsRestored, RestoredMeans, ClashMeans, StuckMeans}
use Rattle.demands.proofs.Held.{Held, row_tied, level_tied, word_sums, held-level, level-finds}
use Rattle.demands.proofs.Left.{none-lossy, agrees-left, is-restored, not-refused, answer-turn, turn-answer, stripe-turn, marks-turn, clash-turn}
use Rattle.demands.proofs.Rounds.{settled-tied, Out, mended-out}
use Rattle.demands.proofs.Leaving.{mending-by}

pub restored-means : RestoredMeans
unfolding when◌then◌else◌ turn_report end_report bare turn_stripe turn_marks
restored-means p stripe marks e =
    let fit = not-refused p stripe marks Restored e in
    go fit (mended p stripe marks) refl (mended-out p stripe marks fit) (turn-answer p stripe marks fit e)
  where
    go : (fit : Fit p stripe marks) (t : Turn) → mended p stripe marks ≡ t → Out p stripe marks fit t → (turn_report t).answer ≡ Restored
        → IsRestored p stripe marks
    go fit (on m) q h a = absurd h
    go fit (end m) q h a = by (eqb (rows_left m.bench) 0) refl a
      where
        by : (z : Bool) → eqb (rows_left m.bench) 0 ≡ z → (when z then Restored else Stuck) ≡ Restored → IsRestored p stripe marks
        by true w a =
            is-restored p stripe marks fit m h (eqb-true (rows_left m.bench) 0 w)
            (stripe-turn p stripe marks fit ∙ ap (λ t. turn_stripe t stripe) q) (marks-turn p stripe marks fit ∙ ap (λ t. turn_marks t marks) q)
        by false w a = let z : ◌≡◌ {A = ℕ} 0 1 = cc in absurd (omega arith)
    go fit (clash place) q h a = let z : ◌≡◌ {A = ℕ} 0 1 = cc in absurd (omega arith)

pub clash-means : ClashMeans
clash-means p stripe marks place e =
    let c = clash-turn p stripe marks place e in subst (Out p stripe marks c.0) c.1 (mended-out p stripe marks c.0)

pub stuck-means : StuckMeans
stuck-means p stripe marks e X word agree =
    mending-by p stripe marks (λ Y M. Agree p M X Y) agree (λ fit m h. agrees-left p stripe marks fit m h X word agree)

-- ---- how Restored is shown

blocked-tied : (D : Bool) (xs : List (List ℕ)) → (when D then blocked else learned xs) ≡ blocked → T D
unfolding when◌then◌else◌
blocked-tied true xs e = tt
blocked-tied false xs e = let z : ◌≡◌ {A = ℕ} 0 1 = cc in absurd (omega arith)

-- where no marks M are left that tie each marked row at level t, and tie the rows at level t + 1 unless t is the last,
-- a codeword that agrees is restored to itself
pub restores : (p : ℕ) (X stripe marks : List ℕ) → Codeword p X → Fit p stripe marks → Agree p marks X stripe
    → ((t : ℕ) (M : List ℕ) → 0 < t → t ≤ length (plan_of p).levels
    → ((r : ℕ) → r < (plan_of p).rows → (get_or M r 0 ≡ 0) ⊎ ((get_or M r 0 ≡ get_or marks r 0) × T (row_tied p t M r)))
    → (t < length (plan_of p).levels → T (level_tied p t M)) → (r : ℕ) → r < (plan_of p).rows → get_or M r 0 ≡ 0)
    → (answered (mend_report p stripe marks) ≡ Ok Restored) × (mend_stripe p stripe marks ≡ X)
unfolding turn_report end_report turn_stripe turn_marks rows_left lossy
restores p X stripe marks word fit agree none-tied = go (mended p stripe marks) refl (mended-out p stripe marks fit)
  where
    go : (t : Turn) → mended p stripe marks ≡ t → Out p stripe marks fit t
        → (answered (mend_report p stripe marks) ≡ Ok Restored) × (mend_stripe p stripe marks ≡ X)
    go (on m) q h = absurd h
    go (clash place) q h = absurd (h X word agree)
    go (end m) q h = (
      answer-turn p stripe marks fit ∙ ap (λ t. Ok (turn_report t).answer) q
          ∙ ap Ok (if-true (eqb (rows_left b) 0) Restored Stuck (rw none_left tt)),
      sym ((is-restored p stripe marks fit m h none_left (stripe-turn p stripe marks fit ∙ ap (λ t. turn_stripe t stripe) q)
          (marks-turn p stripe marks fit ∙ ap (λ t. turn_marks t marks) q)).only X word agree),
    )
      where
        b : Bench
        b = m.bench

        rows : (r : ℕ) → r < (plan_of p).rows
            → (get_or b.marks r 0 ≡ 0) ⊎ ((get_or b.marks r 0 ≡ get_or marks r 0) × T (row_tied p b.level b.marks r))
        rows r l =
            elim (h.settled r l) [
              | inl t ↦ elim (h.reached.words r l) [ inl z ↦ inl z | inr w ↦ inr (w, settled-tied p b r t) ]
              | inr s ↦ inl s.0
            ]

        held : Held p X b
        held = h.reached.held X word agree

        clear : (r : ℕ) → r < (plan_of p).rows → get_or b.marks r 0 ≡ 0
        clear =
            none-tied b.level b.marks h.reached.sound.fit.level-pos (held-level p X b held) rows (λ low.
            blocked-tied (level_tied p b.level b.marks) (word_sums p b.level X) (sym (level-finds p X b held low) ∙ h.stopped low))

        none_left : rows_left b ≡ 0
        none_left =
            none-lossy b.marks 0 (plan_of b.plan).rows (λ r l.
            clear r (subst (λ q. r < (plan_of q).rows) h.reached.plan (subst (λ n. r < n) (zero-add (plan_of b.plan).rows) l)))

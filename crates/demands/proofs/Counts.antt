-- The published row counts suffice, and so do any d - 1 marks. Assumes nothing.
use mathlib.Core.Path.{◌≡◌, refl, sym, ap, ◌∙◌, subst}
use mathlib.Core.Logic.{◌⊎◌, inl, inr}
use mathlib.Core.Bool.{Bool, true, false}
use mathlib.Core.List.{List, [], ◌∷◌, map}
use Prim.Native.Nat.{ℕ, zero, suc, pred, ◌+◌, ◌*◌, ◌^◌, ◌<◌, ◌≤◌, zero-le}
use native.Mathlib.Nat.{eq-or-lt_of_le, not-suc-le-zero, le_of_suc-le-suc, le_refl, le_trans, mul-le-mul, suc-mul, zero-mul}
use native.Mathlib.Omega.{arith}
use borrow.Author.Tests.{leb-true}
use lib.Count.{ones}
use lib.Dec.{T, T_not, leb, leb→le, nleb→lt}
use lib.ListN.{length, take, get_or, length-map}
use lib.Seq.{ext_get_or, get_or-take, length-take-le}
use Rattle.field.specs.Lists.{when◌then◌else◌, up_from}
use Rattle.field.proofs.Lists.{length_up, get_or-map-below}
use Rattle.field.proofs.Test.{both_left, both_right}
use Rattle.fills.specs.Lists.{all, only}
use Rattle.fills.specs.Marks.{bits_of}
use Rattle.fills.proofs.Tests.{either}
use Rattle.fills.proofs.Choices.{Inside}
use Rattle.fills.proofs.Weights.{marked, marked-bits}
use Rattle.plans.specs.Plan.{Plan, known, plan_of, marks_at}
use Rattle.steps.specs.Steps.{lossy}
use Rattle.steps.proofs.Fit.{lent-fit}
use Rattle.plans.proofs.Rows.{marks-length}
use Rattle.demands.specs.Published.{counts, distance}
use Rattle.demands.specs.Words.{rows_with, Within, MeetsCounts, total}
use Rattle.demands.specs.Second.{CountsSuffice, DistanceSuffices}
use Rattle.demands.proofs.Backed.{count, heavy}
use Rattle.demands.proofs.Few.{backed, few-independent, weights-independent}
use Rattle.demands.proofs.Held.{row_tied, level_tied, LevelFree}
use Rattle.demands.proofs.Left.{lossy-none}
use Rattle.demands.proofs.Order.{lossy-inside}
use Rattle.demands.proofs.Second.{restores}

-- ---- what is left where mending ends

-- of these marks row r has none left in M, or all of them, and is tied at level t
abbrev pub RowLeft : ℕ → (marks : List ℕ) → ℕ → (M : List ℕ) → ℕ → Type 0
RowLeft p marks t M r = (get_or M r 0 ≡ 0) ⊎ ((get_or M r 0 ≡ get_or marks r 0) × T (row_tied p t M r))

-- where all rows are so, and tied together unless t is the last level, no mark is left
abbrev pub Clears : ℕ → (marks : List ℕ) → Type 0
Clears p marks = (t : ℕ) (M : List ℕ) → 0 < t → t ≤ length (plan_of p).levels → ((r : ℕ) → r < (plan_of p).rows → RowLeft p marks t M r)
    → (t < length (plan_of p).levels → T (level_tied p t M)) → (r : ℕ) → r < (plan_of p).rows → get_or M r 0 ≡ 0

-- ---- the counts

within-at : (P : Plan) (marks : List ℕ) (cs : List (ℕ × ℕ)) → Within P marks cs → (i : ℕ) → i < length cs
    → rows_with P marks (get_or cs i (0, 0)).0 ≤ (get_or cs i (0, 0)).1
within-at P marks [] w i l = absurd (not-suc-le-zero l)
within-at P marks (c ∷ cs) w zero l = w.0
within-at P marks (c ∷ cs) w (suc i) l = within-at P marks cs w.1 i (le_of_suc-le-suc l)

-- ---- marks inside marks

inside-marked : (ms ns : List Bool) → Inside ms ns → marked ms ≤ marked ns
unfolding when◌then◌else◌ only
inside-marked [] [] i = zero-le
inside-marked [] (n ∷ ns) i = absurd i
inside-marked (m ∷ ms) [] i = absurd i
inside-marked (true ∷ ms) (true ∷ ns) i = omega (arith, inside-marked ms ns i.1)
inside-marked (true ∷ ms) (false ∷ ns) i = absurd (i.0 tt)
inside-marked (false ∷ ms) (true ∷ ns) i = omega (arith, inside-marked ms ns i.1)
inside-marked (false ∷ ms) (false ∷ ns) i = inside-marked ms ns i.1

only-map : {A B : Type 0} (q : B → Bool) (f : A → B) (l : List A) → length (only q (map f l)) ≡ marked (map (λ x. q (f x)) l)
unfolding when◌then◌else◌ only
only-map q f [] = refl
only-map {B = B} q f (x ∷ l) = go (q (f x)) (only q (map f l)) (only (λ m. m) (map (λ x. q (f x)) l)) (only-map q f l)
  where
    go : (b : Bool) (ys : List B) (ms : List Bool) → length ys ≡ length ms → length (when b then f x ∷ ys else ys) ≡ length (when b then b ∷ ms else ms)
    go true ys ms e = ap suc e
    go false ys ms e = e

-- the rows with n marks or more, row by row
rows-with : (P : Plan) (marks : List ℕ) (n : ℕ) → length marks ≡ P.rows
    → rows_with P marks n ≡ marked (map (λ r. leb n (ones (get_or marks r 0))) (up_from 0 P.rows))
unfolding rows_with
rows-with P marks n e =
    ap (λ l. length (only (λ w. leb n (ones w)) l)) same ∙ only-map (λ w. leb n (ones w)) (λ r. get_or marks r 0) (up_from 0 P.rows)
  where
    count-rows : length (map (λ r. get_or marks r 0) (up_from 0 P.rows)) ≡ P.rows
    count-rows = length-map (up_from 0 P.rows) (λ r. get_or marks r 0) ∙ length_up 0 P.rows

    full : length (take P.rows marks) ≡ P.rows
    full = length-take-le P.rows marks (omega arith)

    same : take P.rows marks ≡ map (λ r. get_or marks r 0) (up_from 0 P.rows)
    same =
        ext_get_or 0 (take P.rows marks) (map (λ r. get_or marks r 0) (up_from 0 P.rows)) (full ∙ sym count-rows) (λ r l.
        let h : r < P.rows = omega (arith, full) in
        get_or-take P.rows marks r 0 h ∙ sym (get_or-map-below (λ r. get_or marks r 0) P.rows r 0 h))

-- ---- marks that meet the counts

module _ (p : ℕ) (kn : T (known p)) (marks : List ℕ) (words : length marks ≡ (plan_of p).rows)
    (mark-lt : (r : ℕ) → r < (plan_of p).rows → get_or marks r 0 < 2 ^ (plan_of p).columns) (meets : MeetsCounts p marks) where
  abbrev P : Plan
  P = plan_of p

  -- rows with few marks are not tied at level i + 1, so the tied ones are as few as the counts allow
  module _ (i : ℕ) (M : List ℕ) (rows : (r : ℕ) → r < P.rows → RowLeft p marks (suc i) M r) where
    enough : ℕ → Bool
    enough r = leb (count p i).0 (ones (get_or marks r 0))

    many : (r : ℕ) → r < P.rows → (get_or M r 0 ≡ 0) ⊎ T (enough r)
    unfolding marks_at enough
    many r h =
        elim (rows r h) [
          | inl z ↦ inl z
          | inr s ↦ elim (either (leb (count p i).0 (ones (get_or marks r 0)))) [
            | inl t ↦ inr t
            | inr t ↦
                absurd (T_not (row_tied p (suc i) M r)
                (few-independent p i (marks_at P M r) (marks-length P M r)
                (omega (
                  arith,
                  nleb→lt (count p i).0 (ones (get_or marks r 0)) t,
                  ap (λ w. marked (bits_of P.columns w)) s.0,
                  marked-bits P.columns (get_or marks r 0) (mark-lt r h),
                ))) s.1)
          ]
        ]

    few-left : suc i ≤ length P.levels → marked (lossy P M) ≤ (count p i).1
    unfolding lossy enough
    few-left l =
        le_trans
        (inside-marked (lossy P M) (map enough (up_from 0 P.rows)) (lossy-inside M enough 0 P.rows (λ r l. many r (omega arith))))
        (subst (λ n. n ≤ (count p i).1) (rows-with P marks (count p i).0 words)
        (within-at P marks (counts p) meets i (omega (arith, (backed p kn).tested.counts-long))))

    learned : suc i < length P.levels → LevelFree p (suc i) M
    unfolding lossy
    learned low = weights-independent p i (lossy P M) (length-map (up_from 0 P.rows) _ ∙ length_up 0 P.rows) (few-left (omega arith))

    clear : suc i ≡ length P.levels → (r : ℕ) → r < P.rows → get_or M r 0 ≡ 0
    unfolding lossy
    clear e r h =
        let none : (count p i).1 ≡ 0 = ap (λ n. (count p (pred n)).1) e ∙ (backed p kn).tested.counts-last in
        lossy-none M P.rows (omega (arith, few-left (omega arith))) r h

  counts-clear : Clears p marks
  counts-clear zero M pos le rows level = absurd (omega arith)
  counts-clear (suc i) M pos le rows level =
      elim (eq-or-lt_of_le le) [
        | inl e ↦ clear i M rows e
        | inr low ↦ absurd (T_not (level_tied p (suc i) M) (learned i M rows low) (level low))
      ]

pub counts-suffice : CountsSuffice
counts-suffice p X stripe marks word fit agree meets =
    let lent = lent-fit p stripe marks fit in
    restores p X stripe marks word fit agree (counts-clear p lent.plan-known marks lent.words lent.mark-lt meets)

-- ---- any d - 1 marks

-- rows with n marks or more have n times as many together
rows-weigh : (n : ℕ) (ws : List ℕ) → length (only (λ w. leb n (ones w)) ws) * n ≤ total ws
unfolding when◌then◌else◌ only total
rows-weigh n [] = omega (arith, zero-mul n)
rows-weigh n (w ∷ ws) = go (leb n (ones w)) refl (rows-weigh n ws)
  where
    go : (b : Bool) → leb n (ones w) ≡ b → length (only (λ w. leb n (ones w)) ws) * n ≤ total ws
        → length (when b then w ∷ only (λ w. leb n (ones w)) ws else only (λ w. leb n (ones w)) ws) * n ≤ ones w + total ws
    go true e h = omega (arith, leb-true n (ones w) e, suc-mul (length (only (λ w. leb n (ones w)) ws)) n)
    go false e h = omega arith

total-take : (n : ℕ) (ws : List ℕ) → total (take n ws) ≤ total ws
unfolding total
total-take zero ws = zero-le
total-take (suc n) [] = zero-le
total-take (suc n) (w ∷ ws) = omega (arith, total-take n ws)

with-le : (P : Plan) (marks : List ℕ) (n : ℕ) → rows_with P marks n * n ≤ total marks
unfolding rows_with
with-le P marks n = le_trans (rows-weigh n (take P.rows marks)) (total-take P.rows marks)

light-within : (P : Plan) (marks : List ℕ) (d : ℕ) → total marks < d → (cs : List (ℕ × ℕ)) → T (all (heavy d) cs) → Within P marks cs
unfolding all
light-within P marks d h [] t = tt
light-within P marks d h (c ∷ cs) t = (few, light-within P marks d h cs (both_right (heavy d c) (all (heavy d) cs) t))
  where
    few : rows_with P marks c.0 ≤ c.1
    few =
        elim (either (leb (rows_with P marks c.0) c.1)) [
          | inl s ↦ leb→le _ _ s
          | inr s ↦
              let more = mul-le-mul (nleb→lt (rows_with P marks c.0) c.1 s) (le_refl c.0) in
              let enough = leb→le d (suc c.1 * c.0) (both_left (heavy d c) (all (heavy d) cs) t) in
              absurd (omega (arith, with-le P marks c.0))
        ]

pub distance-suffices : DistanceSuffices
distance-suffices p X stripe marks word fit agree light =
    counts-suffice p X stripe marks word fit agree
    (light-within (plan_of p) marks (distance p) light (counts p) (backed p (lent-fit p stripe marks fit).plan-known).tested.counts-heavy)

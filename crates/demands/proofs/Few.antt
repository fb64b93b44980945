-- What backs each plan. Few marks leave independent columns: in a row, below the mark numbers of the published counts; across rows, up to the
-- row numbers. The check places are square: a row's under the checks in force when it is mended, and the weights of the rows still marked at a level
-- step. Assumes nothing.
use mathlib.Core.Path.{◌≡◌, refl, ap, subst, ◌∙◌}
use mathlib.Core.Bool.{Bool}
use mathlib.Core.Logic.{◌⊎◌, inl, inr}
use mathlib.Core.List.{List}
use Prim.Native.Nat.{ℕ, suc, ◌≤◌, ◌<◌, zero-le, pred}
use native.Mathlib.Nat.{not-suc-le-zero, le_trans}
use native.Mathlib.Omega.{arith}
use lib.Dec.{T, leb, leb→le, ltb, ltb→lt, nltb→le, eqb→eq}
use lib.ListN.{length, get_or, get_or-eq_default, length-map}
use Rattle.field.specs.Lists.{up_from}
use Rattle.field.proofs.Test.{both_left, both_right, at}
use Rattle.field.proofs.Words.{◌&◌}
use Rattle.fills.proofs.Tests.{either}
use Rattle.fills.proofs.Filling.{Independent}
use Rattle.fills.proofs.Weights.{marked}
use Rattle.plans.specs.Plan.{known, plan_of, level_of, checks_to}
use Rattle.plans.proofs.Plans.{of-known, known-or-past, distances_of, known_of, checks-at}
use Rattle.plans.proofs.Spread.{weights-spread}
use Rattle.field.proofs.Lists.{length_up}
use Rattle.plans.proofs.Flat.{each-up}
use Rattle.plans.proofs.Tables.{weights-at}
use Rattle.demands.specs.Published.{Published, published, nothing, counts}
use Rattle.demands.proofs.Backed.{count, Backed, RowSquare, waiting}
use Rattle.demands.proofs.Plan1.{backed-1}
use Rattle.demands.proofs.Plan2.{backed-2}
use Rattle.demands.proofs.Plan3.{backed-3}
use Rattle.demands.proofs.Plan4.{backed-4}
use Rattle.demands.proofs.Plan5.{backed-5}
use Rattle.demands.proofs.Square.{Square}

pub backed : (p : ℕ) → T (known p) → Backed p
unfolding up_from
backed = of-known Backed (backed-1 & backed-2 & backed-3 & backed-4 & backed-5 & tt)

-- a count is a known plan's and a level's, or there is none
counted : (p i : ℕ) → (count p i ≡ (0, 0)) ⊎ (T (known p) × (i < length (counts p)))
unfolding counts
counted p i = elim (either (ltb i (length (counts p)))) [
  | inl l ↦ elim (known-or-past nothing published refl p) [
    | inl kn ↦ inr (kn, ltb→lt i (length (counts p)) l)
    | inr e ↦ inl (ap (λ (B : Published). get_or B.counts i (0, 0)) e)
  ]
  | inr l ↦ inl (get_or-eq_default (counts p) (0, 0) (nltb→le i (length (counts p)) l))
]

count-bounds : (p : ℕ) (kn : T (known p)) (i : ℕ) → i < length (counts p)
    → ((count p i).0 ≤ get_or (distances_of p) i 0) × ((count p i).1 ≤ length (level_of (plan_of p) (suc (suc i))).weights)
count-bounds p kn i l =
    let t = at (length (counts p)) _ (backed p kn).tested.counts-low i l in
    (leb→le _ _ (both_left (leb (count p i).0 _) _ t), leb→le _ _ (both_right (leb (count p i).0 _) _ t))

-- fewer marks than the counts name at a level
pub few-independent : (p i : ℕ) (ms : List Bool) → length ms ≡ (plan_of p).columns → marked ms < (count p i).0
    → Independent (plan_of p).field (checks_to (plan_of p) (suc i)) ms
few-independent p i ms l h = elim (counted p i) [
  | inl none ↦ absurd (not-suc-le-zero (subst (λ c. marked ms < c.0) none h))
  | inr (kn, low) ↦ (checks-at (known_of p kn) i (omega (arith, (backed p kn).tested.counts-long))).free ms l (le_trans h (count-bounds p kn i low).0)
]

-- at the next level, no more marked rows than the counts allow
pub weights-independent : (p i : ℕ) (ms : List Bool) → length ms ≡ (plan_of p).rows → marked ms ≤ (count p i).1
    → Independent (plan_of p).field (level_of (plan_of p) (suc (suc i))).weights ms
weights-independent p i ms l h = (weights-spread p (suc (suc i))).free ms l (elim (counted p i) [
  | inl none ↦ le_trans (subst (λ c. marked ms ≤ c.1) none h) zero-le
  | inr (kn, low) ↦ le_trans h (count-bounds p kn i low).1
])

-- ---- the square systems of encoding

module _ (p : ℕ) (kn : T (known p)) where
  -- the level at which row r is mended
  abbrev pub mend_level : ℕ → ℕ
  mend_level r = get_or (backed p kn).order r 0

  pub mend-level-bounds : (r : ℕ) → r < (plan_of p).rows → (0 < mend_level r) × (mend_level r ≤ length (plan_of p).levels)
  mend-level-bounds r h =
      let t = at (plan_of p).rows _ (backed p kn).tested.order-low r h in
      (ltb→lt _ _ (both_left (ltb 0 (mend_level r)) _ t), leb→le _ _ (both_right (ltb 0 (mend_level r)) _ t))

  pub row-square : (r : ℕ) → r < (plan_of p).rows → RowSquare (plan_of p) (mend_level r) r
  row-square r h = each-up (λ r. RowSquare (plan_of p) (mend_level r) r) 0 (plan_of p).rows (backed p kn).rows-square r zero-le (omega arith)

  -- the rows that are still marked when level t is done
  abbrev pub pending : ℕ → List Bool
  pending t = waiting (plan_of p) (backed p kn).order t

  -- they are as many as the totals of the next
  pub level-square : (i : ℕ) → suc i < length (plan_of p).levels
      → Square (plan_of p).field (level_of (plan_of p) (suc (suc i))).weights (pending (suc i))
  level-square i h =
      let count : marked (pending (suc i)) ≡ length (level_of (plan_of p) (suc (suc i))).weights =
      eqb→eq _ _ (at (pred (length (plan_of p).levels)) _ (backed p kn).tested.order-square i (omega arith)) in
      record {
        independent = (weights-at p (suc (suc i))).free (pending (suc i)) (length-map (up_from 0 (plan_of p).rows) _ ∙ length_up 0 (plan_of p).rows) (omega arith);
        enough = omega arith;
      }

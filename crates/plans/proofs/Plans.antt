-- Plans by their numbers, and what is known of each. Assumes nothing.
use mathlib.Core.Path.{◌≡◌, refl, ap, ◌∙◌, sym, subst}
use mathlib.Core.Logic.{◌≢◌, ◌⊎◌, inl, inr}
use mathlib.Core.Bool.{Bool}
use mathlib.Core.List.{List, [], ◌∷◌, flat_map}
use Prim.Native.Nat.{ℕ, zero, suc, ◌*◌, ◌≤◌, ◌<◌, zero-le}
use native.Mathlib.Nat.{not-suc-le-zero}
use native.Mathlib.Omega.{arith}
use lib.Dec.{T, leb, ltb, leb→le, ltb→lt, nleb→lt, nltb→le}
use lib.ListN.{length, get_or, get_or-eq_default}
use lib.Seq.{take_all}
use Rattle.field.specs.Lists.{up_from}
use Rattle.field.proofs.Test.{both_left}
use Rattle.field.proofs.Words.{Each, ◌&◌, each-get_or}
use Rattle.fills.specs.Lists.{all}
use Rattle.fills.proofs.Tests.{either}
use Rattle.plans.specs.Rooms.{row_room, column_room, symbol_room}
use Rattle.plans.specs.Plan.{Plan, Level, binary_plan, plan1, plan2, plan3, plan4, plan5, plans, known, no_plan, plan_of, no_level, level_of, checks_to}
use Rattle.plans.proofs.Flat.{all_get_d, all-at, each-up}
use Rattle.plans.proofs.Columns.{Columns}
pub use Rattle.plans.proofs.Known.{Shape, Known}
use Rattle.plans.proofs.Plan1.{distances-1, plan-1}
use Rattle.plans.proofs.BinaryPlan.{binary_distances}
use Rattle.plans.proofs.Plan2.{plan-2}
use Rattle.plans.proofs.Plan3.{distances-3, plan-3}
use Rattle.plans.proofs.Plan4.{distances-4, plan-4}
use Rattle.plans.proofs.Plan5.{plan-5}

-- ---- every plan

-- what holds of the empty plan and of each of ours holds of every number's plan
pub of-plans : (Q : Plan → Type 0) → Q no_plan → Each Q plans → (p : ℕ) → Q (plan_of p)
unfolding plan_of
of-plans Q none each = each-get_or Q no_plan none (no_plan ∷ plans) (none, each)

-- the same by one test
pub all-plans : (f : Plan → Bool) → T (all f (no_plan ∷ plans)) → (p : ℕ) → T (f (plan_of p))
unfolding all plan_of
all-plans f t = all_get_d f no_plan (both_left (f no_plan) (all f plans) t) (no_plan ∷ plans) t

-- ---- known numbers

-- the numbers of the plans
abbrev pub numbers : List ℕ
numbers = up_from 1 (length plans)

-- each of them has rows
have-rows : T (all (λ (P : Plan). ltb 0 P.rows) plans)
unfolding all binary_plan plan1 plan2 plan3 plan4 plan5
have-rows = tt

-- a number reads nothing in a table with an entry for each plan, or is known
pub known-or-past : {A : Type 0} (none : A) (table : List A) → length table ≡ length plans → (p : ℕ) → T (known p) ⊎ (get_or (none ∷ table) p none ≡ none)
unfolding plan_of known
known-or-past none table e zero = inr refl
known-or-past none table e (suc i) =
    elim (either (ltb i (length plans))) [
      | inl t ↦ inl (all-at (λ (P : Plan). ltb 0 P.rows) no_plan plans have-rows i (ltb→lt i (length plans) t))
      | inr n ↦
          let past : suc (length table) ≤ suc i = omega (arith, e, nltb→le i (length plans) n) in
          inr (get_or-eq_default (none ∷ table) none past)
    ]

pub known-or-none : (p : ℕ) → T (known p) ⊎ (plan_of p ≡ no_plan)
unfolding plan_of
known-or-none = known-or-past no_plan plans refl

-- what holds of the number of each plan holds of every known number
pub of-known : (Q : ℕ → Type 0) → Each Q numbers → (p : ℕ) → T (known p) → Q p
unfolding no_plan plan_of known
of-known Q each zero t = absurd t
of-known Q each (suc i) t =
    elim (either (ltb i (length plans))) [
      | inl l ↦ each-up Q 1 (length plans) each (suc i) (omega arith) (omega (arith, ltb→lt i (length plans) l))
      | inr n ↦
          let past : length plans ≤ i = nltb→le i (length plans) n in
          absurd (subst (λ (P : Plan). T (ltb 0 P.rows)) (get_or-eq_default plans no_plan past) t)
    ]

pub unknown : (p : ℕ) → Each (λ k. p ≢ k) numbers → plan_of p ≡ no_plan
unknown p others = elim (known-or-none p) [ inl t ↦ absurd (of-known (λ k. p ≢ k) others p t refl) | inr e ↦ e ]

-- ---- what is known of a plan

-- the distances of its row code
abbrev pub distances_of : ℕ → List ℕ
distances_of p = get_or ([] ∷ distances-1 ∷ binary_distances ∷ distances-3 ∷ distances-4 ∷ binary_distances ∷ []) p []

pub known_of : (p : ℕ) → T (known p) → Known (plan_of p) (distances_of p)
unfolding up_from plan_of
known_of = of-known (λ p. Known (plan_of p) (distances_of p)) (plan-1 & plan-2 & plan-3 & plan-4 & plan-5 & tt)

pub shape : (p : ℕ) → T (known p) → Shape (plan_of p)
shape p k = (known_of p k).shape

-- what follows from it, and holds of the empty plan, holds of every number's plan
pub by-known : (Q : Plan → Type 0) → Q no_plan → ((P : Plan) (ds : List ℕ) → Known P ds → Q P) → (p : ℕ) → Q (plan_of p)
by-known Q none follows p = elim (known-or-none p) [ inl k ↦ follows (plan_of p) (distances_of p) (known_of p k) | inr e ↦ subst Q (sym e) none ]

module _ (p : ℕ) where
  pub rows-most : (plan_of p).rows ≤ row_room
  unfolding no_plan
  rows-most = by-known (λ P. P.rows ≤ row_room) zero-le (λ P ds k. k.shape.rows-le) p

  pub columns-most : (plan_of p).columns ≤ column_room
  unfolding no_plan
  columns-most = by-known (λ P. P.columns ≤ column_room) zero-le (λ P ds k. k.shape.columns-le) p

  pub symbols-most : (plan_of p).rows * (plan_of p).columns ≤ symbol_room
  unfolding no_plan
  symbols-most = by-known (λ P. P.rows * P.columns ≤ symbol_room) zero-le (λ P ds k. k.shape.symbols-le) p

  pub levels-most : length (plan_of p).levels ≤ 3
  unfolding no_plan
  levels-most = by-known (λ P. length P.levels ≤ 3) zero-le (λ P ds k. k.shape.levels-le) p

-- ---- levels

-- a plan that has levels is known
pub levels-known : (p t : ℕ) → t < length (plan_of p).levels → T (known p)
unfolding no_plan
levels-known p t l =
    elim (known-or-none p) [ inl k ↦ k | inr e ↦ absurd (not-suc-le-zero (subst (λ (P : Plan). t < length P.levels) e l)) ]

-- every level has a check
pub some-check : (p t : ℕ) → t < length (plan_of p).levels → 0 < length (level_of (plan_of p) (suc t)).checks
unfolding level_of
some-check p t low =
    ltb→lt 0 _ (all-at (λ (L : Level). ltb 0 (length L.checks)) no_level (plan_of p).levels (shape p (levels-known p t low)).some-checks t low)

-- from the last level on there is nothing to add
pub checks-beyond : (P : Plan) (s t : ℕ) → length P.levels ≤ s → length P.levels ≤ t → checks_to P s ≡ checks_to P t
unfolding checks_to
checks-beyond P s t hs ht = ap (λ ls. flat_map (λ (L : Level). L.checks) ls) (take_all s P.levels hs ∙ sym (take_all t P.levels ht))

pub level-beyond : (P : Plan) (t : ℕ) → length P.levels < t → level_of P t ≡ no_level
unfolding level_of
level-beyond P zero h = elim h [ ]
level-beyond P (suc t) h = get_or-eq_default P.levels no_level (omega arith)

-- the checks of levels 1 to i + 1
pub checks-at : {P : Plan} {ds : List ℕ} (k : Known P ds) (i : ℕ) → i < length P.levels
    → Columns P.field P.columns (get_or ds i 0) (checks_to P (suc i))
checks-at {P} {ds} k i h =
    each-up (λ i. Columns P.field P.columns (get_or ds i 0) (checks_to P (suc i))) 0 (length P.levels) k.checks i zero-le (omega arith)

-- what holds of no checks, and of those of levels 1 to t for each level t, holds for every t
pub by_level : (P : Plan) (Q : List (List ℕ) → Type 0) → Q [] → ((i : ℕ) → i < length P.levels → Q (checks_to P (suc i))) → (t : ℕ) → Q (checks_to P t)
unfolding flat_map checks_to
by_level P Q none each t =
    elim (either (leb t (length P.levels))) [
      | inl l ↦ go t (leb→le t _ l)
      | inr l ↦ subst Q (checks-beyond P (length P.levels) t (omega arith) (omega (arith, nleb→lt t _ l))) (go (length P.levels) (omega arith))
    ]
  where
    go : (t : ℕ) → t ≤ length P.levels → Q (checks_to P t)
    go zero h = none
    go (suc i) h = each i h

-- level 1 has no weights
first-none : (p : ℕ) → (level_of (plan_of p) 1).weights ≡ []
unfolding binary_plan plan1 plan2 plan3 plan4 plan5 no_plan no_level level_of
first-none = of-plans (λ P. (level_of P 1).weights ≡ []) refl (refl & refl & refl & refl & refl & tt)

-- only levels 2 and 3 have weights
pub weights-none : (p t : ℕ) → t ≢ 2 → t ≢ 3 → (level_of (plan_of p) t).weights ≡ []
unfolding no_level level_of
weights-none p zero n2 n3 = first-none p
weights-none p (suc zero) n2 n3 = first-none p
weights-none p (suc (suc zero)) n2 n3 = absurd (n2 refl)
weights-none p (suc (suc (suc zero))) n2 n3 = absurd (n3 refl)
weights-none p (suc (suc (suc (suc t)))) n2 n3 =
    ap (λ (L : Level). L.weights) (level-beyond (plan_of p) (suc (suc (suc (suc t)))) (omega (arith, levels-most p)))

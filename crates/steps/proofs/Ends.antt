-- How learning a level ends where the weights tell it, how a step ends by its refusal, and a started bench. Assumes nothing.
use mathlib.Core.Path.{◌≡◌, refl, sym, ap, ap₂, ◌∙◌, subst}
use mathlib.Core.Bool.{Bool, not}
use mathlib.Core.List.{List, [], ◌∷◌, ◌++◌}
use Prim.Native.Nat.{ℕ, zero, suc, ◌<◌}
use native.Mathlib.Omega.{arith}
use lib.Dec.{T}
use lib.ListN.{length, drop, replicate, length-map}
use Rattle.std.specs.Prelude.{Ok, Err}
use Rattle.field.specs.Lists.{up_from}
use Rattle.field.proofs.Lists.{length_up}
use Rattle.fills.specs.Lists.{zeros}
use Rattle.fills.specs.Fill.{dependent, Fill, none, tied, vector_in}
use Rattle.fills.proofs.Filling.{in-dependent, Means, fill-means}
use Rattle.fills.proofs.Spread.{wide-dependency}
use Rattle.fills.proofs.Weights.{marked}
use Rattle.plans.specs.Plan.{Plan, Level, plan_of, level_of, across}
use Rattle.plans.specs.Refusal.{lent_refusal}
use Rattle.plans.specs.Rooms.{row_room, symbol_room, learned_room}
use Rattle.plans.specs.Tables.{padded}
use Rattle.steps.specs.Steps.{fresh, empty, started_by, started, lossy, check_fill, blocked, level_fill, Stepped, stepped, unless_refused}
use Rattle.plans.specs.declared.Bench.{Bench}
use Rattle.plans.specs.declared.Step.{Step}
use Rattle.steps.specs.Parts.{bench_of}
use Rattle.plans.proofs.Padded.{copied-over}
use Rattle.plans.proofs.Spread.{fields, weights-tied}
use Rattle.steps.proofs.Passing.{Ones, ends-blocked}

-- ---- how the level ends

module _ (b : Bench) where
  abbrev P : Plan
  P = plan_of b.plan

  abbrev L : Level
  L = level_of P (suc b.level)

  -- the weight columns of the rows with marks are dependent
  abbrev pub bound : Bool
  bound = dependent P.field L.weights (lossy P b.marks)

  -- the sums of check c, where they are filled
  abbrev pub filled : List ℕ → List ℕ
  filled c = vector_in (check_fill b c)

  -- dependent weight columns leave each check a filling, and block the level
  pub level-blocked : T bound → level_fill b ≡ blocked
  unfolding level_fill check_fill lossy
  level-blocked d =
      ends-blocked (check_fill b) filled bound L.checks (λ c m e.
      let z : ◌≡◌ {A = Fill} tied none =
      sym (weights-tied b.plan (suc b.level) (lossy P b.marks) (across P b.symbols c) (length-map (up_from 0 P.rows) _ ∙ length_up 0 P.rows) d) ∙ e in
      let z : ◌≡◌ {A = ℕ} 0 1 = cc in omega arith) d

  -- more rows with marks than totals make them dependent
  pub lossy-blocked : length L.weights < marked (lossy P b.marks) → level_fill b ≡ blocked
  lossy-blocked wide =
      let ms = lossy P b.marks in
      level-blocked (in-dependent P.field L.weights ms (wide-dependency P.field (fields b.plan) L.weights ms wide).1)

  -- independent ones, where some check is filled by one vector alone
  pub free-weights : (cs vs : List (List ℕ)) → 0 < length cs → Ones (check_fill b) cs vs → T (not bound)
  unfolding check_fill
  free-weights [] vs pos o = absurd (omega arith)
  free-weights (c ∷ cs) [] pos o = absurd o
  free-weights (c ∷ cs) (v ∷ vs) pos o =
      let W = L.weights in
      let ms = lossy P b.marks in
      let u = across P b.symbols c in
      (subst (Means P.field W (zeros W) ms u) o.0 (fill-means P.field W (zeros W) ms u)).0

-- ---- refusals

-- a step that is refused, and one that is not
pub is-refused : (n : ℕ) (b : Bench) (s : Stepped Step) → (n ≡ 0 → ⊥) → stepped b (Err n) ≡ unless_refused n b s
unfolding unless_refused
is-refused zero b s ne = absurd (ne refl)
is-refused (suc n) b s ne = refl

pub is-taken : {n : ℕ} (b : Bench) (s : Stepped Step) → n ≡ 0 → unless_refused n b s ≡ s
unfolding unless_refused
is-taken b s e = ap (λ n. unless_refused n b s) e

-- ---- the start

module _ (p : ℕ) (stripe marks : List ℕ) where
  -- a bench as it is written over another
  abbrev written : (front words : List ℕ) → Bench → Bench
  written front words b = record {
    plan = p;
    level = 1;
    symbols = front ++ drop (length stripe) b.symbols;
    marks = words ++ drop (length marks) b.marks;
    sums = b.sums;
  }

  pub fresh-made : {b : Bench} {front words : List ℕ} → b ≡ empty → front ≡ stripe → words ≡ marks → written front words b ≡ fresh p stripe marks
  unfolding padded fresh empty
  fresh-made {front = front} {words} e es em =
      ap (written front words) e
      ∙ ap₂ (λ s m. bench_of p 1 s m (replicate learned_room 0)) (copied-over symbol_room stripe es) (copied-over row_room marks em)

  pub started-done : {b : Bench} → b ≡ fresh p stripe marks → lent_refusal p stripe marks ≡ 0 → stepped b (Ok tt) ≡ started p stripe marks
  unfolding started_by started
  started-done eb e = rw (e, eb)

  pub started-refused : (n : ℕ) → n ≡ lent_refusal p stripe marks → (n ≡ 0 → ⊥) → stepped empty (Err n) ≡ started p stripe marks
  unfolding started_by started
  started-refused zero e ne = absurd (ne refl)
  started-refused (suc n) e ne = rw (← e)

-- What a turn makes of a fit bench, by what was found of the row. Assumes nothing.
use mathlib.Core.Path.{◌≡◌, ap, ◌∙◌}
use mathlib.Core.List.{List}
use Prim.Native.Nat.{ℕ, suc, pred, ◌+◌, ◌<◌}
use native.Mathlib.Nat.{add-zero, le_refl}
use native.Mathlib.Omega.{arith}
use borrow.Author.Tests.{lt-ltb, le-ltb, eq-eqb, ne_eqb}
use lib.Dec.{ltb}
use lib.ListN.{length, get_or, set}
use lib.Seq.{set-get_or, set-set, get_or-set_same}
use Rattle.std.specs.Prelude.{Ok}
use Rattle.field.specs.Lists.{when◌then◌else◌}
use Rattle.fills.specs.Fill.{Fill, tied, none, one}
use Rattle.plans.specs.Plan.{plan_of}
use Rattle.steps.specs.Steps.{Stepped, stepped, row_fill, put_row, row_step_by, Learned, blocked, failing, learned, level_fill, raise, level_step_by}
use Rattle.steps.specs.Rounds.{Turn, end, clash, more, after_row, after_level, take_turn, go_on, turns}
use Rattle.steps.specs.Parts.{standing_of}
use Rattle.plans.specs.declared.Bench.{Bench}
use Rattle.plans.specs.declared.Step.{Step}
use Rattle.plans.specs.declared.Step.TheVariants.{Whole, Filled, Raised, Blocked, Top, Clash}
use Rattle.plans.specs.declared.Place.TheVariants.{Row, Across}
use Rattle.steps.proofs.Fit.{BenchFit}
use Rattle.steps.proofs.Sound.{row_step_lem, level-step}

-- ---- rows restored

pub more-none : (t : ℕ) (restored : List ℕ) → more t 0 restored ≡ restored
unfolding more
more-none t restored = ap (set restored (pred t)) (add-zero (get_or restored (pred t) 0)) ∙ set-get_or restored (pred t) 0

-- one row more
pub more-one : (t k : ℕ) (restored : List ℕ) → pred t < length restored
    → more t 1 (more t k restored) ≡ more t (suc k) restored
unfolding more
more-one t k restored h =
    ap (λ n. set (set restored (pred t) (get_or restored (pred t) 0 + k)) (pred t) (n + 1)) (get_or-set_same restored (pred t) (get_or restored (pred t) 0 + k) 0 h)
    ∙ set-set restored (pred t) (get_or restored (pred t) 0 + k) (get_or restored (pred t) 0 + k + 1)
    ∙ ap (set restored (pred t)) (omega arith)

-- ---- a row's turn

module _ (b : Bench) (fit : BenchFit b) (r : ℕ) (inside : r < (plan_of b.plan).rows) where
  -- the rounds after the row's step
  abbrev after_step : List ℕ → Stepped Step → Turn
  after_step restored s = after_row (standing_of b r restored) s.answer s.bench

  row-turn : (restored : List ℕ) → take_turn (standing_of b r restored) ≡ after_step restored (row_step_by b r (row_fill b r))
  unfolding take_turn when◌then◌else◌
  row-turn restored = rw (lt-ltb r (plan_of b.plan).rows inside) (ap (after_step restored) (row_step_lem b fit r inside))

  -- n turns more, after this one
  row-turns : (n : ℕ) (restored : List ℕ) (f : Fill) → row_fill b r ≡ f
      → turns (suc n) (standing_of b r restored) ≡ go_on (turns n) (after_step restored (row_step_by b r f))
  unfolding turns
  row-turns n restored f e = ap (go_on (turns n)) (row-turn restored ∙ ap (λ f. after_step restored (row_step_by b r f)) e)

  pub turn-tied : row_fill b r ≡ tied → (n : ℕ) (restored : List ℕ) → turns (suc n) (standing_of b r restored) ≡ turns n (standing_of b (suc r) restored)
  unfolding after_row row_step_by stepped go_on
  turn-tied e n restored = row-turns n restored tied e

  pub turn-none : row_fill b r ≡ none → (n : ℕ) (restored : List ℕ) → turns (suc n) (standing_of b r restored) ≡ clash (Row r b.level)
  unfolding after_row row_step_by stepped go_on
  turn-none e n restored = row-turns n restored none e

  -- a row without marks is left as it is
  pub turn-whole : (row : List ℕ) → row_fill b r ≡ one row → get_or b.marks r 0 ≡ 0 → put_row b r row ≡ b → (n : ℕ) (restored : List ℕ)
      → turns (suc n) (standing_of b r restored) ≡ turns n (standing_of b (suc r) restored)
  unfolding after_row row_step_by stepped go_on when◌then◌else◌
  turn-whole row e z same n restored =
      row-turns n restored (one row) e
      ∙ ap (λ c. go_on (turns n) (after_step restored (stepped (put_row b r row) (Ok (when c then Whole else Filled))))) (eq-eqb (get_or b.marks r 0) 0 z)
      ∙ ap (λ c. turns n (standing_of c (suc r) restored)) same

  pub turn-filled : (row : List ℕ) → row_fill b r ≡ one row → (get_or b.marks r 0 ≡ 0 → ⊥) → (n k : ℕ) (restored : List ℕ) → pred b.level < length restored
      → turns (suc n) (standing_of b r (more b.level k restored)) ≡ turns n (standing_of (put_row b r row) (suc r) (more b.level (suc k) restored))
  unfolding after_row row_step_by stepped go_on when◌then◌else◌
  turn-filled row e nz n k restored h =
      row-turns n (more b.level k restored) (one row) e
      ∙ ap (λ c. go_on (turns n) (after_step (more b.level k restored) (stepped (put_row b r row) (Ok (when c then Whole else Filled))))) (ne_eqb (get_or b.marks r 0) 0 nz)
      ∙ ap (λ l. turns n (standing_of (put_row b r row) (suc r) l)) (more-one b.level k restored h)

-- ---- the level step's turn

module _ (b : Bench) (fit : BenchFit b) where
  level-turns : (n : ℕ) (restored : List ℕ) (s : Stepped Step)
      → (when ltb b.level (length (plan_of b.plan).levels) then level_step_by b (level_fill b) else stepped b (Ok Top)) ≡ s
      → turns (suc n) (standing_of b (plan_of b.plan).rows restored)
      ≡ go_on (turns n) (after_level (standing_of b (plan_of b.plan).rows restored) s.answer s.bench)
  unfolding turns take_turn when◌then◌else◌
  level-turns n restored s e =
      rw (le-ltb (plan_of b.plan).rows (plan_of b.plan).rows (le_refl (plan_of b.plan).rows), level-step b fit ∙ e)

  pub turn-top : b.level ≡ length (plan_of b.plan).levels → (n : ℕ) (restored : List ℕ)
      → turns (suc n) (standing_of b (plan_of b.plan).rows restored) ≡ end (standing_of b (plan_of b.plan).rows restored)
  unfolding when◌then◌else◌ stepped after_level go_on
  turn-top e n restored =
      level-turns n restored (stepped b (Ok Top))
      (ap (λ c. when c then level_step_by b (level_fill b) else stepped b (Ok Top)) (le-ltb b.level (length (plan_of b.plan).levels) (omega arith)))

  module _ (low : b.level < length (plan_of b.plan).levels) where
    below_top : (l : Learned) → level_fill b ≡ l
        → (when ltb b.level (length (plan_of b.plan).levels) then level_step_by b (level_fill b) else stepped b (Ok Top)) ≡ level_step_by b l
    unfolding when◌then◌else◌
    below_top l e =
        ap (λ c. when c then level_step_by b (level_fill b) else stepped b (Ok Top)) (lt-ltb b.level (length (plan_of b.plan).levels) low)
        ∙ ap (level_step_by b) e

    pub turn-blocked : level_fill b ≡ blocked → (n : ℕ) (restored : List ℕ)
        → turns (suc n) (standing_of b (plan_of b.plan).rows restored) ≡ end (standing_of b (plan_of b.plan).rows restored)
    unfolding level_step_by stepped after_level go_on
    turn-blocked e n restored = level-turns n restored (stepped b (Ok Blocked)) (below_top blocked e)

    pub turn-failing : level_fill b ≡ failing → (n : ℕ) (restored : List ℕ)
        → turns (suc n) (standing_of b (plan_of b.plan).rows restored) ≡ clash (Across (suc b.level))
    unfolding level_step_by stepped after_level go_on
    turn-failing e n restored = level-turns n restored (stepped b (Ok Clash)) (below_top failing e)

    pub turn-learned : (cs : List (List ℕ)) → level_fill b ≡ learned cs → (n : ℕ) (restored : List ℕ)
        → turns (suc n) (standing_of b (plan_of b.plan).rows restored) ≡ turns n (standing_of (raise b cs) 0 restored)
    unfolding level_step_by stepped after_level go_on
    turn-learned cs e n restored = level-turns n restored (stepped (raise b cs) (Ok Raised)) (below_top (learned cs) e)

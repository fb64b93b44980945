-- Where mending in one call stops, turn by turn from a sound bench. Assumes nothing.
use mathlib.Core.Path.{◌≡◌, refl, sym, ap, ◌∙◌, subst}
use mathlib.Core.Logic.{◌≢◌, inl, inr}
use mathlib.Core.Bool.{Bool, true, false}
use mathlib.Core.List.{List}
use Prim.Native.Nat.{ℕ, zero, suc, ◌*◌, ◌<◌, ◌≤◌}
use native.Mathlib.Omega.{arith}
use lib.Arith.{le→nltb}
use lib.Dec.{eqb, ltb, ltb→lt, lt→ltb, nltb→le}
use lib.ListN.{length, get_or}
use Rattle.std.specs.Prelude.{Ok, Err}
use Rattle.field.specs.Lists.{when◌then◌else◌}
use Rattle.fills.specs.Fill.{Fill, tied, none, one}
use Rattle.fills.proofs.Tests.{either}
use Rattle.plans.specs.Plan.{plan_of}
use Rattle.steps.specs.Steps.{Stepped, fresh, stepped, row_fill, put_row, row_step_by, row_step, Learned, blocked, failing, learned, level_fill, level_step_by, level_step}
use Rattle.steps.specs.Rounds.{Standing, Turn, on, end, clash, after_row, after_level, take_turn, go_on, turns}
use Rattle.steps.specs.Parts.{standing_of}
use Rattle.repair.specs.Mending.{mended}
use Rattle.plans.specs.declared.Bench.{Bench}
use Rattle.plans.specs.declared.Step.{Step}
use Rattle.plans.specs.declared.Step.TheVariants.{Whole, Filled, Top}
use Rattle.steps.proofs.Fit.{if-true, if-false}
use Rattle.steps.proofs.Sound.{Sound, sound-fresh, row_keeps, level-plan, row_step_lem, level-step, sound-row, sound-level}
use Rattle.demands.specs.Words.{Fit}
use Rattle.demands.specs.Stopping.{begun, next_step, StopsAt, clash-in-row, clash-across, at-blocked, at_top, Stops, MendingStops, TurnsSuffice, NoStepRefused}
use Rattle.demands.proofs.Rounds.{Goes, Out, mended-out}

-- ---- a step on a fit bench is not refused

row-accepted : (b : Bench) (r : ℕ) (f : Fill) (n : ℕ) → (row_step_by b r f).answer ≢ Err n
unfolding when◌then◌else◌ row_step_by stepped
row-accepted b r tied n e = let z : ◌≡◌ {A = ℕ} 0 1 = cc in omega arith
row-accepted b r none n e = let z : ◌≡◌ {A = ℕ} 0 1 = cc in omega arith
row-accepted b r (one row) n e = by (eqb (get_or b.marks r 0) 0) e
  where
    by : (z : Bool) → Ok (when z then Whole else Filled) ≢ Err n
    by true e = let z : ◌≡◌ {A = ℕ} 0 1 = cc in omega arith
    by false e = let z : ◌≡◌ {A = ℕ} 0 1 = cc in omega arith

-- a level step below the last level, and at it
abbrev level_by : Bench → (low : Bool) → Learned → Stepped Step
level_by b low a = when low then level_step_by b a else stepped b (Ok Top)

level-accepted : (b : Bench) (low : Bool) (a : Learned) (n : ℕ) → (level_by b low a).answer ≢ Err n
unfolding when◌then◌else◌ level_step_by stepped
level-accepted b false a n e = let z : ◌≡◌ {A = ℕ} 0 1 = cc in omega arith
level-accepted b true blocked n e = let z : ◌≡◌ {A = ℕ} 0 1 = cc in omega arith
level-accepted b true failing n e = let z : ◌≡◌ {A = ℕ} 0 1 = cc in omega arith
level-accepted b true (learned cs) n e = let z : ◌≡◌ {A = ℕ} 0 1 = cc in omega arith

module _ (p : ℕ) where
  -- the rounds stand on a sound bench of the plan
  record Going (m : Standing) : Type 0 where
    sound : Sound m.bench
    plan : m.bench.plan ≡ p

  -- what a turn from m leads to
  abbrev Next : Standing → Turn → Type 0
  Next m = Goes Going (StopsAt p m)

  -- ---- one turn

  module _ (m : Standing) (g : Going m) where
    abbrev b : Bench
    b = m.bench

    abbrev k : ℕ
    k = m.turn

    -- ---- a row's

    module _ (l : k < (plan_of p).rows) where
      own_row : k < (plan_of b.plan).rows
      own_row = subst (λ q. k < (plan_of q).rows) (sym g.plan) l

      row_is : row_step b k ≡ row_step_by b k (row_fill b k)
      row_is = row_step_lem b g.sound.fit k own_row

      row_next : (s : Stepped Step) → row_step b k ≡ s → (restored : List ℕ) → Going (standing_of s.bench (suc k) restored)
      row_next s e restored =
          subst (λ (s : Stepped Step). Going (standing_of s.bench (suc k) restored)) e
          record { sound = sound-row b g.sound k; plan = (row_keeps b k).0 ∙ g.plan }

      row_goes : (f : Fill) → row_step b k ≡ row_step_by b k f → Next m (after_row m (row_step_by b k f).answer (row_step_by b k f).bench)
      unfolding when◌then◌else◌ after_row row_step_by stepped
      row_goes tied e = row_next (row_step_by b k tied) e _
      row_goes none e = clash-in-row l (ap (λ (s : Stepped Step). s.answer) e)
      row_goes (one row) e = by (eqb (get_or b.marks k 0) 0) e
        where
          by : (z : Bool) → row_step b k ≡ stepped (put_row b k row) (Ok (when z then Whole else Filled))
              → Next m (after_row m (Ok (when z then Whole else Filled)) (put_row b k row))
          by true e = row_next (stepped (put_row b k row) (Ok Whole)) e _
          by false e = row_next (stepped (put_row b k row) (Ok Filled)) e _

      turn-row : Next m (take_turn m)
      unfolding take_turn
      turn-row =
          subst (Next m)
          (sym (if-true (ltb k (plan_of b.plan).rows) (after_row m (row_step b k).answer (row_step b k).bench) (after_level m (level_step b).answer (level_step b).bench)
          (lt→ltb k (plan_of b.plan).rows own_row) ∙ ap (λ (s : Stepped Step). after_row m s.answer s.bench) row_is))
          (row_goes (row_fill b k) row_is)

    -- ---- the level step's

    level-is : level_step b ≡ level_by b (ltb b.level (length (plan_of b.plan).levels)) (level_fill b)
    level-is = level-step b g.sound.fit

    module _ (full : (plan_of p).rows ≤ k) where
      level-goes : (low : Bool) (a : Learned) → level_step b ≡ level_by b low a
          → Next m (after_level m (level_by b low a).answer (level_by b low a).bench)
      unfolding when◌then◌else◌ after_level level_step_by stepped
      level-goes false a e = at_top full (ap (λ (s : Stepped Step). s.answer) e)
      level-goes true blocked e = at-blocked full (ap (λ (s : Stepped Step). s.answer) e)
      level-goes true failing e = clash-across full (ap (λ (s : Stepped Step). s.answer) e)
      level-goes true (learned cs) e =
          subst (λ (s : Stepped Step). Going (standing_of s.bench 0 m.restored)) e
          record { sound = sound-level b g.sound; plan = level-plan b ∙ g.plan }

      turn_level : Next m (take_turn m)
      unfolding take_turn
      turn_level =
          subst (Next m)
          (sym (if-false (ltb k (plan_of b.plan).rows) (after_row m (row_step b k).answer (row_step b k).bench) (after_level m (level_step b).answer (level_step b).bench)
          (le→nltb k (plan_of b.plan).rows (subst (λ q. (plan_of q).rows ≤ k) (sym g.plan) full))
          ∙ ap (λ (s : Stepped Step). after_level m s.answer s.bench) level-is))
          (level-goes (ltb b.level (length (plan_of b.plan).levels)) (level_fill b) level-is)

    turn-next : Next m (take_turn m)
    turn-next =
        elim (either (ltb k (plan_of p).rows)) [
          | inl t ↦ turn-row (ltb→lt k (plan_of p).rows t)
          | inr t ↦ turn_level (nltb→le k (plan_of p).rows t)
        ]

    -- the step whose turn it is is not refused
    accepted : (n : ℕ) → (next_step p m).answer ≢ Err n
    unfolding next_step
    accepted n =
        elim (either (ltb k (plan_of p).rows)) [
          | inl t ↦
              let l = ltb→lt k (plan_of p).rows t in
              subst (λ (s : Stepped Step). s.answer ≢ Err n) (sym (if-true (ltb k (plan_of p).rows) (row_step b k) (level_step b) t ∙ row_is l))
              (row-accepted b k (row_fill b k) n)
          | inr t ↦
              subst (λ (s : Stepped Step). s.answer ≢ Err n) (sym (if-false (ltb k (plan_of p).rows) (row_step b k) (level_step b) t ∙ level-is))
              (level-accepted b (ltb b.level (length (plan_of b.plan).levels)) (level_fill b) n)
        ]

  -- ---- turns

  goes_on : (n : ℕ) (m : Standing) → Going m → (x : Standing) → turns n m ≡ on x → Going x
  unfolding turns go_on
  goes_on zero m g x e = let same : m ≡ x = cc in subst Going same g
  goes_on (suc n) m g x e = go (take_turn m) (turn-next m g) e (goes_on n)
    where
      go : (t : Turn) → Next m t → go_on (turns n) t ≡ on x → ((m : Standing) → Going m → (x : Standing) → turns n m ≡ on x → Going x) → Going x
      go (on m) h e ih = ih m h x e
      go (end m) h e ih = let z : ◌≡◌ {A = ℕ} 0 1 = cc in absurd (omega arith)
      go (clash place) h e ih = let z : ◌≡◌ {A = ℕ} 0 1 = cc in absurd (omega arith)

  -- turns that do not run out
  stops-from : (n : ℕ) (m : Standing) → Going m → ((x : Standing) → turns n m ≢ on x) → Stops p m (turns n m)
  unfolding turns go_on
  stops-from zero m g never = absurd (never m refl)
  stops-from (suc n) m g never = go (take_turn m) refl (turn-next m g) never (stops-from n)
    where
      go : (t : Turn) → take_turn m ≡ t → Next m t → ((x : Standing) → go_on (turns n) t ≢ on x)
          → ((m : Standing) → Going m → ((x : Standing) → turns n m ≢ on x) → Stops p m (turns n m)) → Stops p m (go_on (turns n) t)
      go (on x) e h never ih =
          let f = ih x h never in
          record { taken = suc f.taken; standing = f.standing; goes = ap (go_on (turns f.taken)) e ∙ f.goes; stops = f.stops }
      go (end x) e h never ih = record { taken = 0; standing = m; goes = refl; stops = h }
      go (clash place) e h never ih = record { taken = 0; standing = m; goes = refl; stops = h }

-- ---- mending in one call

going-begun : (p : ℕ) (stripe marks : List ℕ) → Fit p stripe marks → Going p (begun p stripe marks)
unfolding fresh
going-begun p stripe marks fit = record { sound = sound-fresh p stripe marks fit; plan = refl }

pub turns-suffice : TurnsSuffice
turns-suffice p stripe marks fit m e = subst (Out p stripe marks fit) e (mended-out p stripe marks fit)

pub mending-stops : MendingStops
unfolding mended
mending-stops p stripe marks fit =
    stops-from p (length (plan_of p).levels * suc (plan_of p).rows) (begun p stripe marks) (going-begun p stripe marks fit)
    (turns-suffice p stripe marks fit)

pub no-step-refused : NoStepRefused
no-step-refused p stripe marks fit n m e = accepted p m (goes_on p n (begun p stripe marks) (going-begun p stripe marks fit) m e)

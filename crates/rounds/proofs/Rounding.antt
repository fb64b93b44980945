-- The rounds, level by level: the code's invariant, with a start, a turn for each finding, and its ends. Assumes nothing.
use mathlib.Core.Path.{◌≡◌, refl, sym, ap, ap₂, ◌∙◌, subst}
use mathlib.Core.List.{List, []}
use Prim.Native.Nat.{ℕ, suc, pred, ◌+◌, ◌*◌, ◌-◌, ◌<◌, ◌≤◌}
use native.Mathlib.Nat.{suc-mul, zero-add, add_comm}
use native.Mathlib.Numerals.{add-one, sub-one}
use native.Mathlib.Omega.{arith}
use lib.Dec.{eqb, eqb→eq}
use lib.ListN.{length, get_or, set, replicate, length-set}
use lib.Seq.{get_or-set_other}
use Rattle.std.specs.Prelude.{Option, Some, None}
use Rattle.fills.specs.Lists.{all}
use Rattle.plans.specs.Plan.{Plan, plan_of}
use Rattle.steps.specs.Steps.{learned, level_fill, raise, level_step_by, stepped}
use Rattle.steps.specs.Rounds.{Turn, end, more, turns}
use Rattle.rounds.specs.Reports.{rounds_on, rows_left, end_report, bare}
use Rattle.steps.specs.Parts.{bench_of, standing_of, Ready}
use Rattle.levels.specs.Learned.{LearnReady}
use Rattle.levels.proofs.Rising.{Leaves, learns-raised, learning-failing, learning-blocked, learning-learned}
use Rattle.walks.specs.Walk.{Settled, WalkedAll, WalkEnd, Walked, WalkReady}
use Rattle.rounds.specs.Ended.{Ended}
use Rattle.plans.specs.declared.Bench.{Bench}
use Rattle.plans.specs.declared.Report.{Report}
use Rattle.plans.specs.declared.Place.TheVariants.{Row, Across}
use Rattle.plans.specs.declared.Answer.TheVariants.{Clash}
use Rattle.levels.specs.declared.Learning.{Learning}
use Rattle.levels.specs.declared.Learning.TheVariants.{Blocked, Failing, Learned as AllLearned}
use Rattle.plans.proofs.Flat.{all_get_d}
use Rattle.plans.proofs.Plans.{shape}
use Rattle.steps.proofs.Sound.{Sound, sound-of, ready_of, sound-raise}
use Rattle.walks.proofs.Settled.{settled-raise}
use Rattle.steps.proofs.Turns.{turn-top, turn-blocked, turn-failing, turn-learned}

-- ---- the invariant

-- before a round on b: the turns to come lead where all turns from `first` do; no row was restored at b's level or above; and above level 1 every
-- row without marks has its learned sums
pub record Rounding (first b : Bench) (restored : List ℕ) : Type 0 where
  pub plan : b.plan ≡ first.plan
  pub low : 1 ≤ b.level
  pub high : b.level ≤ length (plan_of first.plan).levels
  pub sound : Sound b
  pub settled : (b.level ≡ 1 → ⊥) → Settled b
  pub three : length restored ≡ 3
  pub none_yet : (i : ℕ) → b.level ≤ suc i → get_or restored i 0 ≡ 0
  pub turned : rounds_on first.plan first
      ≡ turns (suc (length (plan_of first.plan).levels - b.level) * suc (plan_of first.plan).rows) (standing_of b 0 restored)

pub rounding-starts : (b : Bench) → Ready b → b.level ≡ 1 → Rounding b b (replicate 3 0)
unfolding all
rounding-starts b r first =
    let s = sound-of r in
    let all-levels : length (plan_of b.plan).levels ≡ suc (length (plan_of b.plan).levels - b.level) = omega (arith, s.fit.level-le, first) in
    record {
      plan = refl;
      low = omega (arith, first);
      high = s.fit.level-le;
      sound = s;
      settled = λ above. absurd (above first);
      three = refl;
      none_yet = λ i h. eqb→eq (get_or (replicate 3 0) i 0) 0 (all_get_d (λ x. eqb x 0) 0 tt (replicate 3 0) tt i);
      turned = ap (λ n. turns (n * suc (plan_of b.plan).rows) (standing_of b 0 (replicate 3 0))) all-levels;
    }

module _ {first b : Bench} {restored : List ℕ} (R : Rounding first b restored) where
  abbrev P : Plan
  P = plan_of first.plan

  pub walk-ready : WalkReady b
  walk-ready = record { ready = ready_of R.sound; settled = R.settled }

  -- the level's place among the rows restored
  pub level-place : b.level - 1 < 3
  level-place =
      let few : length P.levels ≤ 3 = subst (λ p. length (plan_of p).levels ≤ 3) R.plan (shape b.plan R.sound.fit.plan-known).levels-le in
      omega (arith, R.low, R.high)

  -- ---- the rows of a round

  abbrev whole : Turn
  whole = rounds_on first.plan first

  -- the turns that are left behind the level step
  abbrev rest : ℕ
  rest = (length P.levels - b.level) * suc P.rows

  walks : whole ≡ turns ((plan_of b.plan).rows + suc rest) (standing_of b 0 restored)
  walks =
      let turns-split : suc P.rows + rest ≡ P.rows + suc rest = omega arith in
      R.turned
      ∙ ap (λ n. turns n (standing_of b 0 restored)) (suc-mul (length P.levels - b.level) (suc P.rows) ∙ add_comm rest (suc P.rows) ∙ turns-split)
      ∙ ap (λ p. turns ((plan_of p).rows + suc rest) (standing_of b 0 restored)) (sym R.plan)

  room : pred b.level < length restored
  room = omega (arith, R.three, level-place, R.low)

  -- up to a Clash
  pub rounded-clash : (c : Bench) (failed : Option ℕ) (row filled : ℕ) → Walked b c failed filled → failed ≡ Some row
      → (r : Report) → r ≡ bare (Clash (Row row b.level)) → Ended whole r c.symbols c.marks
  rounded-clash c failed row filled w e r q =
      subst (λ t. Ended t r c.symbols c.marks) (sym (walks ∙ (subst (λ f. WalkEnd b c f filled) e w.ends).turned (suc rest) restored room)) q

  -- or all of them
  module _ (c : Bench) (failed : Option ℕ) (filled : ℕ) (w : Walked b c failed filled) (passed : failed ≡ None) where
    W : WalkedAll b c filled
    W = subst (λ f. WalkEnd b c f filled) passed w.ends

    -- the rows restored now
    abbrev now : List ℕ
    now = set restored (b.level - 1) filled

    counted : more b.level filled restored ≡ now
    unfolding more
    counted =
        let e : pred b.level ≡ b.level - 1 = sym (sub-one b.level) in
        ap₂ (λ i n. set restored i (n + filled)) e (R.none_yet (pred b.level) (omega (arith, R.low))) ∙ ap (set restored (b.level - 1)) (zero-add filled)

    -- the level step's turn, on c
    onward : whole ≡ turns (suc rest) (standing_of c (plan_of c.plan).rows now)
    onward =
        walks ∙ W.turned (suc rest) restored room
        ∙ ap₂ (λ p l. turns (suc rest) (standing_of c (plan_of p).rows l)) (sym w.plan) counted

    sound : Sound c
    sound = sound-of w.ready

    -- the report of the end, as the code makes it
    abbrev Reported : Report → Type 0
    Reported r = r ≡ end_report (standing_of (bench_of c.plan c.level [] c.marks []) 0 now)

    out : whole ≡ end (standing_of c (plan_of c.plan).rows now) → (r : Report) → Reported r → Ended whole r c.symbols c.marks
    unfolding end_report rows_left
    out e r q = subst (λ t. Ended t r c.symbols c.marks) (sym e) (q, refl, refl)

    pub rounded-top : b.level ≡ length P.levels → (r : Report) → Reported r → Ended whole r c.symbols c.marks
    rounded-top e =
        out (onward ∙ turn-top c sound.fit (w.level ∙ e ∙ ap (λ p. length (plan_of p).levels) (sym (w.plan ∙ R.plan))) rest now)

    -- it has a mark word for each row
    pub words-there : (plan_of c.plan).rows ≤ length c.marks
    words-there = w.ready.room.stripe.rows

    -- ---- the level

    module _ (ne : b.level ≡ length P.levels → ⊥) where
      low : c.level < length (plan_of c.plan).levels
      low = rw (w.level, w.plan, R.plan) (omega (arith, R.high, ne))

      pub learn-ready : LearnReady c
      learn-ready = record { level = low; room = w.ready.room }

      module _ {a : Learning} {after : List ℕ} (left : Leaves c a after) where
        pub rounded-blocked : a ≡ Blocked → (r : Report) → Reported r → Ended whole r c.symbols c.marks
        rounded-blocked k = out (onward ∙ turn-blocked c sound.fit low (learning-blocked (level_fill c) (sym left.0 ∙ k)) rest now)

        pub rounded-failing : a ≡ Failing → (r : Report) → r ≡ bare (Clash (Across (b.level + 1))) → Ended whole r c.symbols c.marks
        rounded-failing k r q =
            subst (λ t. Ended t r c.symbols c.marks)
            (sym (onward ∙ turn-failing c sound.fit low (learning-failing (level_fill c) (sym left.0 ∙ k)) rest now))
            (q ∙ ap (λ n. bare (Clash (Across n))) (add-one b.level ∙ ap suc (sym w.level)))

        module _ (k : a ≡ AllLearned) where
          told : (cs : List (List ℕ)) × (level_fill c ≡ learned cs)
          told = learning-learned (level_fill c) (sym left.0 ∙ k)

          raised : bench_of c.plan (c.level + 1) c.symbols c.marks after ≡ raise c told.0
          unfolding level_step_by stepped
          raised = (learns-raised c left k).1 ∙ ap (λ f. (level_step_by c f).bench) told.1

          pub rounding-turns : Rounding first (bench_of c.plan (c.level + 1) c.symbols c.marks after) now
          unfolding raise
          rounding-turns =
              let levels-left : length P.levels - b.level ≡ suc (length P.levels - suc c.level) = omega (arith, R.high, ne, w.level) in
              subst (λ d. Rounding first d now) (sym raised)
              record {
                plan = w.plan ∙ R.plan;
                low = omega arith;
                high = omega (arith, R.high, ne, w.level);
                sound = sound-raise c sound told.0 low told.1;
                settled = λ above. settled-raise c sound low told.0 told.1 W.settled;
                three = length-set restored (b.level - 1) filled ∙ R.three;
                none_yet = λ i g. get_or-set_other restored (b.level - 1) i filled 0 (omega (arith, R.low, w.level, g)) ∙ R.none_yet i (omega (arith, w.level, g));
                turned = onward ∙ turn-learned c sound.fit low told.0 told.1 rest now
                    ∙ ap (λ n. turns (n * suc P.rows) (standing_of (raise c told.0) 0 now)) levels-left;
              }

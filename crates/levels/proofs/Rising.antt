-- Learning a level, its checks one after the other, and the level step that it makes. Assumes nothing.
use mathlib.Core.Path.{◌≡◌, refl, sym, ap, ap₂, ◌∙◌, subst}
use mathlib.Core.Bool.{Bool}
use mathlib.Core.List.Memᴰ
use mathlib.Core.List.{List, [], ◌∷◌, ◌++◌, map}
use Prim.Native.Nat.{ℕ, suc, ◌+◌, ◌*◌, ◌^◌, ◌≤◌, ◌<◌}
use native.Mathlib.Numerals.{add-one}
use native.Mathlib.Omega.{arith}
use borrow.Author.Tests.{le-ltb, lt-ltb}
use lib.Count.{ones}
use lib.Dec.{ltb}
use lib.ListN.{length, take, drop, length-map, take-append-drop}
use lib.Seq.{length-take-le}
use Rattle.std.specs.Prelude.{Ok, Err}
use Rattle.field.specs.Lists.{when◌then◌else◌, up_from}
use Rattle.field.proofs.Lists.{length_up}
use Rattle.fills.specs.Marks.{bits_of}
use Rattle.linear.specs.Answer.{answer_of, vector_of}
use Rattle.fills.specs.Fill.{Fill, none, tied, one, vector_in}
use Rattle.linear.specs.declared.FillAnswer.{FillAnswer}
use Rattle.linear.specs.declared.FillAnswer.TheVariants.{Tied, None, One}
use Rattle.fills.proofs.Weights.{marked-bits}
use Rattle.fills.proofs.Tests.{In, in-up}
use Rattle.plans.specs.Answers.{refusal_number, refused_by}
use Rattle.plans.specs.Plan.{Plan, plan_of, level_of, checks_to}
use Rattle.steps.specs.Steps.{lossy, check_fill, Learned, failing, blocked, learned, level_fill, new_sums, keep_sums, raise, Stepped, stepped, level_step_by, level_step}
use Rattle.plans.specs.Refusal.{unasked, bench_refusal}
use Rattle.plans.specs.Tables.{check_table}
use Rattle.plans.specs.Rooms.{sum_room}
use Rattle.levels.specs.Learned.{column_of, column_fill, learning_of, Learns as LearnsTo}
use Rattle.steps.specs.Parts.{bench_of}
use Rattle.plans.specs.declared.Bench.{Bench}
use Rattle.plans.specs.declared.Refusal.{Refusal}
use Rattle.plans.specs.declared.Step.{Step}
use Rattle.plans.specs.declared.Step.TheVariants.{Blocked as StepBlocked, Raised, Top, Clash}
use Rattle.levels.specs.declared.Learning.{Learning}
use Rattle.levels.specs.declared.Learning.TheVariants.{Failing, Blocked, Learned as AllLearned}
use Rattle.plans.proofs.Flat.{row_in}
use Rattle.plans.proofs.Refusals.{accepted, its-number, refused}
use Rattle.plans.proofs.Plans.{some-check}
use Rattle.plans.proofs.Tables.{level-checks-in, sums-more}
use Rattle.levels.proofs.Keeping.{keep-none, keep-last, keep-front}
use Rattle.plans.proofs.Lossy.{lossy_from}
use Rattle.steps.proofs.Passing.{Ones, ends-failing, ones-map, Passed, passed_none, passed-one, passed-all, ones-learned}
use Rattle.steps.proofs.Sums.{keep-length}
use Rattle.steps.proofs.Answers.{answer-tied, answer-none, answer-one}
use Rattle.steps.proofs.Sound.{tied-weights}
use Rattle.steps.proofs.Ends.{bound, filled, level-blocked, lossy-blocked, free-weights, is-refused, is-taken}

-- ---- the checks of level t + 1, one after the other

-- the sums under the checks before j are learned
pub record LearnedTo (b : Bench) (rows last word j : ℕ) (kept : List ℕ) : Type 0 where
  pub high : rows ≡ (plan_of b.plan).rows
  pub end : last ≡ length (checks_to (plan_of b.plan) (suc b.level))
  pub bits : bits_of (plan_of b.plan).rows word ≡ lossy (plan_of b.plan) b.marks
  pub small : word < 2 ^ (plan_of b.plan).rows
  pub columns : List (List ℕ)
  pub passed : Passed (column_fill b (lossy (plan_of b.plan) b.marks)) (length (checks_to (plan_of b.plan) b.level))
      (length (level_of (plan_of b.plan) (suc b.level)).checks) columns j
  pub written : kept ≡ keep_sums (length (checks_to (plan_of b.plan) b.level)) (map (new_sums columns) (up_from 0 (plan_of b.plan).rows)) b.sums

-- what learning answers, and the bench that it leaves
abbrev pub Learns : Bench → Learning → Bench → Type 0
Learns b r c = (r ≡ learning_of (level_fill b)) × (c ≡ (level_step_by b (level_fill b)).bench)

-- what the code's answer says of the level
pub learning-failing : (f : Learned) → learning_of f ≡ Failing → f ≡ failing
unfolding learning_of
learning-failing failing e = refl
learning-failing blocked e = cc
learning-failing (learned cs) e = cc

pub learning-blocked : (f : Learned) → learning_of f ≡ Blocked → f ≡ blocked
unfolding learning_of
learning-blocked failing e = cc
learning-blocked blocked e = refl
learning-blocked (learned cs) e = cc

pub learning-learned : (f : Learned) → learning_of f ≡ AllLearned → (cs : List (List ℕ)) × (f ≡ learned cs)
unfolding learning_of
learning-learned failing e = cc
learning-learned blocked e = cc
learning-learned (learned cs) e = (cs, refl)

-- a column is filled by plan, level and symbols alone
pub column-parts : (b : Bench) (ms : List Bool) (j : ℕ) → column_fill (bench_of b.plan b.level b.symbols [] []) ms j ≡ column_fill b ms j
unfolding column_of column_fill
column-parts b ms j = refl

pub sums-parts : (b : Bench) (j : ℕ) → column_of (bench_of b.plan b.level b.symbols [] []) j ≡ column_of b j
unfolding column_of
sums-parts b j = refl

-- ---- how the level ends, by the checks as they stand in the table, from k on

module _ (b : Bench) where
  abbrev P : Plan
  P = plan_of b.plan

  abbrev in_table : ℕ → List ℕ
  in_table = row_in P.columns (check_table P)

  abbrev k : ℕ
  k = length (checks_to P b.level)

  abbrev m : ℕ
  m = length (level_of P (suc b.level)).checks

  abbrev fill_at : ℕ → Fill
  fill_at = column_fill b (lossy P b.marks)

  level-failing : (j : ℕ) → k ≤ j → j < k + m → fill_at j ≡ none → level_fill b ≡ failing
  unfolding level_fill check_fill column_of column_fill
  level-failing j low high e =
      ends-failing (check_fill b) (filled b) (bound b) (level_of P (suc b.level)).checks (in_table j)
      (subst (In (in_table j)) (level-checks-in b.plan b.level) (Memᴰ.map in_table (in-up k m j low high))) e

  level-tied : (j : ℕ) → fill_at j ≡ tied → level_fill b ≡ blocked
  unfolding check_fill column_of column_fill
  level-tied j e = level-blocked b (tied-weights b (in_table j) e)

  level-learned : b.level < length P.levels → (cs : List (List ℕ)) → Ones fill_at (up_from k m) cs → level_fill b ≡ learned cs
  unfolding level_fill check_fill column_of column_fill vector_in
  level-learned low cs o =
      let checks = (level_of P (suc b.level)).checks in
      let all : Ones (check_fill b) checks cs = subst (λ xs. Ones (check_fill b) xs cs) (level-checks-in b.plan b.level) (ones-map (check_fill b) in_table (up_from k m) cs o) in
      ones-learned (check_fill b) (filled b) (bound b) (free-weights b checks cs (some-check b.plan b.level low) all)
      (λ c v e. ap vector_in e) checks cs all

  -- as the definition does
  learns-failing : level_fill b ≡ failing → Learns b Failing b
  unfolding learning_of level_step_by stepped
  learns-failing e = rw e (refl, refl)

  learns-blocked : level_fill b ≡ blocked → Learns b Blocked b
  unfolding learning_of level_step_by stepped
  learns-blocked e = rw e (refl, refl)

  learns-learned : (cs : List (List ℕ)) → level_fill b ≡ learned cs → Learns b AllLearned (raise b cs)
  unfolding learning_of level_step_by stepped
  learns-learned cs e = rw e (refl, refl)

  pub learned-starts : {rows first last word : ℕ} → rows ≡ P.rows
      → first ≡ length (checks_to P b.level) → last ≡ length (checks_to P (suc b.level)) → (bits_of rows word ≡ lossy_from b.marks 0 rows) × (word < 2 ^ rows)
      → LearnedTo b rows last word first b.sums
  unfolding lossy
  learned-starts {rows} {first} {last} {word} high start end told = record {
    high = high;
    end = end;
    bits = ap (λ r. bits_of r word) (sym high) ∙ told.0 ∙ ap (lossy_from b.marks 0) high;
    small = rw high at told.1;
    columns = [];
    passed = rw start (passed_none _ _ _);
    written = sym (keep-none _ (up_from 0 P.rows) b.sums);
  }

  -- more rows with marks than totals block it
  pub learned-lossy : {rows totals word : ℕ} → rows ≡ P.rows → totals ≡ length (level_of P (suc b.level)).weights
      → (bits_of rows word ≡ lossy_from b.marks 0 rows) × (word < 2 ^ rows) → totals < ones word → Learns b Blocked b
  unfolding lossy
  learned-lossy {rows} {totals} {word} high count told many =
      let bits : bits_of rows word ≡ lossy P b.marks = told.0 ∙ ap (lossy_from b.marks 0) high in
      learns-blocked (lossy-blocked b (rw (← count, ← bits, marked-bits rows word told.1) many))

module _ {b : Bench} {rows last word j : ℕ} {kept : List ℕ} (s : LearnedTo b rows last word j kept) where
  -- the sums have not grown
  pub learned-long : length kept ≡ length b.sums
  learned-long = ap length s.written ∙ keep-length (length (checks_to (plan_of b.plan) b.level)) (map (new_sums s.columns) (up_from 0 (plan_of b.plan).rows)) b.sums

  pub learned-ends : b.level < length (plan_of b.plan).levels → last ≤ j → Learns b AllLearned (bench_of b.plan (b.level + 1) b.symbols b.marks kept)
  unfolding raise
  learned-ends low all =
      rw (add-one b.level, s.written)
      (learns-learned b s.columns (level-learned b low s.columns (passed-all _ _ _ (rw (← sums-more (plan_of b.plan) b.level, ← s.end) all) s.passed)))

  module _ (more : j < last) where
    pub learned-here : j < length (checks_to (plan_of b.plan) (suc b.level))
    learned-here = rw (← s.end) more

    within : j < length (checks_to (plan_of b.plan) b.level) + length (level_of (plan_of b.plan) (suc b.level)).checks
    within = rw (← sums-more (plan_of b.plan) b.level) learned-here

    module _ {a : FillAnswer} (answer : a ≡ answer_of (column_fill b (bits_of (plan_of b.plan).rows word) j)) where
      -- of the rows that have marks
      told : answer_of (column_fill b (lossy (plan_of b.plan) b.marks) j) ≡ a
      told = sym (answer ∙ ap (λ ms. answer_of (column_fill b ms j)) s.bits)

      pub learned-blocked : a ≡ Tied → Learns b Blocked b
      learned-blocked e = learns-blocked b (level-tied b j (answer-tied _ (told ∙ e)))

      pub learned-failing : a ≡ None → Learns b Failing b
      learned-failing e = learns-failing b (level-failing b j (omega (arith, s.passed.count)) within (answer-none _ (told ∙ e)))

      -- one column more
      pub learned-next : {column next : List ℕ} → length column ≡ (plan_of b.plan).rows → a ≡ One
          → column ≡ vector_of (column_fill b (bits_of (plan_of b.plan).rows word) j) (column_of b j)
          → next ≡ keep_sums j (map (new_sums (column ∷ [])) (up_from 0 (length column))) kept
          → LearnedTo b rows last word (j + 1) next
      learned-next {column} long e filled keeps =
          let P = plan_of b.plan in
          let at = length (checks_to P b.level) in
          let rs = up_from 0 P.rows in
          record {
            high = s.high;
            end = s.end;
            bits = s.bits;
            small = s.small;
            columns = s.columns ++ (column ∷ []);
            passed = passed-one _ _ _ within
                (answer-one _ (column_of b j) (told ∙ e)
                ∙ ap one (ap (λ ms. vector_of (column_fill b ms j) (column_of b j)) (sym s.bits) ∙ sym filled)) s.passed;
            written =
                keeps
                ∙ ap₂ (λ r l. keep_sums j (map (new_sums (column ∷ [])) (up_from 0 r)) l) long s.written
                ∙ ap (λ i. keep_sums i (map (new_sums (column ∷ [])) rs) (keep_sums at (map (new_sums s.columns) rs) b.sums)) (sym s.passed.count)
                ∙ keep-last at s.columns column rs b.sums;
          }

-- ---- by a bench's parts

-- what learning answers, and the sums that it leaves
abbrev pub Leaves : Bench → Learning → (after : List ℕ) → Type 0
Leaves b r after = (r ≡ learning_of (level_fill b)) × (after ≡ (level_step_by b (level_fill b)).bench.sums)

module _ (p t : ℕ) (symbols marks sums : List ℕ) where
  -- the bench of the first n sums alone: learning looks at no sums
  abbrev of_front : ℕ → Bench
  of_front n = bench_of p t symbols marks (take n sums)

  same-fill : (n : ℕ) → level_fill (of_front n) ≡ level_fill (bench_of p t symbols marks sums)
  unfolding level_fill check_fill
  same-fill n = refl

  pub leaves-failing : (n : ℕ) {c : Bench} → Learns (of_front n) Failing c → Leaves (bench_of p t symbols marks sums) Failing sums
  unfolding learning_of level_step_by stepped
  leaves-failing n w = rw (sym (same-fill n) ∙ learning-failing _ (sym w.0)) (refl, refl)

  pub leaves-blocked : (n : ℕ) {c : Bench} → Learns (of_front n) Blocked c → Leaves (bench_of p t symbols marks sums) Blocked sums
  unfolding learning_of level_step_by stepped
  leaves-blocked n w = rw (sym (same-fill n) ∙ learning-blocked _ (sym w.0)) (refl, refl)

  -- the rows' places are written, and what stands behind them stays
  pub leaves-learned : {n : ℕ} {kept : List ℕ} → n ≡ (plan_of p).rows * sum_room → n ≤ length sums
      → Learns (of_front n) AllLearned (bench_of p (t + 1) symbols marks kept)
      → Leaves (bench_of p t symbols marks sums) AllLearned (kept ++ drop n sums)
  unfolding learning_of level_step_by stepped raise
  leaves-learned {n} {kept} size room w =
      let told = learning-learned _ (sym w.0) in
      let k = length (checks_to (plan_of p) t) in
      let news = map (new_sums told.0) (up_from 0 (plan_of p).rows) in
      let made : kept ≡ keep_sums k news (take n sums) =
      ap (λ (c : Bench). c.sums) w.1 ∙ ap (λ f. (level_step_by (of_front n) f).bench.sums) told.1 in
      let fits : length news * sum_room ≤ length (take n sums) =
      rw (length-map (up_from 0 (plan_of p).rows) (new_sums told.0), length_up 0 (plan_of p).rows, length-take-le n sums room) (omega (arith, size)) in
      let whole : kept ++ drop n sums ≡ keep_sums k news sums =
      ap (λ l. l ++ drop n sums) made ∙ sym (keep-front k news (take n sums) (drop n sums) fits) ∙ ap (keep_sums k news) (take-append-drop n sums) in
      rw (sym (same-fill n) ∙ told.1) (refl, whole)

module _ (b : Bench) {r : Learning} {after : List ℕ} (left : Leaves b r after) where
  -- the bench of these sums is the level step's: its level is one higher where they are learned
  pub learns-failed : r ≡ Failing → Learns b r (bench_of b.plan b.level b.symbols b.marks after)
  unfolding level_step_by stepped
  learns-failed e =
      let q = learning-failing _ (sym left.0 ∙ e) in
      (left.0, rw (left.1, q) refl)

  pub learns-stuck : r ≡ Blocked → Learns b r (bench_of b.plan b.level b.symbols b.marks after)
  unfolding level_step_by stepped
  learns-stuck e =
      let q = learning-blocked _ (sym left.0 ∙ e) in
      (left.0, rw (left.1, q) refl)

  pub learns-raised : r ≡ AllLearned → Learns b r (bench_of b.plan (b.level + 1) b.symbols b.marks after)
  unfolding level_step_by stepped raise
  learns-raised e =
      let told = learning-learned _ (sym left.0 ∙ e) in
      (left.0, rw (left.1, told.1, add-one b.level) refl)

  -- where all are learned they are those of the level raised
  pub leaves-raised : LearnsTo b r after
  unfolding level_step_by stepped
  leaves-raised = record { answer = left.0; sums = λ cs e. left.1 ∙ ap (λ f. (level_step_by b f).bench.sums) e }

-- ---- the level step

module _ (b : Bench) where
  abbrev step : Bool → Stepped Step
  step below = when below then level_step_by b (level_fill b) else stepped b (Ok Top)

  abbrev below : Bool
  below = ltb b.level (length (plan_of b.plan).levels)

  pub step-refused : (why : Refusal) → refused_by (Err why) ≡ bench_refusal b unasked → stepped b (Err (refusal_number why)) ≡ level_step b
  unfolding level_step
  step-refused why e = rw (its-number why e) (is-refused _ b (step below) (refused why e))

  module _ (e : refused_by (Ok tt) ≡ bench_refusal b unasked) where
    pub step-top : length (plan_of b.plan).levels ≤ b.level → stepped b (Ok Top) ≡ level_step b
    unfolding when◌then◌else◌ level_step
    step-top h = sym (is-taken b (step below) (accepted e) ∙ ap step (le-ltb _ _ h))

    module _ (low : b.level < length (plan_of b.plan).levels) where
      taken : level_step_by b (level_fill b) ≡ level_step b
      unfolding when◌then◌else◌ level_step
      taken = sym (is-taken b (step below) (accepted e) ∙ ap step (lt-ltb _ _ low))

      module _ {r : Learning} {c : Bench} (learns : Learns b r c) where
        pub step-failing : r ≡ Failing → stepped c (Ok Clash) ≡ level_step b
        unfolding level_step_by stepped
        step-failing h =
            let q = learning-failing _ (sym learns.0 ∙ h) in
            let left : c ≡ b = rw q at learns.1 in rw left (rw q at taken)

        pub step-blocked : r ≡ Blocked → stepped c (Ok StepBlocked) ≡ level_step b
        unfolding level_step_by stepped
        step-blocked h =
            let q = learning-blocked _ (sym learns.0 ∙ h) in
            let left : c ≡ b = rw q at learns.1 in rw left (rw q at taken)

        pub step-raised : r ≡ AllLearned → stepped c (Ok Raised) ≡ level_step b
        unfolding level_step_by stepped
        step-raised h =
            let told = learning-learned _ (sym learns.0 ∙ h) in
            let left : c ≡ raise b told.0 = rw told.1 at learns.1 in rw left (rw told.1 at taken)

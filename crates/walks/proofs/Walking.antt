-- The walk over the rows of a round: its invariant, with a start, a turn for each finding, and its two ends. Assumes nothing.
use mathlib.Core.Path.{◌≡◌, refl, sym, ap, ap₂, ◌∙◌, subst}
use mathlib.Core.List.{List}
use Rattle.std.specs.Prelude.{Some, None}
use Prim.Native.Nat.{ℕ, suc, pred, ◌+◌, ◌*◌, ◌-◌, ◌<◌, ◌≤◌}
use native.Mathlib.Numerals.{add-one}
use native.Mathlib.Decide.{ℕ_discrete}
use native.Mathlib.Omega.{arith}
use lib.ListN.{length, drop, get_or, set, length-map}
use lib.Seq.{sets, ext_get_or, get_or-take, get_or-drop, get_or-set_other}
use Rattle.linear.specs.Answer.{answer_of, vector_of}
use Rattle.fills.specs.Fill.{sums_of, Fill, tied, none, one}
use Rattle.plans.specs.Plan.{plan_of, checks_to, row_at, marks_at}
use Rattle.plans.specs.Refusal.{sums_at}
use Rattle.plans.specs.Rooms.{sum_room}
use Rattle.steps.specs.Steps.{row_fill, put_row}
use Rattle.steps.specs.Rounds.{clash, more, turns}
use Rattle.steps.specs.Parts.{bench_of, standing_of}
use Rattle.rows.specs.Filled.{fill_at}
use Rattle.walks.specs.Walk.{HasSums, Walked, WalkReady}
use Rattle.plans.specs.declared.Bench.{Bench}
use Rattle.plans.specs.declared.Place.TheVariants.{Row}
use Rattle.linear.specs.declared.FillAnswer.{FillAnswer}
use Rattle.linear.specs.declared.FillAnswer.TheVariants.{Tied, None as NoFill, One}
use Rattle.plans.proofs.Rows.{of-rows, row-end, row-length, row-again}
use Rattle.steps.proofs.Answers.{answer-tied, answer-none, answer-one}
use Rattle.steps.proofs.Sound.{Sound, sound-of, ready_of, row-place, sound-put}
use Rattle.plans.proofs.Plans.{shape}
use Rattle.steps.proofs.Levels.{checks-le, sums-length}
use Rattle.walks.proofs.Settled.{whole-untied, whole-fill, whole-none, put_whole, put_has, put-has-other}
use Rattle.steps.proofs.Turns.{more-none, turn-tied, turn-none, turn-whole, turn-filled}

-- after the rows below `row`, `filled` of them filled: bench c is of the plan, level and sums of bench b; the turns still to come lead where
-- the whole round does; and every row without marks has its learned sums, at level 1 as far as it was looked at
pub record Walking (b c : Bench) (row filled : ℕ) : Type 0 where
  pub plan : c.plan ≡ b.plan
  pub level : c.level ≡ b.level
  pub sums : c.sums ≡ b.sums
  pub few : filled ≤ row
  pub sound : Sound c
  pub settled : (r : ℕ) → r < (plan_of c.plan).rows → (c.level ≡ 1 → r < row) → get_or c.marks r 0 ≡ 0 → HasSums c r
  pub turned : (n : ℕ) (restored : List ℕ) → pred b.level < length restored
      → turns ((plan_of b.plan).rows + n) (standing_of b 0 restored)
      ≡ turns ((plan_of b.plan).rows - row + n) (standing_of c row (more b.level filled restored))

-- how many checks a row without marks is tested by: all of them at level 1, none above
pub record Tested (b : Bench) (count : ℕ) : Type 0 where
  pub first : b.level ≡ 1 → count ≡ length (checks_to (plan_of b.plan) b.level)
  pub later : (b.level ≡ 1 → ⊥) → count ≡ 0

pub tested-first : (b : Bench) {count : ℕ} → b.level ≡ 1 → count ≡ length (checks_to (plan_of b.plan) 1) → Tested b count
tested-first b e q = record { first = λ _. q ∙ ap (λ t. length (checks_to (plan_of b.plan) t)) (sym e); later = λ ne. absurd (ne e) }

pub tested-later : (b : Bench) {count : ℕ} → (b.level ≡ 1 → ⊥) → count ≡ 0 → Tested b count
tested-later b ne q = record { first = λ e. absurd (ne e); later = λ _. q }

pub walking_start : (b : Bench) → WalkReady b → Walking b b 0 0
walking_start b w = record {
  plan = refl;
  level = refl;
  sums = refl;
  few = omega arith;
  sound = sound-of w.ready;
  settled = λ r h g z. w.settled (λ e. omega (arith, g e)) r h z;
  turned = λ n restored h. sym (ap (λ l. turns ((plan_of b.plan).rows - 0 + n) (standing_of b 0 l)) (more-none b.level restored)
      ∙ ap (λ k. turns k (standing_of b 0 restored)) (omega arith));
}

module _ {b c : Bench} {row filled : ℕ} (W : Walking b c row filled) (inside : row < (plan_of b.plan).rows) where
  pub here : row < (plan_of c.plan).rows
  here = rw W.plan inside

  -- one turn is taken from those to come
  next : (n : ℕ) → (plan_of b.plan).rows - row + n ≡ suc ((plan_of b.plan).rows - (row + 1) + n)
  next n = omega arith

  -- where this row has its sums, one row more has them
  settle : (get_or c.marks row 0 ≡ 0 → HasSums c row)
      → (r : ℕ) → r < (plan_of c.plan).rows → (c.level ≡ 1 → r < row + 1) → get_or c.marks r 0 ≡ 0 → HasSums c r
  settle own =
      of-rows (λ r. (c.level ≡ 1 → r < row + 1) → get_or c.marks r 0 ≡ 0 → HasSums c r) row (λ g. own) (λ r h ne g. W.settled r h (λ e. omega (arith, ne, g e)))

  -- the row is left, and the bench with it
  stay : (get_or c.marks row 0 ≡ 0 → HasSums c row)
      → ((n : ℕ) (restored : List ℕ) → turns (suc n) (standing_of c row restored) ≡ turns n (standing_of c (suc row) restored))
      → Walking b c (row + 1) filled
  stay own h = record {
    plan = W.plan;
    level = W.level;
    sums = W.sums;
    few = omega (arith, W.few);
    sound = W.sound;
    settled = settle own;
    turned = λ n restored l. W.turned n restored l
        ∙ ap (λ k. turns k (standing_of c row (more b.level filled restored))) (next n)
        ∙ h ((plan_of b.plan).rows - (row + 1) + n) (more b.level filled restored)
        ∙ ap (λ k. turns ((plan_of b.plan).rows - (row + 1) + n) (standing_of c k (more b.level filled restored))) (sym (add-one row));
  }

  place : row * (plan_of c.plan).columns + (plan_of c.plan).columns ≤ length c.symbols
  place = row-place c W.sound.fit row here W.sound.room

  -- ---- a row without marks

  walking-whole : get_or c.marks row 0 ≡ 0 → row_fill c row ≡ one (row_at (plan_of c.plan) c.symbols row) → Walking b c (row + 1) filled
  walking-whole z e =
      let same = put_whole c W.sound row here z in
      stay (λ z. subst (λ d. HasSums d row) same (put_has c W.sound row here (row_at (plan_of c.plan) c.symbols row) e))
      (turn-whole c W.sound.fit row here (row_at (plan_of c.plan) c.symbols row) e z same)

  few-checks : length (checks_to (plan_of c.plan) c.level) ≤ sum_room
  few-checks = omega (arith, checks-le (plan_of c.plan) W.sound.fit.level-le, (shape c.plan W.sound.fit.plan-known).sums-le)

  own-sums : row * sum_room + sum_room ≤ length c.sums
  own-sums = omega (arith, row-end sum_room here, W.sound.room.learned)

  abbrev sums_here : List ℕ
  sums_here = sums_of (plan_of c.plan).field (checks_to (plan_of c.plan) c.level) (row_at (plan_of c.plan) c.symbols row)

  sum-at : (i : ℕ) → i < length (checks_to (plan_of c.plan) c.level) → get_or (sums_at (plan_of c.plan) c.level c.sums row) i 0 ≡ get_or c.sums (row * sum_room + i) 0
  unfolding sums_at
  sum-at i h = get_or-take (length (checks_to (plan_of c.plan) c.level)) (drop (row * sum_room) c.sums) i 0 h ∙ get_or-drop (row * sum_room) c.sums i 0

  -- every check was passed: the sums are those learned, one by one
  walking-checked : get_or c.marks row 0 ≡ 0
      → ((i : ℕ) → i < length (checks_to (plan_of c.plan) c.level) → get_or sums_here i 0 ≡ get_or c.sums (row * sum_room + i) 0)
      → Walking b c (row + 1) filled
  unfolding sums_of
  walking-checked z h =
      let P = plan_of c.plan in
      let e : length sums_here ≡ length (checks_to P c.level) = length-map (checks_to P c.level) _ in
      walking-whole z
      (whole-fill c W.sound row here z
      (ext_get_or 0 sums_here (sums_at P c.level c.sums row) (e ∙ sym (sums-length P c.level c.sums row few-checks own-sums))
      (λ i l. h i (omega arith) ∙ sym (sum-at i (omega arith)))))

  -- the checks that it is tested by are its level's
  module _ {count : ℕ} (w : Tested b count) where
    pub tested-within : count ≤ length (checks_to (plan_of c.plan) c.level)
    tested-within = rw (W.plan, W.level) (elim (ℕ_discrete b.level 1) [ yes e ↦ omega (arith, w.first e) | no ne ↦ omega (arith, w.later ne) ])

    -- each was passed; above level 1 it is not looked at, and has its sums
    pub walking-tested : get_or c.marks row 0 ≡ 0 → ((i : ℕ) → i < count → get_or sums_here i 0 ≡ get_or c.sums (row * sum_room + i) 0)
        → Walking b c (row + 1) filled
    walking-tested z h =
        elim (ℕ_discrete b.level 1) [
          | yes e ↦ walking-checked z (λ i l. h i (rw (w.first e, ← W.plan, ← W.level) l))
          | no ne ↦ walking-whole z (whole-fill c W.sound row here z (W.settled row here (λ e. absurd (ne (sym W.level ∙ e))) z))
        ]

  -- ---- a row with marks

  walking-tied : row_fill c row ≡ tied → Walking b c (row + 1) filled
  walking-tied e = stay (λ z. absurd (whole-untied c W.sound row here z e)) (turn-tied c W.sound.fit row here e)

  walking-filled : (v : List ℕ) → (get_or c.marks row 0 ≡ 0 → ⊥) → row_fill c row ≡ one v → Walking b (put_row c row v) (row + 1) (filled + 1)
  unfolding put_row
  walking-filled v nz e = record {
    plan = W.plan;
    level = W.level;
    sums = W.sums;
    few = omega (arith, W.few);
    sound = sound-put c W.sound row v here e;
    settled =
        of-rows (λ r. (c.level ≡ 1 → r < row + 1) → get_or (set c.marks row 0) r 0 ≡ 0 → HasSums (put_row c row v) r) row
        (λ g z. put_has c W.sound row here v e)
        (λ r h ne g z. put-has-other c W.sound row here v e r ne
        (W.settled r h (λ e. omega (arith, ne, g e)) (sym (get_or-set_other c.marks row r 0 0 ne) ∙ z)));
    turned = λ n restored l. W.turned n restored l
        ∙ ap (λ k. turns k (standing_of c row (more b.level filled restored))) (next n)
        ∙ rw (← W.level) (turn-filled c W.sound.fit row here v e nz ((plan_of b.plan).rows - (row + 1) + n) filled restored (rw W.level l))
        ∙ ap₂ (λ k m. turns ((plan_of b.plan).rows - (row + 1) + n) (standing_of (put_row c row v) k (more b.level m restored))) (sym (add-one row)) (sym (add-one filled));
  }

  -- ---- the row's checks fail

  walked-clash : row_fill c row ≡ none → Walked b c (Some row) filled
  walked-clash e = record {
    plan = W.plan;
    level = W.level;
    sums = W.sums;
    ready = ready_of W.sound;
    few = omega (arith, W.few);
    ends = record {
      inside = inside;
      turned = λ n restored l. W.turned n restored l
          ∙ ap (λ k. turns k (standing_of c row (more b.level filled restored))) (next n)
          ∙ turn-none c W.sound.fit row here e ((plan_of b.plan).rows - (row + 1) + n) (more b.level filled restored)
          ∙ ap (λ t. clash (Row row t)) W.level;
    };
  }

  -- one check was not passed
  pub walked-failed : get_or c.marks row 0 ≡ 0 → (j : ℕ) → j < length (checks_to (plan_of c.plan) c.level)
      → (get_or sums_here j 0 ≡ get_or c.sums (row * sum_room + j) 0 → ⊥) → Walked b c (Some row) filled
  walked-failed z j h ne = walked-clash (whole-none c W.sound row here z (λ e. ne (ap (λ l. get_or l j 0) e ∙ sum-at j h)))

  -- ---- by what the row's fill answers

  -- the fill, of the plan and level that the walk began with
  abbrev found : Fill
  found = fill_at (plan_of b.plan) b.level c.sums (get_or c.marks row 0) c.symbols row

  found_is : found ≡ row_fill c row
  unfolding row_fill marks_at
  found_is = rw (W.plan, W.level)

  module _ {a : FillAnswer} {symbols : List ℕ} (told : a ≡ answer_of found)
      (left : symbols ≡ sets c.symbols (row * (plan_of b.plan).columns) (vector_of found (row_at (plan_of b.plan) c.symbols row))) where
    answer : a ≡ answer_of (row_fill c row)
    answer = told ∙ ap answer_of found_is

    l : symbols ≡ sets c.symbols (row * (plan_of c.plan).columns) (vector_of (row_fill c row) (row_at (plan_of c.plan) c.symbols row))
    l = left ∙ ap₂ (λ f p. sets c.symbols (row * (plan_of p).columns) (vector_of f (row_at (plan_of p) c.symbols row))) found_is (sym W.plan)

    abbrev at : List ℕ
    at = row_at (plan_of c.plan) c.symbols row

    -- the fill leaves the row as it was
    same_row : vector_of (row_fill c row) at ≡ at → c.symbols ≡ symbols
    same_row e =
        let P = plan_of c.plan in
        sym (l ∙ ap (sets c.symbols (row * P.columns)) e ∙ row-again P row at c.symbols (row-length P c.symbols row place) place refl)

    pub answered-tied : a ≡ Tied → Walking b (bench_of c.plan c.level symbols c.marks c.sums) (row + 1) filled
    unfolding vector_of
    answered-tied k =
        let e = answer-tied (row_fill c row) (sym answer ∙ k) in
        subst (λ s. Walking b (bench_of c.plan c.level s c.marks c.sums) (row + 1) filled) (same_row (ap (λ f. vector_of f at) e)) (walking-tied e)

    pub answered-none : a ≡ NoFill → Walked b (bench_of c.plan c.level symbols c.marks c.sums) (Some row) filled
    unfolding vector_of
    answered-none k =
        let e = answer-none (row_fill c row) (sym answer ∙ k) in
        subst (λ s. Walked b (bench_of c.plan c.level s c.marks c.sums) (Some row) filled) (same_row (ap (λ f. vector_of f at) e)) (walked-clash e)

    pub answered-one : (get_or c.marks row 0 ≡ 0 → ⊥) → a ≡ One → Walking b (bench_of c.plan c.level symbols (set c.marks row 0) c.sums) (row + 1) (filled + 1)
    unfolding put_row
    answered-one nz k =
        let v = vector_of (row_fill c row) (row_at (plan_of c.plan) c.symbols row) in
        subst (λ s. Walking b (bench_of c.plan c.level s (set c.marks row 0) c.sums) (row + 1) (filled + 1)) (sym l)
        (walking-filled v nz (answer-one (row_fill c row) (row_at (plan_of c.plan) c.symbols row) (sym answer ∙ k)))

-- no row's checks fail
pub walked_end : {b c : Bench} {row filled : ℕ} → Walking b c row filled → (plan_of b.plan).rows ≤ row → row ≤ (plan_of b.plan).rows → Walked b c None filled
walked_end {b} {c} {row} {filled} W all upto = record {
  plan = W.plan;
  level = W.level;
  sums = W.sums;
  ready = ready_of W.sound;
  few = omega (arith, W.few);
  ends = record {
    settled = λ r h z. W.settled r h (λ one. let k : r < (plan_of b.plan).rows = rw (← W.plan) h in omega arith) z;
    turned = λ n restored l. W.turned n restored l
        ∙ ap₂ (λ k r. turns k (standing_of c r (more b.level filled restored))) (omega arith) (omega arith);
  };
}

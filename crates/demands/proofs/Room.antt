-- Room: the steps read and change nothing beyond the plan's size, and no sums of levels above the one reached. Assumes nothing.
use mathlib.Core.Path.{◌≡◌, refl, sym, ap, ap₂, ◌∙◌, subst}
use mathlib.Core.Logic.{inl, inr}
use mathlib.Core.Bool.{Bool, true, false, not, ◌&&◌}
use mathlib.Core.List.{List, [], ◌∷◌, map}
use Prim.Native.Nat.{ℕ, zero, suc, ◌+◌, ◌*◌, ◌-◌, ◌^◌, ◌<◌, ◌≤◌, min}
use native.Mathlib.Nat.{add-sub_of_le, le_refl, le_trans}
use native.Mathlib.Omega.{arith}
use lib.Dec.{T, eqb, ltb, ltb→lt, nltb→le}
use lib.ListN.{length, take, drop, get_or, set, length-append, length-map, length-take, length-drop}
use lib.Seq.{sets, drop-drop, drop-set-lt, take-set-lt, take-take, get_or-take, ext_get_or, length-sets}
use Rattle.std.specs.Prelude.{Ok}
use Rattle.field.specs.Lists.{when◌then◌else◌, up_from}
use Rattle.field.specs.Field.{size, dot}
use Rattle.field.proofs.Lists.{get_or-map-below, map-up-same}
use Rattle.fills.specs.Lists.{all, zeros}
use Rattle.fills.specs.Marks.{bits_of}
use Rattle.fills.specs.Fill.{dependent, Fill, none, tied, one, fill, vector_in}
use Rattle.fills.proofs.Tests.{either}
use Rattle.plans.specs.Plan.{Plan, Level, known, plan_of, level_of, checks_to, row_at, marks_at, across}
use Rattle.plans.specs.Refusal.{unasked, marks_fit, all_below, unmarked_below, symbols_fit, sums_at, sums_fit, level_fits, bench_refusal, first_failed, bench_tests}
use Rattle.plans.specs.Rooms.{sum_room}
use Rattle.steps.specs.Steps.{Stepped, stepped, unless_refused, row_fill, put_row, row_step_by, row_step, lossy, check_fill, Learned, blocked, failing, learned, level_fill, new_sums, raise, level_step_by, level_step}
use Rattle.steps.specs.Parts.{bench_of}
use Rattle.plans.specs.declared.Bench.{Bench}
use Rattle.plans.specs.declared.Step.{Step}
use Rattle.plans.specs.declared.Step.TheVariants.{Whole, Filled, Top}
use Rattle.plans.proofs.Rows.{row-end}
use Rattle.words.proofs.Stores.{take-sets, drop-sets-before, sets-out}
use Rattle.steps.proofs.Sums.{keep-length, keep-part, keep-room}
use Rattle.plans.proofs.Flat.{row_in}
use Rattle.plans.proofs.Parts.{rows-of, rows-front}
use Rattle.steps.proofs.Levels.{checks-suc, checks-le}
use Rattle.plans.proofs.Plans.{shape}
use Rattle.steps.proofs.Fit.{BenchFit, bench-fit}
use Rattle.steps.proofs.Passing.{ends}
use Rattle.steps.proofs.Sound.{filled_row, learned-length}
use Rattle.demands.specs.Words.{Move, on_row, on_level, after, walk, SameStep}
use Rattle.demands.specs.Room.{SameRead, RowStepReads, LevelStepReads, WalkReads, places_at, RoomKept, StepsKeepRoom, WalksKeepRoom}
use Rattle.demands.proofs.Blind.{sets-alike, all_same}

-- ---- a step, case by case

-- what holds of a bench, of it with a filled row, and of it raised, holds after each step
pub by-step : (S : Bench → Type 0) (b : Bench) → S b
    → (BenchFit b → (r : ℕ) → r < (plan_of b.plan).rows → (row : List ℕ) → row_fill b r ≡ one row → S (put_row b r row))
    → (BenchFit b → b.level < length (plan_of b.plan).levels → (cs : List (List ℕ)) → level_fill b ≡ learned cs → S (raise b cs))
    → (m : Move) → S (after b m)
unfolding when◌then◌else◌ row_step level_step unless_refused stepped row_step_by level_step_by
by-step S b same put raised (on_row r) = go (bench_refusal b (ltb r (plan_of b.plan).rows)) refl (row_fill b r) refl
  where
    go : (n : ℕ) → bench_refusal b (ltb r (plan_of b.plan).rows) ≡ n → (a : Fill) → row_fill b r ≡ a → S (unless_refused n b (row_step_by b r a)).bench
    go (suc n) e a d = same
    go zero e tied d = same
    go zero e none d = same
    go zero e (one row) d =
        let f = bench-fit b (ltb r (plan_of b.plan).rows) e in put f.0 r (ltb→lt r (plan_of b.plan).rows f.1) row d
by-step S b same put raised on_level = go (bench_refusal b unasked) refl (ltb b.level (length (plan_of b.plan).levels)) refl (level_fill b) refl
  where
    go : (n : ℕ) → bench_refusal b unasked ≡ n → (low : Bool) → ltb b.level (length (plan_of b.plan).levels) ≡ low
        → (a : Learned) → level_fill b ≡ a → S (unless_refused n b (when low then level_step_by b a else stepped b (Ok Top))).bench
    go (suc n) e low q a d = same
    go zero e false q a d = same
    go zero e true q blocked d = same
    go zero e true q failing d = same
    go zero e true q (learned cs) d =
        raised (bench-fit b unasked e).0 (ltb→lt b.level (length (plan_of b.plan).levels) (subst T (sym q) tt)) cs d

-- a bench with other symbols, marks and sums
abbrev with : Bench → (symbols marks sums : List ℕ) → Bench
with b s m u = bench_of b.plan b.level s m u

-- steps on benches that are refused alike and filled alike
module _ (R : Bench → Bench → Type 0) (b : Bench) (s m u : List ℕ) (own : R b (with b s m u))
    (refused : (row : Bool) → bench_refusal b row ≡ bench_refusal (with b s m u) row) where
  abbrev our : Plan
  our = plan_of b.plan

  abbrev other : Bench
  other = with b s m u

  unless-same : (n : ℕ) (x y : Stepped Step) → (n ≡ 0 → SameStep R x y) → SameStep R (unless_refused n b x) (unless_refused n other y)
  unfolding unless_refused stepped
  unless-same zero x y f = f refl
  unless-same (suc n) x y f = record { answer = refl; bench = own }

  pub row-steps : (r : ℕ) → (r < our.rows → (row_fill b r ≡ row_fill other r) × (get_or b.marks r 0 ≡ get_or m r 0))
      → (BenchFit b → r < our.rows → (row : List ℕ) → row_fill b r ≡ one row → R (put_row b r row) (put_row other r row))
      → SameStep R (row_step b r) (row_step other r)
  unfolding when◌then◌else◌ row_step row_step_by stepped
  row-steps r fills puts =
      subst (λ n. SameStep R (row_step b r) (unless_refused n other (row_step_by other r (row_fill other r)))) (refused (ltb r our.rows))
      (unless-same (bench_refusal b (ltb r our.rows)) (row_step_by b r (row_fill b r)) (row_step_by other r (row_fill other r)) (λ e.
      let f = bench-fit b (ltb r our.rows) e in
      let l = ltb→lt r our.rows f.1 in
      subst (λ a. SameStep R (row_step_by b r (row_fill b r)) (row_step_by other r a)) (fills l).0 (go f.0 l (row_fill b r) refl)))
    where
      go : BenchFit b → r < our.rows → (a : Fill) → row_fill b r ≡ a → SameStep R (row_step_by b r a) (row_step_by other r a)
      go f l tied e = record { answer = refl; bench = own }
      go f l none e = record { answer = refl; bench = own }
      go f l (one row) e = record { answer = ap (λ w. Ok (when eqb w 0 then Whole else Filled)) (fills l).1; bench = puts f l row e }

  pub level-steps : level_fill b ≡ level_fill other
      → (BenchFit b → b.level < length our.levels → (cs : List (List ℕ)) → level_fill b ≡ learned cs → R (raise b cs) (raise other cs))
      → SameStep R (level_step b) (level_step other)
  unfolding when◌then◌else◌ level_step level_step_by stepped
  level-steps learns raises =
      let low = ltb b.level (length our.levels) in
      subst (λ n. SameStep R (level_step b) (unless_refused n other (end other low (level_fill other)))) (refused unasked)
      (unless-same (bench_refusal b unasked) (end b low (level_fill b)) (end other low (level_fill other)) (λ e.
      subst (λ a. SameStep R (end b low (level_fill b)) (end other low a)) learns (go (bench-fit b unasked e).0 low refl (level_fill b) refl)))
    where
      end : Bench → Bool → Learned → Stepped Step
      end b low a = when low then level_step_by b a else stepped b (Ok Top)

      go : BenchFit b → (low : Bool) → ltb b.level (length our.levels) ≡ low → (a : Learned) → level_fill b ≡ a
          → SameStep R (end b low a) (end other low a)
      go f false q a d = record { answer = refl; bench = own }
      go f true q blocked d = record { answer = refl; bench = own }
      go f true q failing d = record { answer = refl; bench = own }
      go f true q (learned cs) d =
          record { answer = refl; bench = raises f (ltb→lt b.level (length our.levels) (subst T (sym q) tt)) cs d }

-- ---- not changed

room-refl : (b : Bench) → RoomKept b b
room-refl b = record { plan = refl; level = le_refl b.level; symbols = refl; marks = refl; sums = refl; before = λ r l. refl; above = λ r l. refl }

module _ (b : Bench) where
  abbrev P : Plan
  P = plan_of b.plan

  -- the places of the sums of levels 1 to t, and of those of level t + 1 behind them
  abbrev at : ℕ
  at = length (checks_to P b.level)

  abbrev next : ℕ
  next = length (checks_to P (suc b.level))

  pub room-put : (r : ℕ) (row : List ℕ) → r < P.rows → length row ≡ P.columns → RoomKept b (put_row b r row)
  unfolding put_row
  room-put r row l wide = record {
    plan = refl;
    level = le_refl b.level;
    symbols = drop-sets-before (P.rows * P.columns) row b.symbols (r * P.columns) (omega (arith, wide, row-end P.columns l));
    marks = drop-set-lt P.rows b.marks r 0 l;
    sums = refl;
    before = λ k h. refl;
    above = λ k h. refl;
  }

  module _ (plan-known : T (known b.plan)) (low : b.level < length P.levels) (cs : List (List ℕ))
      (count : length cs ≡ length (level_of P (suc b.level)).checks) where
    more : next ≡ at + length cs
    more =
        ap length (checks-suc P b.level low) ∙ length-append (checks_to P b.level) (level_of P (suc b.level)).checks
        ∙ ap (λ n. at + n) (sym count)

    narrow : at + length cs ≤ sum_room
    narrow = omega (arith, more, checks-le P low, (shape b.plan plan-known).sums-le)

    pub room-raise : RoomKept b (raise b cs)
    unfolding raise sums_at
    room-raise = record {
      plan = refl;
      level = omega arith;
      symbols = refl;
      marks = refl;
      sums = keep-room at cs P.rows b.sums;
      before = λ r l.
          keep-part at cs P.rows b.sums at r (omega (arith, narrow)) l
          ∙ sets-out (new_sums cs r) (take at (drop (r * sum_room) b.sums)) at (simp length-take (omega arith));
      above = λ r l.
          ap (drop next) (keep-part at cs P.rows b.sums sum_room r (le_refl sum_room) l)
          ∙ drop-sets-before next (new_sums cs r) (places_at b.sums r) at (omega (arith, more, length-map cs (λ c. get_or c r 0)));
    }

pub steps-keep-room : StepsKeepRoom
steps-keep-room b =
    by-step (RoomKept b) b (room-refl b) (λ f r l row e. room-put b r row l (filled_row b f r l row e).0)
    (λ f low cs e. room-raise b f.plan-known low cs (learned-length b f cs e))

-- lists that agree from n on agree from any later place on
drop-later : {n m : ℕ} (x y : List ℕ) → n ≤ m → drop n x ≡ drop n y → drop m x ≡ drop m y
drop-later {n} {m} x y h e =
    ap (λ k. drop k x) (sym (add-sub_of_le h)) ∙ sym (drop-drop (m - n) n x) ∙ ap (drop (m - n)) e ∙ drop-drop (m - n) n y
    ∙ ap (λ k. drop k y) (add-sub_of_le h)

-- sums that agree up to a level agree up to a lower one
sums_lower : (P : Plan) {t u : ℕ} (x y : List ℕ) (r : ℕ) → t ≤ u → sums_at P u x r ≡ sums_at P u y r → sums_at P t x r ≡ sums_at P t y r
unfolding sums_at
sums_lower P {t} {u} x y r h e =
    let n = length (checks_to P t) in
    let m = length (checks_to P u) in
    sym (take-take n m (drop (r * sum_room) x) (checks-le P h)) ∙ ap (take n) e ∙ take-take n m (drop (r * sum_room) y) (checks-le P h)

room-trans : (b c d : Bench) → RoomKept b c → RoomKept c d → RoomKept b d
room-trans b c d k j =
    let P = plan_of b.plan in
    let g = subst (λ c. RoomKept c d) own j in
    record {
      plan = g.plan;
      level = le_trans k.level g.level;
      symbols = g.symbols ∙ k.symbols;
      marks = g.marks ∙ k.marks;
      sums = g.sums ∙ k.sums;
      before = λ r l. sums_lower P d.sums c.sums r k.level (g.before r l) ∙ k.before r l;
      above = λ r l. g.above r l ∙ drop-later (places_at c.sums r) (places_at b.sums r) (checks-le P g.level) (k.above r l);
    }
  where
    own : c ≡ bench_of b.plan c.level c.symbols c.marks c.sums
    own = λ i. record { plan = sym k.plan i; level = c.level; symbols = c.symbols; marks = c.marks; sums = c.sums }

pub walks-keep-room : WalksKeepRoom
walks-keep-room [] b = room-refl b
walks-keep-room (m ∷ ms) b =
    room-trans b (after b m) (walk ms (after b m)) (steps-keep-room b m) (walks-keep-room ms (after b m))

-- ---- not read

-- row r stands in the first R rows
pub row-front : (N R : ℕ) (l : List ℕ) (r : ℕ) → r < R → take N (drop (r * N) (take (R * N) l)) ≡ take N (drop (r * N) l)
row-front N R l r h =
    sym (get_or-map-below (row_in N (take (R * N) l)) R r [] h)
    ∙ ap (λ rows. get_or rows r []) (sym (rows-of R N (take (R * N) l)) ∙ rows-front R N l ∙ rows-of R N l)
    ∙ get_or-map-below (row_in N l) R r [] h

-- places before `at` that agree, and those from there on written alike
sets-agree : (x s t : List ℕ) (at : ℕ) → length s ≡ length t → length s ≤ at + length x → take at s ≡ take at t → sets s at x ≡ sets t at x
sets-agree x s t at long short e =
    ext_get_or 0 (sets s at x) (sets t at x) (length-sets s at x ∙ long ∙ sym (length-sets t at x)) (λ i l.
    sets-alike s t at x i long (λ out.
    elim (either (ltb i at)) [
      | inl b ↦ let h = ltb→lt i at b in sym (get_or-take at s i 0 h) ∙ ap (λ l. get_or l i 0) e ∙ get_or-take at t i 0 h
      | inr b ↦ absurd (out (nltb→le i at b) (omega (arith, length-sets s at x)))
    ]))

-- the other bench is the first with other symbols, marks and sums
other-is : (b c : Bench) → SameRead b c → c ≡ with b c.symbols c.marks c.sums
other-is b c h = λ i. record {
  plan = sym h.plan i;
  level = sym h.level i;
  symbols = c.symbols;
  marks = c.marks;
  sums = c.sums;
}

module _ (b : Bench) (s m u : List ℕ) (h : SameRead b (with b s m u)) where
  abbrev Q : Plan
  Q = plan_of b.plan

  abbrev L : Level
  L = level_of Q (suc b.level)

  abbrev c : Bench
  c = with b s m u

  row_read : (r : ℕ) → r < Q.rows → row_at Q b.symbols r ≡ row_at Q s r
  unfolding row_at
  row_read r l =
      sym (row-front Q.columns Q.rows b.symbols r l) ∙ ap (λ z. take Q.columns (drop (r * Q.columns) z)) h.symbols
      ∙ row-front Q.columns Q.rows s r l

  word_read : (r : ℕ) → r < Q.rows → get_or b.marks r 0 ≡ get_or m r 0
  word_read r l = sym (get_or-take Q.rows b.marks r 0 l) ∙ ap (λ z. get_or z r 0) h.marks ∙ get_or-take Q.rows m r 0 l

  marks-read : (r : ℕ) → r < Q.rows → marks_at Q b.marks r ≡ marks_at Q m r
  unfolding marks_at
  marks-read r l = ap (bits_of Q.columns) (word_read r l)

  refusal-read : (row : Bool) → bench_refusal b row ≡ bench_refusal c row
  unfolding bench_tests bench_refusal marks_fit symbols_fit sums_fit
  refusal-read row =
      let q = size Q.field in
      let below : symbols_fit Q b.marks b.symbols ≡ symbols_fit Q m s =
      all_same (λ r. unmarked_below q (marks_at Q b.marks r) (row_at Q b.symbols r)) (λ r. unmarked_below q (marks_at Q m r) (row_at Q s r)) 0 Q.rows
      (λ r l. ap₂ (unmarked_below q) (marks-read r (omega arith)) (row_read r (omega arith))) in
      let sums : sums_fit Q b.level b.sums ≡ sums_fit Q b.level u =
      all_same (λ r. all_below q (sums_at Q b.level b.sums r)) (λ r. all_below q (sums_at Q b.level u r)) 0 Q.rows
      (λ r l. ap (all_below q) (h.sums r (omega arith))) in
      ap₂ (λ w z. first_failed ((10, known b.plan) ∷ (15, level_fits Q b.level) ∷ (12, all (λ x. ltb x (2 ^ Q.columns)) w) ∷ (13, z) ∷ (14, row) ∷ []))
      h.marks (ap₂ ◌&&◌ below sums)

  row-fill-read : (r : ℕ) → r < Q.rows → row_fill b r ≡ row_fill c r
  unfolding row_fill
  row-fill-read r l =
      ap₂ (λ target ms. fill Q.field (checks_to Q b.level) target ms (row_at Q b.symbols r)) (h.sums r l) (marks-read r l)
      ∙ ap (fill Q.field (checks_to Q b.level) (sums_at Q b.level u r) (marks_at Q m r)) (row_read r l)

  lossy-read : lossy Q b.marks ≡ lossy Q m
  unfolding lossy
  lossy-read =
      map-up-same (λ r. not (eqb (get_or b.marks r 0) 0)) (λ r. not (eqb (get_or m r 0) 0)) 0 Q.rows
      (λ r l. ap (λ w. not (eqb w 0)) (word_read (0 + r) (omega arith)))

  across-read : (x : List ℕ) → across Q b.symbols x ≡ across Q s x
  unfolding across
  across-read x =
      map-up-same (λ r. dot Q.field x (row_at Q b.symbols r)) (λ r. dot Q.field x (row_at Q s r)) 0 Q.rows
      (λ r l. ap (dot Q.field x) (row_read (0 + r) (omega arith)))

  level-fill-read : level_fill b ≡ level_fill c
  unfolding level_fill check_fill
  level-fill-read =
      ap₂ (λ (ms : List Bool) (u : List ℕ → List ℕ).
      ends (λ x. fill Q.field L.weights (zeros L.weights) ms (u x)) (λ x. vector_in (fill Q.field L.weights (zeros L.weights) ms (u x)))
      (dependent Q.field L.weights ms) L.checks)
      lossy-read (λ i x. across-read x i)

  -- the same row is put
  put-read : (r : ℕ) (row : List ℕ) → r < Q.rows → SameRead (put_row b r row) (put_row c r row)
  unfolding put_row
  put-read r row l = record {
    plan = refl;
    level = refl;
    symbols =
        let n = Q.rows * Q.columns in
        take-sets n row b.symbols (r * Q.columns) ∙ ap (λ z. sets z (r * Q.columns) row) h.symbols ∙ sym (take-sets n row s (r * Q.columns));
    marks =
        take-set-lt Q.rows b.marks r 0 l ∙ ap (λ z. set z r 0) h.marks ∙ sym (take-set-lt Q.rows m r 0 l);
    sums = h.sums;
    places = h.places;
  }

  -- the same sums are learned
  raise-read : T (known b.plan) → b.level < length Q.levels → (cs : List (List ℕ)) → length cs ≡ length L.checks
      → SameRead (raise b cs) (raise c cs)
  unfolding raise sums_at
  raise-read plan-known low cs count =
      let n = length (checks_to Q b.level) in
      let n' = length (checks_to Q (suc b.level)) in
      let up = more b plan-known low cs count in
      let slim = narrow b plan-known low cs count in
      record {
        plan = refl;
        level = refl;
        symbols = h.symbols;
        marks = h.marks;
        sums = λ r l.
            let x = new_sums cs r in
            let here = drop (r * sum_room) b.sums in
            let there = drop (r * sum_room) u in
            keep-part n cs Q.rows b.sums n' r (omega (arith, up, slim)) l
            ∙ sets-agree x (take n' here) (take n' there) n
            (simp (length-take, length-drop) (ap (λ k. min n' (k - r * sum_room)) h.places))
            (simp length-take (omega (arith, up, length-map cs (λ c. get_or c r 0))))
            (take-take n n' here (omega (arith, up)) ∙ h.sums r l ∙ sym (take-take n n' there (omega (arith, up))))
            ∙ sym (keep-part n cs Q.rows u n' r (omega (arith, up, slim)) l);
        places =
            let news = map (new_sums cs) (up_from 0 Q.rows) in keep-length n news b.sums ∙ h.places ∙ sym (keep-length n news u);
      }

  row-step-read : (r : ℕ) → SameStep SameRead (row_step b r) (row_step c r)
  row-step-read r = row-steps SameRead b s m u h refusal-read r (λ l. (row-fill-read r l, word_read r l)) (λ f l row e. put-read r row l)

  level-step-read : SameStep SameRead (level_step b) (level_step c)
  level-step-read =
      level-steps SameRead b s m u h refusal-read level-fill-read (λ f low cs e. raise-read f.plan-known low cs (learned-length b f cs e))

-- the same of any two benches
module _ (b c : Bench) (h : SameRead b c) where
  own : SameRead b (with b c.symbols c.marks c.sums)
  own = record { plan = refl; level = refl; symbols = h.symbols; marks = h.marks; sums = h.sums; places = h.places }

  of-own : (S : Bench → Type 0) → S (with b c.symbols c.marks c.sums) → S c
  of-own S x = subst S (sym (other-is b c h)) x

pub row-step-reads : RowStepReads
row-step-reads b c r h =
    of-own b c h (λ c. SameStep SameRead (row_step b r) (row_step c r)) (row-step-read b c.symbols c.marks c.sums (own b c h) r)

pub level-step-reads : LevelStepReads
level-step-reads b c h =
    of-own b c h (λ c. SameStep SameRead (level_step b) (level_step c)) (level-step-read b c.symbols c.marks c.sums (own b c h))

pub walk-reads : WalkReads
walk-reads [] b c h = h
walk-reads (on_row r ∷ ms) b c h = walk-reads ms (row_step b r).bench (row_step c r).bench (row-step-reads b c r h).bench
walk-reads (on_level ∷ ms) b c h = walk-reads ms (level_step b).bench (level_step c).bench (level-step-reads b c h).bench

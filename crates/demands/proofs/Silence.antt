-- Silence: what is answered and left behind does not depend on the bytes under marks. Assumes nothing.
use mathlib.Core.Path.{◌≡◌, refl, sym, ap, ◌∙◌, subst, subst₂}
use mathlib.Core.Logic.{inl, inr}
use mathlib.Core.Bool.{Bool, true, false, ◌&&◌}
use mathlib.Core.List.{List, [], ◌∷◌, ◌++◌}
use Prim.Native.Nat.{ℕ, zero, suc, ◌+◌, ◌*◌, ◌-◌, ◌<◌, ◌≤◌}
use native.Mathlib.Nat.{eq-zero-or-pos}
use native.Mathlib.Omega.{arith}
use lib.Dec.{T, eqb, ltb, eqb→eq}
use lib.ListN.{length, take, get_or, set, replicate, length-append, length-take}
use lib.Seq.{sets, length-sets, get_or-set_other, get_or-take}
use Rattle.std.specs.Prelude.{Result, Ok, Err}
use Rattle.field.specs.Lists.{when◌then◌else◌}
use Rattle.field.specs.Field.{dot}
use Rattle.fills.specs.Lists.{zeros}
use Rattle.fills.specs.Marks.{bits_of}
use Rattle.fills.specs.Fill.{dependent, Fill, vector_in}
use Rattle.fills.proofs.Choices.{Alike}
use Rattle.fills.proofs.Filling.{fill-alike}
use Rattle.plans.specs.Plan.{Plan, Level, known, plan_of, level_of, checks_to, row_at, marks_at, marks_of, across}
use Rattle.plans.specs.Rooms.{symbol_room}
use Rattle.plans.specs.Refusal.{marks_fit, sums_at, sums_fit, level_fits, lent_refusal, bench_refusal, first_failed, bench_tests}
use Rattle.steps.specs.Steps.{Stepped, stepped, fresh, empty, started_by, started, row_fill, put_row, row_step, lossy, check_fill, level_fill, raise, level_step}
use Rattle.steps.specs.Rounds.{Standing, Turn, on, end, clash, more, next_row, after_row, after_level, take_turn, go_on, turns}
use Rattle.repair.specs.Mending.{mended, turn_report, turn_stripe, turn_marks, mend_stripe}
use Rattle.rounds.specs.Reports.{rows_left, end_report}
use Rattle.steps.specs.Parts.{bench_of, standing_of}
use Rattle.plans.specs.declared.Bench.{Bench}
use Rattle.plans.specs.declared.Step.{Step}
use Rattle.plans.specs.declared.Step.TheVariants.{Whole, Filled, Tied, Raised, Blocked, Top, Clash}
use Rattle.plans.specs.declared.Place.{Place}
use Rattle.plans.proofs.Rows.{of-rows, row_other, marks-length}
use Rattle.steps.proofs.Fit.{lent-fit, fresh-mark, fresh-row}
use Rattle.steps.proofs.Passing.{ends}
use Rattle.steps.proofs.Sound.{filled_row}
use Rattle.demands.specs.Words.{Fit, on_row, on_level, SameStep}
use Rattle.demands.specs.Silence.{SameUnmarked, SameButMarks, SilentStart, SilentRowStep, SilentLevelStep, SilentWalk, SameMending, SilentMending}
use Rattle.demands.proofs.Alike.{alike_refl, alike-unmarked, rows_agree, clear-unmarked, unmarked-in}
use Rattle.demands.proofs.Blind.{sets-alike, append-behind, row-le, row-lengths, row-equal, marks-same, rows_alike, symbols-same, lent_same}
use Rattle.demands.proofs.Room.{row-steps, level-steps}
use Rattle.demands.proofs.Held.{alike-up}
use Rattle.demands.proofs.Rounds.{Out, mended-out}
use Rattle.demands.proofs.Left.{report-turn, stripe-turn, marks-turn}
use Rattle.demands.proofs.Refused.{mend-refused}

-- ---- start

same_refl : (b : Bench) → SameButMarks b b
same_refl b = record {
  plan = refl;
  level = refl;
  marks = refl;
  sums = refl;
  stripe = record { long = refl; agree = λ i e. refl };
  beyond = λ i l. refl;
}

pub fresh-same : (p : ℕ) (marks s t : List ℕ) → SameUnmarked p marks s t → Fit p s marks → SameButMarks (fresh p s marks) (fresh p t marks)
unfolding fresh marks_at
fresh-same p marks s t h fit =
    let P = plan_of p in
    let f = lent-fit p s marks fit in
    let g = lent-fit p t marks (sym (lent_same p marks s t h) ∙ fit) in
    record {
      plan = refl;
      level = refl;
      marks = refl;
      sums = refl;
      stripe = record {
        long =
            length-append s (replicate (symbol_room - length s) 0) ∙ ap (λ n. n + length {A = ℕ} (replicate (symbol_room - n) 0)) h.long
            ∙ sym (length-append t (replicate (symbol_room - length t) 0));
        agree =
            rows_agree p (fresh p s marks).marks (fresh p s marks).symbols (fresh p t marks).symbols (λ r l.
            subst (λ w. Alike (bits_of P.columns w) (row_at P (fresh p s marks).symbols r) (row_at P (fresh p t marks).symbols r))
            (sym (fresh-mark p s marks f r l))
            (subst₂ (Alike (marks_at P marks r)) (sym (fresh-row p s marks f r l)) (sym (fresh-row p t marks g r l))
            (rows_alike p marks s t h r l)));
      };
      beyond = λ i l.
          append-behind s t (replicate (symbol_room - length s) 0) i h.long (omega (arith, f.long))
          ∙ ap (λ n. get_or (t ++ replicate (symbol_room - n) 0) i 0) h.long;
    }

pub silent-start : SilentStart
unfolding stepped started_by started
silent-start p marks s t h =
    subst (λ n. SameStep SameButMarks (started p s marks) (started_by n p t marks)) (lent_same p marks s t h) (go (lent_refusal p s marks) refl)
  where
    go : (n : ℕ) → lent_refusal p s marks ≡ n → SameStep SameButMarks (started_by n p s marks) (started_by n p t marks)
    go zero e = record { answer = refl; bench = fresh-same p marks s t h e }
    go (suc n) e = record { answer = refl; bench = same_refl empty }

-- ---- the steps

-- the other bench is the first with other symbols
abbrev with : Bench → (symbols : List ℕ) → Bench
with b t = bench_of b.plan b.level t b.marks b.sums

other-is : (b c : Bench) → SameButMarks b c → c ≡ with b c.symbols
other-is b c h = λ i. record {
  plan = sym h.plan i;
  level = sym h.level i;
  symbols = c.symbols;
  marks = sym h.marks i;
  sums = sym h.sums i;
}

module _ (b : Bench) (t : List ℕ) (h : SameUnmarked b.plan b.marks b.symbols t)
    (beyond : (i : ℕ) → (plan_of b.plan).rows * (plan_of b.plan).columns ≤ i → get_or b.symbols i 0 ≡ get_or t i 0) where
  abbrev P : Plan
  P = plan_of b.plan

  abbrev L : Level
  L = level_of P (suc b.level)

  abbrev s : List ℕ
  s = b.symbols

  abbrev c : Bench
  c = with b t

  self : SameButMarks b c
  self = record { plan = refl; level = refl; marks = refl; sums = refl; stripe = h; beyond = beyond }

  refusal-same : (row : Bool) → bench_refusal b row ≡ bench_refusal c row
  unfolding bench_tests bench_refusal
  refusal-same row =
      ap (λ z. first_failed ((10, known b.plan) ∷ (15, level_fits P b.level) ∷ (12, marks_fit P b.marks) ∷ (13, z && sums_fit P b.level b.sums) ∷ (14, row) ∷ []))
      (symbols-same b.plan b.marks s t h)

  row-fill-same : (r : ℕ) → r < P.rows → row_fill b r ≡ row_fill c r
  unfolding row_fill
  row-fill-same r l =
      fill-alike P.field (checks_to P b.level) (sums_at P b.level b.sums r) (marks_at P b.marks r) (row_at P s r) (row_at P t r)
      (rows_alike b.plan b.marks s t h r l)

  -- rows without marks are equal
  row-unmarked : (r : ℕ) → r < P.rows → get_or b.marks r 0 ≡ 0 → row_at P s r ≡ row_at P t r
  unfolding marks_at
  row-unmarked r l e =
      alike-unmarked (marks_at P b.marks r) (row_at P s r) (row_at P t r) (rw e (clear-unmarked P.columns)) (row-lengths P s t r h.long)
      (omega (arith, row-le P t r, marks-length P b.marks r)) (rows_alike b.plan b.marks s t h r l)

  level-fill-same : level_fill b ≡ level_fill c
  unfolding level_fill check_fill across lossy
  level-fill-same = ap (λ (f : List ℕ → Fill). ends f (λ x. vector_in (f x)) (dependent P.field L.weights (lossy P b.marks)) L.checks) (λ i x. total x i)
    where
      total : (x : List ℕ) → check_fill b x ≡ check_fill c x
      total x =
          fill-alike P.field L.weights (zeros L.weights) (lossy P b.marks) (across P s x) (across P t x)
          (alike-up (λ r. eqb (get_or b.marks r 0) 0) (λ r. dot P.field x (row_at P s r)) (λ r. dot P.field x (row_at P t r)) 0 P.rows
          (λ r l e. ap (dot P.field x) (row-unmarked r (omega arith) (eqb→eq (get_or b.marks r 0) 0 e))))

  -- the same row is put
  put_same : (r : ℕ) (row : List ℕ) → length row ≡ P.columns → SameButMarks (put_row b r row) (put_row c r row)
  unfolding put_row marks_at
  put_same r row wide =
      let S = sets s (r * P.columns) row in
      let T = sets t (r * P.columns) row in
      let l : length S ≡ length T = length-sets s (r * P.columns) row ∙ h.long ∙ sym (length-sets t (r * P.columns) row) in
      let ms = set b.marks r 0 in
      let here : row_at P S r ≡ row_at P T r =
      row-equal P S T r l (λ x g. sets-alike s t (r * P.columns) row (r * P.columns + x) h.long (λ out. absurd (out (omega arith) (omega (arith, wide))))) in
      record {
        plan = refl;
        level = refl;
        marks = refl;
        sums = refl;
        stripe = record {
          long = l;
          agree =
              rows_agree b.plan ms S T
              (of-rows (λ k. Alike (marks_at P ms k) (row_at P S k) (row_at P T k)) r
              (subst (λ v. Alike (marks_at P ms r) v (row_at P T r)) (sym here) (alike_refl (marks_at P ms r) (row_at P T r)))
              (λ k g ne.
              subst₂ (Alike (marks_at P ms k)) (sym (row_other P r row s wide k ne)) (sym (row_other P r row t wide k ne))
              (subst (λ w. Alike (bits_of P.columns w) (row_at P s k) (row_at P t k)) (sym (get_or-set_other b.marks r k 0 0 ne))
              (rows_alike b.plan b.marks s t h k g))));
        };
        beyond = λ i g. sets-alike s t (r * P.columns) row i h.long (λ out. beyond i g);
      }

  own_row : (r : ℕ) → SameStep SameButMarks (row_step b r) (row_step c r)
  own_row r =
      row-steps SameButMarks b t b.marks b.sums self refusal-same r (λ l. (row-fill-same r l, refl))
      (λ f l row e. put_same r row (filled_row b f r l row e).0)

  own-level : SameStep SameButMarks (level_step b) (level_step c)
  unfolding raise
  own-level =
      level-steps SameButMarks b t b.marks b.sums self refusal-same level-fill-same (λ f low cs e.
      record { plan = refl; level = refl; marks = refl; sums = refl; stripe = h; beyond = beyond })

pub silent-row-step : SilentRowStep
silent-row-step b c r h =
    subst (λ c. SameStep SameButMarks (row_step b r) (row_step c r)) (sym (other-is b c h)) (own_row b c.symbols h.stripe h.beyond r)

pub silent-level-step : SilentLevelStep
silent-level-step b c h =
    subst (λ c. SameStep SameButMarks (level_step b) (level_step c)) (sym (other-is b c h)) (own-level b c.symbols h.stripe h.beyond)

pub silent-walk : SilentWalk
silent-walk [] b c h = h
silent-walk (on_row r ∷ ms) b c h = silent-walk ms (row_step b r).bench (row_step c r).bench (silent-row-step b c r h).bench
silent-walk (on_level ∷ ms) b c h = silent-walk ms (level_step b).bench (level_step c).bench (silent-level-step b c h).bench

-- ---- the rounds

-- turns that lead to benches that differ only under marks, or to the same Clash
data SameTurn : Turn → Turn → Type 0 where
  same-on : (m : Standing) (c : Bench) → SameButMarks m.bench c → SameTurn (on m) (on (standing_of c m.turn m.restored))
  same_end : (m : Standing) (c : Bench) → SameButMarks m.bench c → SameTurn (end m) (end (standing_of c m.turn m.restored))
  same-clash : (place : Place) → SameTurn (clash place) (clash place)

module _ (m : Standing) (t : List ℕ) (h : SameUnmarked m.bench.plan m.bench.marks m.bench.symbols t)
    (beyond : (i : ℕ) → (plan_of m.bench.plan).rows * (plan_of m.bench.plan).columns ≤ i → get_or m.bench.symbols i 0 ≡ get_or t i 0) where
  abbrev mine : Bench
  mine = m.bench

  abbrev other : Bench
  other = with mine t

  abbrev n : Standing
  n = standing_of other m.turn m.restored

  after-row : (x y : Stepped Step) → SameStep SameButMarks x y → SameTurn (after_row m x.answer x.bench) (after_row n y.answer y.bench)
  unfolding after_row
  after-row x y e =
      subst (λ a. SameTurn (after_row m x.answer x.bench) (after_row n a y.bench)) e.answer (go x.answer)
    where
      next : (restored : List ℕ) → SameTurn (next_row m x.bench restored) (next_row n y.bench restored)
      next restored = same-on (standing_of x.bench (suc m.turn) restored) y.bench e.bench

      go : (a : Result Step ℕ) → SameTurn (after_row m a x.bench) (after_row n a y.bench)
      go (Ok Clash) = same-clash _
      go (Ok Filled) = next (more mine.level 1 m.restored)
      go (Ok Whole) = next m.restored
      go (Ok Tied) = next m.restored
      go (Ok Raised) = next m.restored
      go (Ok Blocked) = next m.restored
      go (Ok Top) = next m.restored
      go (Err k) = next m.restored

  after-level : (x y : Stepped Step) → SameStep SameButMarks x y → SameTurn (after_level m x.answer x.bench) (after_level n y.answer y.bench)
  unfolding after_level
  after-level x y e =
      subst (λ a. SameTurn (after_level m x.answer x.bench) (after_level n a y.bench)) e.answer (go x.answer)
    where
      stop : SameTurn (end m) (end n)
      stop = same_end m other record { plan = refl; level = refl; marks = refl; sums = refl; stripe = h; beyond = beyond }

      go : (a : Result Step ℕ) → SameTurn (after_level m a x.bench) (after_level n a y.bench)
      go (Ok Raised) = same-on (standing_of x.bench 0 m.restored) y.bench e.bench
      go (Ok Clash) = same-clash _
      go (Ok Blocked) = stop
      go (Ok Top) = stop
      go (Ok Whole) = stop
      go (Ok Filled) = stop
      go (Ok Tied) = stop
      go (Err k) = stop

  own_turn : SameTurn (take_turn m) (take_turn n)
  unfolding when◌then◌else◌ take_turn
  own_turn = go (ltb m.turn (plan_of mine.plan).rows)
    where
      taken : Bool → (m : Standing) (r s : Stepped Step) → Turn
      taken z m r s = when z then after_row m r.answer r.bench else after_level m s.answer s.bench

      go : (z : Bool)
          → SameTurn (taken z m (row_step mine m.turn) (level_step mine)) (taken z n (row_step other m.turn) (level_step other))
      go true = after-row (row_step mine m.turn) (row_step other m.turn) (own_row mine t h beyond m.turn)
      go false = after-level (level_step mine) (level_step other) (own-level mine t h beyond)

turn-same : (m : Standing) (c : Bench) → SameButMarks m.bench c → SameTurn (take_turn m) (take_turn (standing_of c m.turn m.restored))
turn-same m c h =
    subst (λ c. SameTurn (take_turn m) (take_turn (standing_of c m.turn m.restored))) (sym (other-is m.bench c h))
    (own_turn m c.symbols h.stripe h.beyond)

turns_same : (k : ℕ) (m : Standing) (c : Bench) → SameButMarks m.bench c
    → SameTurn (turns k m) (turns k (standing_of c m.turn m.restored))
unfolding turns go_on
turns_same zero m c h = same-on m c h
turns_same (suc k) m c h =
    go (take_turn m) (take_turn (standing_of c m.turn m.restored)) (turn-same m c h) (turns_same k)
  where
    go : (x y : Turn) → SameTurn x y
        → ((m : Standing) (c : Bench) → SameButMarks m.bench c → SameTurn (turns k m) (turns k (standing_of c m.turn m.restored)))
        → SameTurn (go_on (turns k) x) (go_on (turns k) y)
    go x y (same-on m c h) ih = ih m c h
    go x y (same_end m c h) ih = same_end m c h
    go x y (same-clash place) ih = same-clash place

-- ---- mending in one call

module _ (p : ℕ) (marks s t : List ℕ) (h : SameUnmarked p marks s t) (fit : Fit p s marks) where
  -- what two turns leave behind
  record SameLeft (x y : Turn) : Type 0 where
    report : turn_report x ≡ turn_report y
    left : turn_marks x marks ≡ turn_marks y marks
    stripes : SameUnmarked p (turn_marks x marks) (turn_stripe x s) (turn_stripe y t)

  ended_same : (m : Standing) → m.bench.plan ≡ p → (T : List ℕ) → SameUnmarked m.bench.plan m.bench.marks m.bench.symbols T
      → SameLeft (end m) (end (standing_of (with m.bench T) m.turn m.restored))
  unfolding turn_report end_report rows_left turn_marks turn_stripe
  ended_same m q T g = record {
    report = refl;
    left = refl;
    stripes = record {
      long =
          length-take (length s) m.bench.symbols ∙ omega (arith, h.long, g.long) ∙ sym (length-take (length t) T);
      agree = λ i e.
          let l = unmarked-in (plan_of p) (take (length marks) m.bench.marks) i e in
          let f = lent-fit p s marks fit in
          get_or-take (length s) m.bench.symbols i 0 (omega (arith, f.long))
          ∙ g.agree i
          (subst (λ q. get_or (marks_of (plan_of q) m.bench.marks) i true ≡ false) (sym q)
          (ap (λ ms. get_or ms i true) (marks-same (plan_of p) m.bench.marks (take (length marks) m.bench.marks) (λ r l.
          sym (get_or-take (length marks) m.bench.marks r 0 (omega (arith, f.words))))) ∙ e))
          ∙ sym (get_or-take (length t) T i 0 (omega (arith, f.long, h.long)));
    };
  }

  left-same : (x y : Turn) → SameTurn x y → Out p s marks fit x → SameLeft x y
  unfolding turn_report turn_marks turn_stripe
  left-same x y (same-on m c g) o = absurd o
  left-same x y (same_end m c g) o =
      subst (λ c. SameLeft (end m) (end (standing_of c m.turn m.restored))) (sym (other-is m.bench c g))
      (ended_same m o.reached.plan c.symbols g.stripe)
  left-same x y (same-clash place) o = record { report = refl; left = refl; stripes = h }

  mended-same : SameTurn (mended p s marks) (mended p t marks)
  unfolding mended fresh
  mended-same =
      turns_same (length (plan_of p).levels * suc (plan_of p).rows) (standing_of (fresh p s marks) 0 (replicate 3 0)) (fresh p t marks)
      (fresh-same p marks s t h fit)

  fit_same : SameMending p marks s t
  fit_same =
      let fit' : Fit p t marks = sym (lent_same p marks s t h) ∙ fit in
      let l = left-same (mended p s marks) (mended p t marks) mended-same (mended-out p s marks fit) in
      record {
        report = report-turn p s marks fit ∙ ap Ok l.report ∙ sym (report-turn p t marks fit');
        marks-left = marks-turn p s marks fit ∙ l.left ∙ sym (marks-turn p t marks fit');
        stripes =
            subst (λ ms. SameUnmarked p ms (mend_stripe p s marks) (mend_stripe p t marks)) (sym (marks-turn p s marks fit))
            (subst₂ (SameUnmarked p (turn_marks (mended p s marks) marks)) (sym (stripe-turn p s marks fit)) (sym (stripe-turn p t marks fit'))
            l.stripes);
      }

pub silent-mending : SilentMending
silent-mending p marks s t h =
    elim (eq-zero-or-pos (lent_refusal p s marks)) [
      | inl fit ↦ fit_same p marks s t h fit
      | inr pos ↦
          let f = mend-refused p s marks (λ e. omega (arith, e)) in
          let g = mend-refused p t marks (λ e. omega (arith, lent_same p marks s t h, e)) in
          record {
            report = f.report ∙ ap Err (lent_same p marks s t h) ∙ sym g.report;
            marks-left = f.marks_stay ∙ sym g.marks_stay;
            stripes =
                subst (λ ms. SameUnmarked p ms (mend_stripe p s marks) (mend_stripe p t marks)) (sym f.marks_stay)
                (subst₂ (SameUnmarked p marks) (sym f.stripe-stays) (sym g.stripe-stays) h);
          }
    ]

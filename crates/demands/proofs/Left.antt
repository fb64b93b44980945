-- What mending leaves behind where its rounds end, and what its answer says of where they ended. Assumes nothing.
use mathlib.Core.Path.{◌≡◌, refl, sym, ap, ap₂, ◌∙◌, subst}
use mathlib.Core.Logic.{inl, inr}
use mathlib.Core.Bool.{Bool, true, false, not}
use mathlib.Core.List.{List, [], ◌∷◌, map}
use Prim.Native.Nat.{ℕ, zero, suc, ◌+◌, ◌*◌, ◌<◌, ◌≤◌}
use native.Mathlib.Nat.{zero-mul, suc-mul, zero-lt-suc, le_of_suc-le-suc, eq-or-lt_of_le, le_of_eq}
use native.Mathlib.Omega.{arith}
use borrow.Author.Tests.{eqb-true}
use lib.Dec.{T, T_not, eqb, ltb, eqb→eq}
use lib.ListN.{length, take, drop, get_or, replicate, length-map, drop_of_length-le}
use lib.Seq.{take-add, take-length, length-take-le, get_or-take}
use Rattle.std.specs.Prelude.{Ok, Err}
use Rattle.field.specs.Lists.{when◌then◌else◌, up_from}
use Rattle.field.specs.Field.{size}
use Rattle.field.proofs.Test.{both}
use Rattle.field.proofs.Lists.{length_up, get_or-map-below}
use Rattle.fills.specs.Lists.{all, only}
use Rattle.fills.specs.Fill.{sums_of, dependent}
use Rattle.fills.proofs.Tests.{either, all_append}
use Rattle.fills.proofs.Weights.{marked}
use Rattle.plans.specs.Answers.{answered}
use Rattle.plans.specs.Plan.{Plan, plan_of, level_of, checks_to, row_at, marks_at}
use Rattle.plans.specs.Refusal.{all_below, lent_refusal}
use Rattle.steps.specs.Steps.{lossy}
use Rattle.steps.specs.Rounds.{Standing, Turn, on, end, clash}
use Rattle.repair.specs.Mending.{mended, turn_report, turn_stripe, turn_marks, mend_report, mend_stripe, mend_marks}
use Rattle.rounds.specs.Reports.{rows_left, end_report, bare}
use Rattle.codewords.specs.Codeword.{rows_hold, totals_hold, is_codeword}
use Rattle.plans.specs.declared.Bench.{Bench}
use Rattle.plans.specs.declared.Answer.{Answer}
use Rattle.plans.specs.declared.Answer.TheVariants.{Restored, Stuck, Clash}
use Rattle.plans.specs.declared.Place.{Place}
use Rattle.plans.proofs.Rows.{row-end, row-length, rows_ext, marks-length}
use Rattle.steps.proofs.Fit.{if-true, RowFits, lent-fit}
use Rattle.steps.proofs.Sound.{blocked-dependent}
use Rattle.demands.specs.Words.{Codeword, Agree, Fit}
use Rattle.demands.specs.Second.{IsRestored}
use Rattle.demands.proofs.Alike.{alike-sym, unmarked-all, unmarked-independent, clear-unmarked, rows_agree, unmarked-at}
use Rattle.demands.proofs.Held.{Has, row_tied, held-unmarked}
use Rattle.demands.proofs.Reached.{reached-level}
use Rattle.demands.proofs.Rounds.{settled-tied, Ended}
use Rattle.demands.proofs.Room.{row-front}

-- ---- lists

-- where each row holds symbols, so do all
rows-below : (q N R : ℕ) (l : List ℕ) → ((r : ℕ) → r < R → T (all_below q (take N (drop (r * N) l)))) → T (all_below q (take (R * N) l))
unfolding all_below all
rows-below q N zero l h = subst (λ n. T (all_below q (take n l))) (sym (zero-mul N)) tt
rows-below q N (suc R) l h =
    subst (λ x. T (all_below q x)) (sym (ap (λ n. take n l) (suc-mul R N) ∙ take-add (R * N) N l))
    (all_append (λ x. ltb x q) (take (R * N) l) (take N (drop (R * N) l)) (rows-below q N R l (λ r k. h r (omega arith))) (h R (omega arith)))

zeros-take : (n : ℕ) (l : List ℕ) → n ≤ length l → ((r : ℕ) → r < n → get_or l r 0 ≡ 0) → take n l ≡ replicate n 0
zeros-take zero l h z = refl
zeros-take (suc n) [] h z = absurd (omega arith)
zeros-take (suc n) (x ∷ l) h z = ap₂ ◌∷◌ (z 0 (zero-lt-suc n)) (zeros-take n l (le_of_suc-le-suc h) (λ r k. z (suc r) (omega arith)))

-- where no row has marks, each mark word is 0
pub lossy-none : (marks : List ℕ) (n : ℕ) → marked (map (λ r. not (eqb (get_or marks r 0) 0)) (up_from 0 n)) ≡ 0
    → (r : ℕ) → r < n → get_or marks r 0 ≡ 0
lossy-none marks n e r l =
    let ms = map (λ r. not (eqb (get_or marks r 0) 0)) (up_from 0 n) in
    let at : not (eqb (get_or marks r 0) 0) ≡ false =
    sym (get_or-map-below (λ r. not (eqb (get_or marks r 0) 0)) n r true l)
    ∙ unmarked-at ms e r (omega (arith, length-map (up_from 0 n) (λ r. not (eqb (get_or marks r 0) 0)), length_up 0 n)) in
    elim (either (eqb (get_or marks r 0) 0)) [ inl t ↦ eqb→eq (get_or marks r 0) 0 t | inr t ↦ absurd (subst T at t) ]

pub none-lossy : (marks : List ℕ) (k n : ℕ) → ((r : ℕ) → r < k + n → get_or marks r 0 ≡ 0)
    → marked (map (λ r. not (eqb (get_or marks r 0) 0)) (up_from k n)) ≡ 0
unfolding when◌then◌else◌ up_from only
none-lossy marks k zero h = refl
none-lossy marks k (suc n) h =
    ap (λ w. marked (not (eqb w 0) ∷ map (λ r. not (eqb (get_or marks r 0) 0)) (up_from (suc k) n))) (h k (omega arith))
    ∙ none-lossy marks (suc k) n (λ r l. h r (omega arith))

-- ---- what is left behind where the rounds end

module _ (p : ℕ) (stripe marks : List ℕ) (fit : Fit p stripe marks) (m : Standing) (e : Ended p stripe marks fit m) where
  abbrev P : Plan
  P = plan_of p

  abbrev b : Bench
  b = m.bench

  abbrev Y : List ℕ
  Y = take (length stripe) b.symbols

  long : length stripe ≡ P.rows * P.columns
  long = (lent-fit p stripe marks fit).long

  words : length marks ≡ P.rows
  words = (lent-fit p stripe marks fit).words

  enough : P.rows * P.columns ≤ length b.symbols
  enough = subst (λ q. (plan_of q).rows * (plan_of q).columns ≤ length b.symbols) e.reached.plan e.reached.sound.room.stripe.size

  enough-words : P.rows ≤ length b.marks
  enough-words = subst (λ q. (plan_of q).rows ≤ length b.marks) e.reached.plan e.reached.sound.room.stripe.rows

  pub row-left : (r : ℕ) → r < P.rows → row_at P Y r ≡ row_at P b.symbols r
  unfolding row_at
  row-left r l = ap (λ n. row_at P (take n b.symbols) r) long ∙ row-front P.columns P.rows b.symbols r l

  -- the buffers are as long as they were
  pub long-left : length Y ≡ length stripe
  long-left = length-take-le (length stripe) b.symbols (omega (arith, long, enough))

  pub words_left : length (take (length marks) b.marks) ≡ length marks
  words_left = length-take-le (length marks) b.marks (omega (arith, words, enough-words))

  -- unmarked symbols stay
  pub unmarked-left : Agree p marks Y stripe
  unmarked-left =
      rows_agree p marks Y stripe (λ r l.
      rw (row-left r l) (alike-sym (marks_at P marks r) (row_at P stripe r) (row_at P b.symbols r) (e.reached.same r l)))

  -- a codeword that agrees has each symbol that is now unmarked
  pub agrees-left : (X : List ℕ) → Codeword p X → Agree p marks X stripe → Agree p (take (length marks) b.marks) X Y
  unfolding marks_at
  agrees-left X word agree =
      let h = e.reached.held X word agree in
      rows_agree p (take (length marks) b.marks) X Y (λ r l.
      rw (row-left r l, get_or-take (length marks) b.marks r 0 (omega (arith, words)))
      (alike-sym (marks_at P b.marks r) (row_at P b.symbols r) (row_at P X r) (h.alike r l)))

  -- where no row has marks
  module _ (none_left : rows_left b ≡ 0) where
    clear : (r : ℕ) → r < P.rows → get_or b.marks r 0 ≡ 0
    unfolding rows_left lossy
    clear r l =
        lossy-none b.marks (plan_of b.plan).rows none_left r (subst (λ q. r < (plan_of q).rows) (sym e.reached.plan) l)

    unmarked : (r : ℕ) → r < P.rows → marked (marks_at P b.marks r) ≡ 0
    unfolding marks_at
    unmarked r l = rw (clear r l) (clear-unmarked P.columns)

    -- the last level was learned
    at_top : b.level ≡ length P.levels
    unfolding rows_left
    at_top =
        elim (eq-or-lt_of_le (reached-level p stripe marks b e.reached)) [
          | inl q ↦ q
          | inr low ↦
              let Q = plan_of b.plan in
              let W = (level_of Q (suc b.level)).weights in
              let ms = lossy Q b.marks in
              absurd (T_not (dependent Q.field W ms) (unmarked-independent Q.field W ms none_left) (blocked-dependent b (e.stopped low)))
        ]

    has : Has p b Y
    has r l =
        elim (e.settled r l) [
          | inl t ↦ absurd (T_not (row_tied p b.level b.marks r)
              (unmarked-independent P.field (checks_to P b.level) (marks_at P b.marks r) (unmarked r l)) (settled-tied p b r t))
          | inr s ↦ s.1 ∙ ap (sums_of P.field (checks_to P b.level)) (sym (row-left r l))
        ]

    row-symbols : (r : ℕ) → r < P.rows → T (all_below (size P.field) (row_at P b.symbols r))
    row-symbols r l =
        unmarked-all (size P.field) (marks_at P b.marks r) (row_at P b.symbols r) (unmarked r l)
        (row-length P b.symbols r (omega (arith, enough, row-end P.columns l)) ∙ sym (marks-length P b.marks r))
        (subst (λ q. (r : ℕ) → r < (plan_of q).rows → RowFits (plan_of q) b.marks b.symbols r) e.reached.plan
        e.reached.sound.fit.row_fits r l)

    codeword-left : Codeword p Y
    unfolding row_at is_codeword
    codeword-left =
        let met = e.reached.meets Y has in
        record {
          long = long-left ∙ long;
          symbols =
              subst (λ n. T (all_below (size P.field) (take n b.symbols))) (sym long)
              (rows-below (size P.field) P.columns P.rows b.symbols row-symbols);
          holds =
              both (rows_hold P Y) (all (totals_hold P Y) (drop 1 P.levels)) met.rows
              (subst (λ ls. T (all (totals_hold P Y) (drop 1 ls))) (ap (λ t. take t P.levels) at_top ∙ take-length P.levels) met.totals);
        }

    pub is-restored : (mend_stripe p stripe marks ≡ Y) → mend_marks p stripe marks ≡ take (length marks) b.marks → IsRestored p stripe marks
    unfolding row_at
    is-restored s t = record {
      codeword = rw s codeword-left;
      agrees = rw s unmarked-left;
      only = λ X word agree.
          rows_ext P.columns P.rows X Y (λ r l. sym (held-unmarked p X b (e.reached.held X word agree) r l (clear r l)) ∙ sym (row-left r l))
          (drop_of_length-le X (le_of_eq word.long) ∙ sym (drop_of_length-le Y (le_of_eq codeword-left.long))) ∙ sym s;
      clear = t ∙ ap (λ n. take n b.marks) words ∙ zeros-take P.rows b.marks enough-words clear;
    }

-- ---- from the answer to where the rounds end

module _ (p : ℕ) (stripe marks : List ℕ) where
  -- an answer that is no refusal
  pub not-refused : (a : Answer) → answered (mend_report p stripe marks) ≡ Ok a → Fit p stripe marks
  unfolding when◌then◌else◌ answered mend_report
  not-refused a e = go (eqb (lent_refusal p stripe marks) 0) refl e
    where
      go : (z : Bool) → eqb (lent_refusal p stripe marks) 0 ≡ z
          → answered (when z then Ok (turn_report (mended p stripe marks)) else Err (lent_refusal p stripe marks)) ≡ Ok a → Fit p stripe marks
      go true q e = eqb-true (lent_refusal p stripe marks) 0 q
      go false q e = let z : ◌≡◌ {A = ℕ} 0 1 = cc in absurd (omega arith)

  module _ (fit : Fit p stripe marks) where
    lent : T (eqb (lent_refusal p stripe marks) 0)
    lent = rw fit tt

    pub report-turn : mend_report p stripe marks ≡ Ok (turn_report (mended p stripe marks))
    unfolding mend_report
    report-turn = if-true (eqb (lent_refusal p stripe marks) 0) (Ok (turn_report (mended p stripe marks))) (Err (lent_refusal p stripe marks)) lent

    -- so its answer is the rounds'
    pub answer-turn : answered (mend_report p stripe marks) ≡ Ok (turn_report (mended p stripe marks)).answer
    unfolding answered
    answer-turn = ap answered report-turn

    pub turn-answer : {a : Answer} → answered (mend_report p stripe marks) ≡ Ok a → (turn_report (mended p stripe marks)).answer ≡ a
    turn-answer e = cc (answer-turn, e)

    pub stripe-turn : mend_stripe p stripe marks ≡ turn_stripe (mended p stripe marks) stripe
    unfolding mend_stripe
    stripe-turn = if-true (eqb (lent_refusal p stripe marks) 0) (turn_stripe (mended p stripe marks) stripe) stripe lent

    pub marks-turn : mend_marks p stripe marks ≡ turn_marks (mended p stripe marks) marks
    unfolding mend_marks
    marks-turn = if-true (eqb (lent_refusal p stripe marks) 0) (turn_marks (mended p stripe marks) marks) marks lent

  -- a Clash is the rounds'
  pub clash-turn : (place : Place) → answered (mend_report p stripe marks) ≡ Ok (Clash place)
      → Fit p stripe marks × (mended p stripe marks ≡ clash place)
  unfolding when◌then◌else◌ turn_report end_report bare
  clash-turn place e =
      let fit = not-refused (Clash place) e in (fit, go (mended p stripe marks) (turn-answer fit e))
    where
      neither : (z : Bool) → (when z then Restored else Stuck) ≡ Clash place → ⊥
      neither true a = let z : ◌≡◌ {A = ℕ} 0 1 = cc in omega arith
      neither false a = let z : ◌≡◌ {A = ℕ} 0 1 = cc in omega arith

      go : (t : Turn) → (turn_report t).answer ≡ Clash place → t ≡ clash place
      go (on m) a = absurd (neither (eqb (rows_left m.bench) 0) a)
      go (end m) a = absurd (neither (eqb (rows_left m.bench) 0) a)
      go (clash it) a = let same : it ≡ place = cc in ap clash same

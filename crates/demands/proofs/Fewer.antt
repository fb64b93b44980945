-- Fewer losses never hurt: the order of steps over two sets of marks, carried to mending in one call. Assumes nothing.
use mathlib.Core.Path.{◌≡◌, refl, sym, ap, ◌∙◌, subst, subst₂}
use mathlib.Core.Bool.{Bool, true, false}
use mathlib.Core.List.{List, [], ◌∷◌}
use Prim.Native.Nat.{ℕ, suc, ◌+◌, ◌*◌, ◌<◌}
use native.Mathlib.Nat.{suc_inj, le_refl}
use native.Mathlib.Omega.{arith}
use lib.Dec.{T}
use lib.ListN.{length, get_or}
use lib.Seq.{get_or-take}
use Rattle.std.specs.Prelude.{Ok}
use Rattle.fills.proofs.Choices.{Inside}
use Rattle.plans.specs.Plan.{plan_of, row_at, marks_at}
use Rattle.steps.specs.Steps.{fresh}
use Rattle.repair.specs.Mending.{turn_report, turn_stripe, turn_marks, mend_report, mend_marks}
use Rattle.rounds.specs.Reports.{end_report}
use Rattle.plans.specs.declared.Bench.{Bench}
use Rattle.plans.proofs.Rows.{marks-length}
use Rattle.steps.proofs.Fit.{lent-fit, fresh-mark}
use Rattle.demands.specs.Words.{Codeword, Agree, Fit, walk, Quiet, rounds}
use Rattle.demands.specs.Fewer.{MarksInside, EndsClear, row_after, level_reached, NoWorse, FewerNeverHurt}
use Rattle.demands.proofs.Alike.{mark-at}
use Rattle.demands.proofs.Held.{Held, held-fresh, held-unmarked}
use Rattle.demands.proofs.Order.{RowInside, Below, below-unmarked, fewer-marks}
use Rattle.demands.proofs.Left.{row-left, report-turn, stripe-turn, marks-turn}
use Rattle.demands.proofs.Third.{ends}

-- ---- marks inside marks, place by place and row by row

at-inside : (ms ns : List Bool) → length ms ≡ length ns → ((i : ℕ) → i < length ms → get_or ms i true ≡ true → get_or ns i true ≡ true) → Inside ms ns
at-inside [] [] l h = tt
at-inside [] (n ∷ ns) l h = absurd (omega arith)
at-inside (m ∷ ms) [] l h = absurd (omega arith)
at-inside (m ∷ ms) (n ∷ ns) l h = (go m (h 0 (omega arith)), at-inside ms ns (suc_inj l) (λ i k. h (suc i) (omega arith)))
  where
    go : (m : Bool) → (m ≡ true → n ≡ true) → T m → T n
    go true f t = subst T (sym (f refl)) tt
    go false f t = absurd t

inside-rows : (p : ℕ) (ms ns : List ℕ) → MarksInside p ms ns → (r : ℕ) → r < (plan_of p).rows → RowInside p ms ns r
inside-rows p ms ns inside r l =
    let P = plan_of p in
    at-inside (marks_at P ms r) (marks_at P ns r) (marks-length P ms r ∙ sym (marks-length P ns r)) (λ c k e.
    let in_row = subst (λ n. c < n) (marks-length P ms r) k in
    sym (mark-at P ns r c l in_row) ∙ inside (r * P.columns + c) (mark-at P ms r c l in_row ∙ e))

-- ---- under one set of marks: what mending leaves behind stands on a quiet bench, held to the codeword

record LeftBy (p : ℕ) (X stripe marks : List ℕ) : Type 0 where
  bench : Bench
  held : Held p X bench
  quiet : Quiet bench
  leads : walk (rounds (plan_of p) (length (plan_of p).levels)) (fresh p stripe marks) ≡ bench
  words : (r : ℕ) → r < (plan_of p).rows → get_or (mend_marks p stripe marks) r 0 ≡ get_or bench.marks r 0
  rows : (r : ℕ) → r < (plan_of p).rows → row_after p stripe marks r ≡ row_at (plan_of p) bench.symbols r
  level : level_reached (mend_report p stripe marks) ≡ bench.level

left_by : (p : ℕ) (X stripe marks : List ℕ) → Codeword p X → Fit p stripe marks → Agree p marks X stripe → LeftBy p X stripe marks
unfolding end_report turn_report turn_stripe turn_marks
left_by p X stripe marks word fit agree =
    let e = ends p stripe marks record { fit = fit; true-stripe = X; codeword = word; agrees = agree } in
    let m = e.0 in
    let there = e.2 in
    record {
      bench = m.bench;
      held = there.reached.held X word agree;
      quiet = there.quiet;
      leads = there.leads;
      words = λ r l.
          ap (λ ws. get_or ws r 0) (marks-turn p stripe marks fit ∙ ap (λ t. turn_marks t marks) e.1)
          ∙ get_or-take (length marks) m.bench.marks r 0 (omega (arith, (lent-fit p stripe marks fit).words));
      rows = λ r l.
          ap (λ Y. row_at (plan_of p) Y r) (stripe-turn p stripe marks fit ∙ ap (λ t. turn_stripe t stripe) e.1)
          ∙ row-left p stripe marks fit m there r l;
      level = ap level_reached (report-turn p stripe marks fit ∙ ap (λ t. Ok (turn_report t)) e.1);
    }

-- a row without marks at the end is the codeword's
left-true : (p : ℕ) (X stripe marks : List ℕ) → (b : LeftBy p X stripe marks) → (r : ℕ) → r < (plan_of p).rows → EndsClear p stripe marks r
    → row_after p stripe marks r ≡ row_at (plan_of p) X r
left-true p X stripe marks b r l z = b.rows r l ∙ held-unmarked p X b.bench b.held r l (sym (b.words r l) ∙ z)

-- ---- under both

below-fresh : (p : ℕ) (s ms t ns : List ℕ) → MarksInside p ms ns → Fit p s ms → Fit p t ns → Below p (fresh p t ns) (fresh p s ms)
unfolding fresh marks_at
below-fresh p s ms t ns inside fit fit-more = record {
  level = le_refl 1;
  marks = λ r l.
      rw (fresh-mark p s ms (lent-fit p s ms fit) r l, fresh-mark p t ns (lent-fit p t ns fit-more) r l) (inside-rows p ms ns inside r l);
}

module _ (p : ℕ) (X s ms t ns : List ℕ) (few : LeftBy p X s ms) (many : LeftBy p X t ns) (below : Below p many.bench few.bench) where
  stays-unmarked : (r : ℕ) → r < (plan_of p).rows → EndsClear p t ns r → EndsClear p s ms r
  stays-unmarked r l z = few.words r l ∙ below-unmarked p X many.bench few.bench few.held below r l (sym (many.words r l) ∙ z)

  no-worse : NoWorse p X s ms t ns
  no-worse = record {
    unmarked = stays-unmarked;
    symbols = λ r l z. left-true p X s ms few r l (stays-unmarked r l z) ∙ sym (left-true p X t ns many r l z);
    true-symbols = λ r l z. left-true p X s ms few r l (stays-unmarked r l z);
    level = rw (few.level, many.level) below.level;
  }

pub fewer-never-hurt : FewerNeverHurt
fewer-never-hurt p X s ms t ns f =
    let few = left_by p X s ms f.codeword f.fit f.agrees in
    let many = left_by p X t ns f.codeword f.fit-more f.agrees-more in
    let moves = rounds (plan_of p) (length (plan_of p).levels) in
    no-worse p X s ms t ns few many
    (subst₂ (Below p) many.leads few.leads
    (fewer-marks p X (fresh p t ns) (fresh p s ms) (held-fresh p X t ns f.fit-more f.codeword f.agrees-more)
    (held-fresh p X s ms f.fit f.codeword f.agrees) (below-fresh p s ms t ns f.inside f.fit f.fit-more) moves moves
    (subst Quiet (sym few.leads) few.quiet)))

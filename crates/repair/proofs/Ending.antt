-- Mending in one call, by how its rounds ended. Assumes nothing.
use mathlib.Core.Path.{◌≡◌, refl, sym, ap, ◌∙◌, subst, subst₂}
use mathlib.Core.Bool.{Bool, true, false, not}
use mathlib.Core.List.{List, []}
use Prim.Native.Nat.{ℕ, suc, ◌+◌, ◌*◌, ◌-◌, ◌<◌, ◌≤◌}
use native.Mathlib.Nat.{suc-mul}
use native.Mathlib.Omega.{arith}
use borrow.Author.Tests.{eq-eqb, ne_eqb}
use lib.Count.{ones}
use lib.Dec.{eqb}
use lib.ListN.{length, take, replicate}
use lib.Seq.{take-append_seam}
use Rattle.std.specs.Prelude.{Result, Ok, Err}
use Rattle.field.specs.Lists.{when◌then◌else◌}
use Rattle.field.proofs.Lists.{map-up-same}
use Rattle.fills.specs.Lists.{only}
use Rattle.plans.specs.Answers.{refusal_number, numbered, refused_by}
use Rattle.plans.specs.Plan.{Plan, plan_of, checks_to}
use Rattle.plans.specs.Refusal.{lent_refusal}
use Rattle.plans.specs.Rooms.{row_room, symbol_room}
use Rattle.plans.specs.Tables.{padded}
use Rattle.steps.specs.Steps.{fresh, lossy}
use Rattle.steps.specs.Parts.{bench_of, standing_of, Ready}
use Rattle.steps.specs.Rounds.{Turn, on, end, clash, turns}
use Rattle.walks.specs.Walk.{over_marked}
use Rattle.rounds.specs.Reports.{rounds_on, rows_left, end_report, bare}
use Rattle.repair.specs.Mending.{mended, turn_report, turn_stripe, turn_marks, mend_report, mend_stripe, mend_marks}
use Rattle.rounds.specs.Ended.{start_of, Ended}
use Rattle.plans.specs.declared.Place.{Place}
use Rattle.plans.specs.declared.Report.{Report}
use Rattle.plans.specs.declared.Refusal.{Refusal}
use Rattle.plans.specs.declared.Answer.TheVariants.{Restored, Stuck, Clash}
use Rattle.plans.proofs.Plans.{shape, rows-most, symbols-most}
use Rattle.plans.proofs.Refusals.{accepted, its-number, refused}
use Rattle.steps.proofs.Fit.{LentFit, lent-fit, fresh-mark}
use Rattle.steps.proofs.Sound.{ready_of, sound-fresh}
use Rattle.walks.proofs.Over.{over-each, over-ends}

-- what is left behind: the answer, the stripe, the marks
abbrev pub Mends : (p : ℕ) (stripe marks : List ℕ) → Result Report Refusal → List ℕ → List ℕ → Type 0
Mends p stripe marks a s m = (numbered a ≡ mend_report p stripe marks) × ((s ≡ mend_stripe p stripe marks) × (m ≡ mend_marks p stripe marks))

module _ (p : ℕ) (stripe marks : List ℕ) where
  pub mends-refused : (r : Refusal) (a : Result Report Refusal) → refused_by (Err r) ≡ lent_refusal p stripe marks → numbered a ≡ Err (refusal_number r) → Mends p stripe marks a stripe marks
  unfolding mend_report mend_stripe mend_marks when◌then◌else◌
  mends-refused r a e q = rw (ne_eqb (lent_refusal p stripe marks) 0 (refused r e)) (q ∙ ap Err (its-number r e), (refl, refl))

-- where nothing is refused
module _ (p : ℕ) (stripe marks : List ℕ) (e : refused_by (Ok tt) ≡ lent_refusal p stripe marks) where
  z : lent_refusal p stripe marks ≡ 0
  z = accepted e

  lent : LentFit p stripe marks
  lent = lent-fit p stripe marks z

  -- what is lent has a mark word for each row, and fits a bench
  pub words-there : (plan_of p).rows ≤ length marks
  words-there = omega (arith, lent.words)

  pub stripe-few : length stripe ≤ symbol_room
  stripe-few = omega (arith, lent.long, symbols-most p)

  pub words-few : length marks ≤ row_room
  words-few = omega (arith, lent.words, rows-most p)

  -- what the rounds came to
  mends-by : (t : Turn) → mended p stripe marks ≡ t → (r : Report) (s m : List ℕ)
      → r ≡ turn_report t → s ≡ turn_stripe t stripe → m ≡ turn_marks t marks → Mends p stripe marks (Ok r) s m
  unfolding numbered mend_report mend_stripe mend_marks when◌then◌else◌
  mends-by t q r s m er es em = rw (eq-eqb (lent_refusal p stripe marks) 0 z, q) (ap Ok er, (es, em))

  -- ---- every row has more marks than sums, where this shows that it is tied

  module _ (over : over_marked (plan_of p) marks ≡ true) where
    abbrev P : Plan
    P = plan_of p

    -- the turns behind the first level step
    abbrev rest : ℕ
    rest = (length P.levels - 1) * suc P.rows

    enough : length P.levels * suc P.rows ≡ P.rows + suc rest
    enough =
        let one : length P.levels ≡ suc (length P.levels - 1) = omega (arith, (shape p lent.plan-known).levels-pos) in
        ap (λ k. k * suc P.rows) one ∙ suc-mul (length P.levels - 1) (suc P.rows) ∙ omega arith

    ended : mended p stripe marks ≡ end (standing_of (fresh p stripe marks) P.rows (replicate 3 0))
    unfolding mended fresh
    ended =
        let told = over-each P marks over in
        ap (λ k. turns k (standing_of (fresh p stripe marks) 0 (replicate 3 0))) enough
        ∙ over-ends p _ _ _ (sound-fresh p stripe marks z) told.0
        (λ r h. subst (λ w. length (checks_to P 1) < ones w) (sym (fresh-mark p stripe marks lent r h)) (told.1 r h)) rest (replicate 3 0)

    same-lossy : lossy P marks ≡ lossy P (fresh p stripe marks).marks
    unfolding lossy
    same-lossy =
        map-up-same _ _ 0 P.rows (λ r h. ap (λ w. not (eqb w 0)) (sym (fresh-mark p stripe marks lent (0 + r) (omega arith))))

    pub mends-over : (r : Report) → r ≡ end_report (standing_of (bench_of p 1 [] marks []) 0 (replicate 3 0)) → Mends p stripe marks (Ok r) stripe marks
    unfolding turn_report turn_stripe turn_marks end_report rows_left fresh
    mends-over r q =
        mends-by _ ended r stripe marks (q ∙ ap (λ l. report_of (length (only (λ m. m) l))) same-lossy)
        (sym (take-append_seam stripe _)) (sym (take-append_seam marks _))
      where
        report_of : (left : ℕ) → Report
        report_of left = record { answer = when eqb left 0 then Restored else Stuck; level = 1; rows = replicate 3 0; left = left }

  -- ---- the rounds, on a bench of the code's arrays: what is lent, and zeros behind it

  module _ {symbols words : List ℕ} (es : symbols ≡ padded symbol_room stripe) (em : words ≡ padded row_room marks) where
    pub start-ready : Ready (start_of p symbols words)
    unfolding fresh padded
    start-ready = rw (es, em) (ready_of (sound-fresh p stripe marks z))

    module _ (r : Report) (symbols' words' : List ℕ) (o : Ended (rounds_on p (start_of p symbols words)) r symbols' words') where
      ended-lent : Ended (mended p stripe marks) r symbols' words'
      unfolding mended fresh padded
      ended-lent = subst₂ (λ s w. Ended (rounds_on p (start_of p s w)) r symbols' words') es em o

      pub mends-clash : {place : Place} → r.answer ≡ Clash place → Mends p stripe marks (Ok r) stripe marks
      unfolding turn_report turn_stripe turn_marks end_report when◌then◌else◌
      mends-clash {place} h = go (mended p stripe marks) refl ended-lent
        where
          go : (t : Turn) → mended p stripe marks ≡ t → Ended t r symbols' words' → Mends p stripe marks (Ok r) stripe marks
          go (on m) q w = absurd w
          go (end m) q w = absurd (never (eqb (rows_left m.bench) 0) (ap (λ (r : Report). r.answer) (sym w.0) ∙ h))
            where
              never : (z : Bool) → (when z then Restored else Stuck) ≡ Clash place → ⊥
              never true g = let z : ◌≡◌ {A = ℕ} 0 1 = cc in omega arith
              never false g = let z : ◌≡◌ {A = ℕ} 0 1 = cc in omega arith
          go (clash place) q w = mends-by (clash place) q r stripe marks w refl refl

      pub mends-end : ((place : Place) → r.answer ≡ Clash place → ⊥) → {s m : List ℕ} → s ≡ take (length stripe) symbols' → m ≡ take (length marks) words'
          → Mends p stripe marks (Ok r) s m
      unfolding bare turn_report turn_stripe turn_marks
      mends-end h {s} {m} e f = go (mended p stripe marks) refl ended-lent
        where
          go : (t : Turn) → mended p stripe marks ≡ t → Ended t r symbols' words' → Mends p stripe marks (Ok r) s m
          go (on m) q w = absurd w
          go (end n) q w = mends-by (end n) q r s m w.0 (e ∙ ap (take (length stripe)) w.1) (f ∙ ap (take (length marks)) w.2)
          go (clash place) q w = absurd (h place (ap (λ (r : Report). r.answer) w))

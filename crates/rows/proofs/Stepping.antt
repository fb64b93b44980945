-- The row step on a bench, by what the row's fill answers. Assumes nothing.
use mathlib.Core.Path.{◌≡◌, refl, sym, ap, ◌∙◌}
use mathlib.Core.List.{List}
use Prim.Native.Nat.{ℕ, ◌+◌, ◌*◌, ◌<◌, ◌≤◌}
use borrow.Author.Tests.{eq-eqb, ne_eqb}
use lib.Dec.{eqb, ltb, ltb→lt}
use lib.ListN.{length, get_or, set}
use lib.Seq.{sets}
use Rattle.std.specs.Prelude.{Ok, Err}
use Rattle.field.specs.Lists.{when◌then◌else◌}
use Rattle.fills.specs.Fill.{Fill}
use Rattle.linear.specs.Answer.{answer_of, vector_of}
use Rattle.linear.specs.declared.FillAnswer.{FillAnswer}
use Rattle.linear.specs.declared.FillAnswer.TheVariants.{Tied as TiedFill, None, One}
use Rattle.plans.specs.Answers.{refusal_number, refused_by}
use Rattle.plans.specs.Plan.{plan_of, row_at}
use Rattle.plans.specs.Refusal.{bench_refusal}
use Rattle.steps.specs.Steps.{Stepped, stepped, row_fill, put_row, row_step_by, row_step}
use Rattle.steps.specs.Parts.{bench_of}
use Rattle.plans.specs.declared.Bench.{Bench}
use Rattle.plans.specs.declared.Refusal.{Refusal}
use Rattle.plans.specs.declared.Step.{Step}
use Rattle.plans.specs.declared.Step.TheVariants.{Whole, Filled, Tied, Clash}
use Rattle.plans.proofs.Refusals.{accepted, its-number, refused}
use Rattle.plans.proofs.Rows.{row-length, row-again}
use Rattle.steps.proofs.Answers.{answer-tied, answer-none, answer-one}
use Rattle.steps.proofs.Fit.{BenchFit, bench-fit}
use Rattle.steps.proofs.Ends.{is-refused, is-taken}

-- `R` are the plan's rows as the code has them
module _ (b : Bench) (r : ℕ) {R : ℕ} (rows : R ≡ (plan_of b.plan).rows) where
  by-plan : {n : ℕ} → n ≡ bench_refusal b (ltb r R) → n ≡ bench_refusal b (ltb r (plan_of b.plan).rows)
  by-plan e = e ∙ ap (λ k. bench_refusal b (ltb r k)) rows

  pub row-refused : (why : Refusal) → refused_by (Err why) ≡ bench_refusal b (ltb r R) → stepped b (Err (refusal_number why)) ≡ row_step b r
  unfolding row_step
  row-refused why e =
      let told = by-plan e in rw (its-number why told) (is-refused _ b (row_step_by b r (row_fill b r)) (refused why told))

  module _ (e : refused_by (Ok tt) ≡ bench_refusal b (ltb r R)) where
    unrefused : bench_refusal b (ltb r (plan_of b.plan).rows) ≡ 0
    unrefused = accepted (by-plan e)

    -- the bench is fit, and the row is its plan's
    pub row_fits : BenchFit b × (r < (plan_of b.plan).rows)
    row_fits =
        let f = bench-fit b (ltb r (plan_of b.plan).rows) unrefused in (f.0, ltb→lt r (plan_of b.plan).rows f.1)

    taken : row_step_by b r (row_fill b r) ≡ row_step b r
    unfolding row_step
    taken = sym (is-taken b (row_step_by b r (row_fill b r)) unrefused)

    module _ {a : FillAnswer} {symbols : List ℕ} (answer : a ≡ answer_of (row_fill b r))
        (l : symbols ≡ sets b.symbols (r * (plan_of b.plan).columns) (vector_of (row_fill b r) (row_at (plan_of b.plan) b.symbols r))) where
      -- a row that is not filled is as it was
      module _ (place : r * (plan_of b.plan).columns + (plan_of b.plan).columns ≤ length b.symbols) where
        left : {f : Fill} → row_fill b r ≡ f → vector_of f (row_at (plan_of b.plan) b.symbols r) ≡ row_at (plan_of b.plan) b.symbols r
            → bench_of b.plan b.level symbols b.marks b.sums ≡ b
        left q e =
            let P = plan_of b.plan in
            let row = row_at P b.symbols r in
            ap (λ s. bench_of b.plan b.level s b.marks b.sums)
            (l ∙ ap (sets b.symbols (r * P.columns)) (ap (λ g. vector_of g row) q ∙ e)
            ∙ row-again P r row b.symbols (row-length P b.symbols r place) place refl)

        pub step-tied : a ≡ TiedFill → stepped (bench_of b.plan b.level symbols b.marks b.sums) (Ok Tied) ≡ row_step b r
        unfolding vector_of row_step_by
        step-tied k =
            let q = answer-tied (row_fill b r) (sym answer ∙ k) in
            ap (λ x. stepped x (Ok Tied)) (left q refl) ∙ sym (ap (row_step_by b r) q) ∙ taken

        pub step-none : a ≡ None → stepped (bench_of b.plan b.level symbols b.marks b.sums) (Ok Clash) ≡ row_step b r
        unfolding vector_of row_step_by
        step-none k =
            let q = answer-none (row_fill b r) (sym answer ∙ k) in
            ap (λ x. stepped x (Ok Clash)) (left q refl) ∙ sym (ap (row_step_by b r) q) ∙ taken

      module _ (k : a ≡ One) where
        -- symbols and marks as the code leaves them
        abbrev made : Step → Stepped Step
        made s = stepped (bench_of b.plan b.level symbols (set b.marks r 0) b.sums) (Ok s)

        put : made (when eqb (get_or b.marks r 0) 0 then Whole else Filled) ≡ row_step b r
        unfolding row_step_by put_row
        put =
            let answered = when eqb (get_or b.marks r 0) 0 then Whole else Filled in
            ap (λ s. stepped (bench_of b.plan b.level s (set b.marks r 0) b.sums) (Ok answered)) l
            ∙ sym (ap (row_step_by b r) (answer-one (row_fill b r) (row_at (plan_of b.plan) b.symbols r) (sym answer ∙ k))) ∙ taken

        pub step-whole : get_or b.marks r 0 ≡ 0 → made Whole ≡ row_step b r
        unfolding when◌then◌else◌
        step-whole z = ap made (sym (ap (λ c. when c then Whole else Filled) (eq-eqb (get_or b.marks r 0) 0 z))) ∙ put

        pub step-filled : (get_or b.marks r 0 ≡ 0 → ⊥) → made Filled ≡ row_step b r
        unfolding when◌then◌else◌
        step-filled ne = ap made (sym (ap (λ c. when c then Whole else Filled) (ne_eqb (get_or b.marks r 0) 0 ne))) ∙ put

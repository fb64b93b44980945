-- What is written as one byte is below 256: a report's values, and a bench's plan and level. Assumes nothing.
use mathlib.Core.Path.{◌≡◌, refl, sym, subst}
use mathlib.Core.Bool.{Bool, true, false}
use mathlib.Core.List.{List, [], ◌∷◌}
use Rattle.std.specs.Prelude.{Result, Ok}
use Prim.Native.Nat.{ℕ, zero, suc, ◌<◌, ◌≤◌}
use native.Mathlib.Nat.{le_trans}
use native.Mathlib.Omega.{arith}
use borrow.Author.Tests.{ltb-true}
use lib.Dec.{T, ltb, ltb→lt, lt→ltb}
use lib.ListN.{length}
use Rattle.field.specs.Lists.{when◌then◌else◌}
use Rattle.field.proofs.Test.{both_left, both_right, both}
use Rattle.fills.specs.Lists.{all}
use Rattle.plans.specs.Plan.{plan_of}
use Rattle.plans.specs.Answers.{report_values}
use Rattle.plans.specs.Refusal.{unasked, all_below, lent_refusal, bench_refusal}
use Rattle.steps.specs.Steps.{Stepped, fresh, empty, started_by, started, stepped, unless_refused, Learned, blocked, failing, learned, level_fill, raise, level_step_by, level_step}
use Rattle.repair.specs.Mending.{mend_report}
use Rattle.texts.specs.Parts.{numbers}
use Rattle.plans.specs.declared.Bench.{Bench}
use Rattle.plans.specs.declared.Report.{Report}
use Rattle.plans.specs.declared.Step.{Step}
use Rattle.plans.specs.declared.Step.TheVariants.{Top}
use Rattle.plans.proofs.Plans.{shape}
use Rattle.words.specs.Words.{byte_range}
use Rattle.layout.specs.Parts.{Small}
use Rattle.steps.proofs.Fit.{lent-fit, bench-fit}
use Rattle.steps.proofs.Sound.{level-plan}
use Rattle.files.proofs.Stripes.{known-below}
use Rattle.printing.proofs.Printing.{report-printable}

-- ---- lists of small numbers

below-le : (q r : ℕ) → q ≤ r → (xs : List ℕ) → T (all_below q xs) → T (all_below r xs)
unfolding all all_below
below-le q r l [] t = tt
below-le q r l (x ∷ xs) t =
    both (ltb x r) (all_below r xs) (lt→ltb x r (le_trans (ltb→lt x q (both_left (ltb x q) (all_below q xs) t)) l))
    (below-le q r l xs (both_right (ltb x q) (all_below q xs) t))

-- ---- a report

pub report-fits : (p : ℕ) (stripe marks : List ℕ) {r : Report} → Ok r ≡ mend_report p stripe marks → T (all_below byte_range (report_values (plan_of p) r))
report-fits p stripe marks {r} e = below-le numbers byte_range (omega arith) (report_values (plan_of p) r) (report-printable p stripe marks e).values

-- ---- a bench

pub start_small : (p : ℕ) (stripe marks : List ℕ) {b : Bench} (answer : Result Unit ℕ) → stepped b answer ≡ started p stripe marks → Small b
unfolding fresh empty stepped started_by started
start_small p stripe marks answer e = subst (λ (s : Stepped Unit). Small s.bench) (sym e) (go (lent_refusal p stripe marks) refl)
  where
    go : (n : ℕ) → lent_refusal p stripe marks ≡ n → Small (started_by n p stripe marks).bench
    go zero e = record { plan = omega (arith, known-below p (lent-fit p stripe marks e).plan-known); level = omega arith }
    go (suc n) e = record { plan = omega arith; level = omega arith }

module _ (b : Bench) where
  -- a level that is raised is the plan's last at most
  level-most : b.level < byte_range → (level_step b).bench.level < byte_range
  unfolding when◌then◌else◌ stepped unless_refused raise level_step_by level_step
  level-most h = go (bench_refusal b unasked) refl (ltb b.level (length (plan_of b.plan).levels)) refl (level_fill b)
    where
      go : (n : ℕ) → bench_refusal b unasked ≡ n → (c : Bool) → ltb b.level (length (plan_of b.plan).levels) ≡ c → (l : Learned)
          → (unless_refused n b (when c then level_step_by b l else stepped b (Ok Top))).bench.level < byte_range
      go zero e true f blocked = h
      go zero e true f failing = h
      go zero e true f (learned cs) =
          omega (arith, ltb-true b.level (length (plan_of b.plan).levels) f, (shape b.plan (bench-fit b unasked e).0.plan-known).levels-le)
      go zero e false f l = h
      go (suc n) e c f l = h

pub level-small : (b : Bench) {new : Bench} (answer : Result Step ℕ) → Small b → stepped new answer ≡ level_step b → Small new
unfolding stepped
level-small b answer small e =
    subst (λ (s : Stepped Step). Small s.bench) (sym e)
    record { plan = subst (λ p. p < byte_range) (sym (level-plan b)) small.plan; level = level-most b small.level }

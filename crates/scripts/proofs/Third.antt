-- The third demand for scripts. Assumes nothing.
use mathlib.Core.Path.{◌≡◌, sym, ap, ◌∙◌, subst}
use mathlib.Core.List.{List, map}
use Prim.Native.Nat.{ℕ}
use lib.ListN.{length, take}
use Rattle.plans.specs.Plan.{plan_of}
use Rattle.steps.specs.Steps.{fresh, stepped, started_by, started}
use Rattle.repair.specs.Mending.{turn_stripe, turn_marks}
use Rattle.plans.specs.declared.Bench.{Bench}
use Rattle.layout.specs.Layout.{bench_size, bench_bytes, bench_in}
use Rattle.shelf.specs.Calls.{start_buffer}
use Rattle.demands.specs.Words.{Move, walk, Quiet, rounds}
use Rattle.demands.specs.Third.{Premise}
use Rattle.demands.proofs.Left.{stripe-turn, marks-turn}
use Rattle.demands.proofs.Third.{order-never-matters, mending-ends-there, rounds-suffice}
use Rattle.scripts.specs.Calls.{step, Holds}
use Rattle.scripts.specs.Third.{script, QuietBytes, ScriptsEndEqual, ScriptsEndMended, ScriptRoundsSuffice}
use Rattle.scripts.proofs.Calls.{steps-are-walk, start-leaves, step-leaves, run_holds}

-- ---- quiet on bytes is quiet on the bench

module _ {buffer : List ℕ} {b : Bench} (h : Holds buffer b) where
  quiet-bench : QuietBytes buffer → Quiet b
  quiet-bench q m = sym (step-leaves h m).reads ∙ ap bench_in (q m) ∙ h.reads

  pub quiet-bytes : Quiet b → QuietBytes buffer
  quiet-bytes q m = (step-leaves h m).bytes ∙ ap bench_bytes (q m) ∙ sym h.bytes

-- ---- scripts

module _ (p : ℕ) (stripe marks : List ℕ) (premise : Premise p stripe marks) where
  abbrev a : Bench
  a = fresh p stripe marks

  start-holds : (buffer : List ℕ) → length buffer ≡ bench_size → Holds (start_buffer p stripe marks buffer) a
  unfolding stepped started_by started
  start-holds buffer e =
      subst (Holds (start_buffer p stripe marks buffer)) (ap (λ n. (started_by n p stripe marks).bench) premise.fit)
      (start-leaves p stripe marks buffer e)

  -- the buffer of a script holds the bench of the walk
  pub script-holds : (buffer : List ℕ) → length buffer ≡ bench_size → (ms : List Move) → Holds (script p stripe marks ms buffer) (walk ms a)
  script-holds buffer e ms =
      subst (Holds (script p stripe marks ms buffer)) (steps-are-walk ms a) (run_holds (map step ms) (start-holds buffer e))

  script-quiet : (buffer : List ℕ) → length buffer ≡ bench_size → (ms : List Move) → QuietBytes (script p stripe marks ms buffer)
      → Quiet (walk ms a)
  script-quiet buffer e ms = quiet-bench (script-holds buffer e ms)

pub scripts-end-equal : ScriptsEndEqual
scripts-end-equal p stripe marks premise a b ea eb ms ns q r =
    (script-holds p stripe marks premise a ea ms).bytes
    ∙ ap bench_bytes (order-never-matters p stripe marks premise ms ns (script-quiet p stripe marks premise a ea ms q)
    (script-quiet p stripe marks premise b eb ns r))
    ∙ sym (script-holds p stripe marks premise b eb ns).bytes

pub scripts-end-mended : ScriptsEndMended
unfolding turn_stripe turn_marks
scripts-end-mended p stripe marks premise buffer e ms q =
    let there = mending-ends-there p stripe marks premise in
    let holds : bench_in (script p stripe marks ms buffer) ≡ there.standing.bench =
    (script-holds p stripe marks premise buffer e ms).reads ∙ there.same ms (script-quiet p stripe marks premise buffer e ms q) in
    record {
      stripe-left =
          ap (λ (b : Bench). take (length stripe) b.symbols) holds ∙ ap (λ t. turn_stripe t stripe) (sym there.ends)
          ∙ sym (stripe-turn p stripe marks premise.fit);
      marks-left =
          ap (λ (b : Bench). take (length marks) b.marks) holds ∙ ap (λ t. turn_marks t marks) (sym there.ends)
          ∙ sym (marks-turn p stripe marks premise.fit);
    }

pub script-rounds-suffice : ScriptRoundsSuffice
script-rounds-suffice p stripe marks premise buffer e =
    quiet-bytes (script-holds p stripe marks premise buffer e (rounds (plan_of p) (length (plan_of p).levels)))
    (rounds-suffice p stripe marks premise)

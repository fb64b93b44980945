-- Calls on a bench buffer, one after the other, are the steps on the bench that it holds. Assumes nothing.
use mathlib.Core.Path.{◌≡◌, refl, sym, ap, ap₂, ◌∙◌}
use mathlib.Core.Logic.{◌≢◌}
use mathlib.Core.List.{List, [], ◌∷◌}
use Prim.Native.Nat.{ℕ}
use lib.ListN.{length}
use Rattle.plans.specs.Answers.{step_number, as_number}
use Rattle.steps.specs.Steps.{started}
use Rattle.plans.specs.declared.Bench.{Bench}
use Rattle.layout.specs.Layout.{bench_size, bench_bytes, bench_in}
use Rattle.shelf.specs.Calls.{start_number, start_buffer, step_answer, step_buffer}
use Rattle.shelf.proofs.Sizing.{sized-fit, sized-unfit}
use Rattle.demands.specs.Words.{Move, on_row, on_level, after}
use Rattle.scripts.specs.Kept.{OfCode}
use Rattle.scripts.specs.Calls.{Call, start, step, step_of, leaves, answers, run, told, bench_after, number_of, bench_run, numbers, StepsAreWalk, Holds, BuffersHold, CallsAreSteps, OtherSizeStays}
use Rattle.scripts.proofs.Kept.{written-is-read, written-long, read-is-written, read-of-code, start-of-code, row-step-of-code, level-step-of-code}

pub steps-are-walk : StepsAreWalk
steps-are-walk [] b = refl
steps-are-walk (m ∷ ms) b = steps-are-walk ms (after b m)

-- ---- what a buffer holds

pub buffers-hold : BuffersHold
buffers-hold buffer t e = record { code = read-of-code buffer t e; bytes = sym (read-is-written buffer t e); reads = refl }

-- what was written holds the bench
pub written-holds : {buffer : List ℕ} (b : Bench) → OfCode b → buffer ≡ bench_bytes b → Holds buffer b
written-holds b c e = record { code = c; bytes = e; reads = ap bench_in e ∙ written-is-read b c }

pub holds-long : {buffer : List ℕ} {b : Bench} → Holds buffer b → length buffer ≡ bench_size
holds-long {b = b} h = ap length h.bytes ∙ written-long b h.code

-- ---- one call

after_is : (b : Bench) (m : Move) → (step_of m b).bench ≡ after b m
after_is b (on_row r) = refl
after_is b on_level = refl

after-of-code : (b : Bench) → OfCode b → (m : Move) → OfCode (after b m)
after-of-code b c (on_row r) = row-step-of-code b c r
after-of-code b c on_level = level-step-of-code b c

pub start-leaves : (p : ℕ) (stripe marks buffer : List ℕ) → length buffer ≡ bench_size
    → Holds (start_buffer p stripe marks buffer) (started p stripe marks).bench
unfolding start_buffer
start-leaves p stripe marks buffer e =
    written-holds (started p stripe marks).bench (start-of-code p stripe marks) (sized-fit bench_size buffer _ buffer e)

module _ {buffer : List ℕ} {b : Bench} (h : Holds buffer b) where
  pub step-leaves : (m : Move) → Holds (step_buffer (step_of m) buffer) (after b m)
  unfolding step_buffer
  step-leaves m =
      written-holds (after b m) (after-of-code b h.code m)
      (sized-fit bench_size buffer _ buffer (holds-long h)
      ∙ ap (λ c. bench_bytes (step_of m c).bench) h.reads ∙ ap bench_bytes (after_is b m))

  call-leaves : (c : Call) → Holds (leaves buffer c) (bench_after b c)
  call-leaves (start p stripe marks) = start-leaves p stripe marks buffer (holds-long h)
  call-leaves (step m) = step-leaves m

  call-answers : (c : Call) → answers buffer c ≡ number_of b c
  unfolding start_number step_answer
  call-answers (start p stripe marks) = sized-fit bench_size buffer _ _ (holds-long h)
  call-answers (step m) =
      sized-fit bench_size buffer _ _ (holds-long h) ∙ ap (λ c. as_number step_number (step_of m c).answer) h.reads

-- ---- calls one after the other

pub run_holds : (cs : List Call) {buffer : List ℕ} {b : Bench} → Holds buffer b → Holds (run cs buffer) (bench_run cs b)
run_holds [] h = h
run_holds (c ∷ cs) h = run_holds cs (call-leaves h c)

run-tells : (cs : List Call) {buffer : List ℕ} {b : Bench} → Holds buffer b → told cs buffer ≡ numbers cs b
run-tells [] h = refl
run-tells (c ∷ cs) h = ap₂ ◌∷◌ (call-answers h c) (run-tells cs (call-leaves h c))

pub calls-are-steps : CallsAreSteps
calls-are-steps cs buffer t e = let h = buffers-hold buffer t e in record { holds = run_holds cs h; answers = run-tells cs h }

-- ---- a buffer of another size

call_stays : (buffer : List ℕ) → length buffer ≢ bench_size → (c : Call) → leaves buffer c ≡ buffer
unfolding start_buffer step_buffer
call_stays buffer h (start p stripe marks) = sized-unfit bench_size buffer _ _ h
call_stays buffer h (step m) = sized-unfit bench_size buffer _ _ h

pub other-size-stays : OtherSizeStays
other-size-stays [] buffer h = refl
other-size-stays (c ∷ cs) buffer h = ap (run cs) (call_stays buffer h c) ∙ other-size-stays cs buffer h

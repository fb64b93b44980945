-- The calls of a script on one bench buffer, one after the other, and the same on the bench that the buffer holds.
use Rattle.std.specs.Prelude.{ℕ, ◌≡◌, ◌≢◌, List, [], ◌∷◌, map, T, length}
use Rattle.plans.specs.Answers.{step_number, as_number}
use Rattle.plans.specs.Refusal.{all_below}
use Rattle.words.specs.Words.{byte_range}
use Rattle.steps.specs.Steps.{Stepped, started, row_step, level_step}
use Rattle.plans.specs.declared.Bench.{Bench}
use Rattle.plans.specs.declared.Step.{Step}
use Rattle.layout.specs.Layout.{bench_size, bench_bytes, bench_in}
use Rattle.shelf.specs.Calls.{start_number, start_buffer, step_answer, step_buffer}
use Rattle.demands.specs.Words.{Move, on_row, on_level, after, walk}
use Rattle.scripts.specs.Kept.{OfCode}

-- ---- on a buffer

-- shelf_start with its plan, stripe and marks; or shelf_row_step or shelf_level_step
pub data Call : Type 0 where
  start : ℕ → (stripe marks : List ℕ) → Call
  step : Move → Call

-- the step of a row, or of the level, on a bench
abbrev pub step_of : Move → Bench → Stepped Step
step_of (on_row r) = λ b. row_step b r
step_of on_level = level_step

-- what a call leaves in the buffer
abbrev pub leaves : List ℕ → Call → List ℕ
leaves buffer (start p stripe marks) = start_buffer p stripe marks buffer
leaves buffer (step m) = step_buffer (step_of m) buffer

-- what it answers
abbrev pub answers : List ℕ → Call → ℕ
answers buffer (start p stripe marks) = start_number p stripe marks buffer
answers buffer (step m) = step_answer (step_of m) buffer

-- the calls of the list, one after the other: the buffer afterwards
abbrev pub run : List Call → List ℕ → List ℕ
run [] buffer = buffer
run (c ∷ cs) buffer = run cs (leaves buffer c)

-- and the answers on the way
abbrev pub told : List Call → List ℕ → List ℕ
told [] buffer = []
told (c ∷ cs) buffer = answers buffer c ∷ told cs (leaves buffer c)

-- ---- on a bench

-- a start puts its bench in place of the other, a step is the step
abbrev pub bench_after : Bench → Call → Bench
bench_after b (start p stripe marks) = (started p stripe marks).bench
bench_after b (step m) = after b m

-- the number of the answer
abbrev pub number_of : Bench → Call → ℕ
number_of b (start p stripe marks) = as_number (λ _. 0) (started p stripe marks).answer
number_of b (step m) = as_number step_number (step_of m b).answer

abbrev pub bench_run : List Call → Bench → Bench
bench_run [] b = b
bench_run (c ∷ cs) b = bench_run cs (bench_after b c)

abbrev pub numbers : List Call → Bench → List ℕ
numbers [] b = []
numbers (c ∷ cs) b = number_of b c ∷ numbers cs (bench_after b c)

-- ---- the two are the same

-- a sequence of steps alone is a walk
abbrev pub StepsAreWalk : Type 0
StepsAreWalk = (ms : List Move) (b : Bench) → bench_run (map step ms) b ≡ walk ms b

-- the buffer holds the bench: it is the bench's bytes, and reads as the bench
pub record Holds (buffer : List ℕ) (b : Bench) : Type 0 where
  pub code : OfCode b
  pub bytes : buffer ≡ bench_bytes b
  pub reads : bench_in buffer ≡ b

-- any bytes of a bench buffer hold the bench that they read as
abbrev pub BuffersHold : Type 0
BuffersHold = (buffer : List ℕ) → T (all_below byte_range buffer) → length buffer ≡ bench_size → Holds buffer (bench_in buffer)

-- after any calls on them the buffer holds the bench after the same steps, and the answers are the numbers of the steps' answers
pub record RunIsSteps (cs : List Call) (buffer : List ℕ) : Type 0 where
  pub holds : Holds (run cs buffer) (bench_run cs (bench_in buffer))
  pub answers : told cs buffer ≡ numbers cs (bench_in buffer)

abbrev pub CallsAreSteps : Type 0
CallsAreSteps = (cs : List Call) (buffer : List ℕ) → T (all_below byte_range buffer) → length buffer ≡ bench_size → RunIsSteps cs buffer

-- a buffer of another size is never changed
abbrev pub OtherSizeStays : Type 0
OtherSizeStays = (cs : List Call) (buffer : List ℕ) → length buffer ≢ bench_size → run cs buffer ≡ buffer

-- The third demand for scripts: the order of the step calls never matters to the bytes in the buffer.
use Rattle.std.specs.Prelude.{ℕ, ◌≡◌, List, ◌∷◌, map, length, take}
use Rattle.plans.specs.Plan.{plan_of}
use Rattle.repair.specs.Mending.{mend_stripe, mend_marks}
use Rattle.layout.specs.Layout.{bench_size, bench_in}
use Rattle.demands.specs.Words.{Move, rounds}
use Rattle.demands.specs.Third.{Premise}
use Rattle.scripts.specs.Calls.{start, step, leaves, run}

-- shelf_start into a buffer, whatever stands in it, and then steps
abbrev pub script : ℕ → (stripe marks : List ℕ) → List Move → (buffer : List ℕ) → List ℕ
script p stripe marks ms buffer = run (start p stripe marks ∷ map step ms) buffer

-- no step call would change the buffer
abbrev pub QuietBytes : List ℕ → Type 0
QuietBytes buffer = (m : Move) → leaves buffer (step m) ≡ buffer

-- any two scripts from one damaged stripe, each carried on until no step call would change its buffer, end with equal bytes
abbrev pub ScriptsEndEqual : Type 0
ScriptsEndEqual = (p : ℕ) (stripe marks : List ℕ) → Premise p stripe marks
    → (a b : List ℕ) → length a ≡ bench_size → length b ≡ bench_size → (ms ns : List Move)
    → QuietBytes (script p stripe marks ms a) → QuietBytes (script p stripe marks ns b) → script p stripe marks ms a ≡ script p stripe marks ns b

-- and these hold the stripe and the marks that mending in one call leaves
pub record HoldsMending (p : ℕ) (stripe marks buffer : List ℕ) : Type 0 where
  pub stripe-left : take (length stripe) (bench_in buffer).symbols ≡ mend_stripe p stripe marks
  pub marks-left : take (length marks) (bench_in buffer).marks ≡ mend_marks p stripe marks

abbrev pub ScriptsEndMended : Type 0
ScriptsEndMended = (p : ℕ) (stripe marks : List ℕ) → Premise p stripe marks → (buffer : List ℕ) → length buffer ≡ bench_size → (ms : List Move)
    → QuietBytes (script p stripe marks ms buffer) → HoldsMending p stripe marks (script p stripe marks ms buffer)

-- after as many rounds as the plan has levels no step call changes anything
abbrev pub ScriptRoundsSuffice : Type 0
ScriptRoundsSuffice = (p : ℕ) (stripe marks : List ℕ) → Premise p stripe marks → (buffer : List ℕ) → length buffer ≡ bench_size
    → QuietBytes (script p stripe marks (rounds (plan_of p) (length (plan_of p).levels)) buffer)

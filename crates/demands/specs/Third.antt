-- The third demand: the order of row steps and level steps never matters.
use Rattle.std.specs.Prelude.{ℕ, ◌≡◌, List, length}
use Rattle.plans.specs.Plan.{plan_of}
use Rattle.steps.specs.Steps.{fresh}
use Rattle.steps.specs.Rounds.{Standing, end}
use Rattle.repair.specs.Mending.{mended}
use Rattle.demands.specs.Words.{Codeword, Agree, Fit, Move, walk, Quiet, rounds}

-- the premise: the unmarked symbols agree with some codeword
pub record Premise (p : ℕ) (stripe marks : List ℕ) : Type 0 where
  pub fit : Fit p stripe marks
  pub true-stripe : List ℕ
  pub codeword : Codeword p true-stripe
  pub agrees : Agree p marks true-stripe stripe

-- any two sequences, each carried on until no step would change anything, end with equal benches
abbrev pub OrderNeverMatters : Type 0
OrderNeverMatters = (p : ℕ) (stripe marks : List ℕ) → Premise p stripe marks → (ms ns : List Move)
    → Quiet (walk ms (fresh p stripe marks)) → Quiet (walk ns (fresh p stripe marks))
    → walk ms (fresh p stripe marks) ≡ walk ns (fresh p stripe marks)

-- and that is where mending in one call ends
pub record EndsThere (p : ℕ) (stripe marks : List ℕ) : Type 0 where
  pub standing : Standing
  pub ends : mended p stripe marks ≡ end standing
  pub quiet : Quiet standing.bench
  pub same : (ms : List Move) → Quiet (walk ms (fresh p stripe marks)) → walk ms (fresh p stripe marks) ≡ standing.bench

abbrev pub MendingEndsThere : Type 0
MendingEndsThere = (p : ℕ) (stripe marks : List ℕ) → Premise p stripe marks → EndsThere p stripe marks

-- after as many rounds as the plan has levels no step changes anything
abbrev pub RoundsSuffice : Type 0
RoundsSuffice = (p : ℕ) (stripe marks : List ℕ) → Premise p stripe marks
    → Quiet (walk (rounds (plan_of p) (length (plan_of p).levels)) (fresh p stripe marks))

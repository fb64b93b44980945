-- The words in which the demands are put.
use Rattle.std.specs.Prelude.{ℕ, zero, suc, ◌+◌, ◌*◌, ◌≤◌, ◌≡◌, true, false, List, [], ◌∷◌, ◌++◌, map, T, leb, length, take, get_or}
use Rattle.std.specs.Int.Count.{ones}
use Rattle.field.specs.Lists.{up_from}
use Rattle.field.specs.Field.{size}
use Rattle.fills.specs.Lists.{only}
use Rattle.plans.specs.Plan.{Plan, plan_of, marks_of}
use Rattle.plans.specs.Refusal.{all_below, lent_refusal}
use Rattle.steps.specs.Steps.{Stepped, row_step, level_step}
use Rattle.codewords.specs.Codeword.{is_codeword}
use Rattle.plans.specs.declared.Bench.{Bench}
use Rattle.demands.specs.Published.{counts}

-- X is a codeword of plan p
pub record Codeword (p : ℕ) (X : List ℕ) : Type 0 where
  pub long : length X ≡ (plan_of p).rows * (plan_of p).columns
  pub symbols : T (all_below (size (plan_of p).field) X)
  pub holds : T (is_codeword (plan_of p) X)

-- the two stripes agree at every unmarked place
abbrev pub Agree : ℕ → (marks : List ℕ) → List ℕ → List ℕ → Type 0
Agree p marks X Y = (i : ℕ) → get_or (marks_of (plan_of p) marks) i true ≡ false → get_or X i 0 ≡ get_or Y i 0

-- the stripe and its marks can be lent: nothing of them is refused
abbrev pub Fit : ℕ → List ℕ → List ℕ → Type 0
Fit p stripe marks = lent_refusal p stripe marks ≡ 0

-- ---- steps in any order

pub data Move : Type 0 where
  on_row : ℕ → Move
  on_level : Move

abbrev pub after : Bench → Move → Bench
after b (on_row r) = (row_step b r).bench
after b on_level = (level_step b).bench

-- the steps of the list, one after the other
abbrev pub walk : List Move → Bench → Bench
walk [] b = b
walk (m ∷ ms) b = walk ms (after b m)

-- no step would change anything
abbrev pub Quiet : Bench → Type 0
Quiet b = (m : Move) → after b m ≡ b

-- two steps, or two starts, answer the same, and the benches that they leave are related by R
pub record SameStep {A : Type 0} (R : Bench → Bench → Type 0) (x y : Stepped A) : Type 0 where
  pub answer : x.answer ≡ y.answer
  pub bench : R x.bench y.bench

-- n rounds
unfoldable pub rounds : Plan → ℕ → List Move
rounds P zero = []
rounds P (suc n) = map on_row (up_from 0 P.rows) ++ (on_level ∷ rounds P n)

-- ---- published counts

-- how many rows have at least n marks
unfoldable pub rows_with : Plan → (marks : List ℕ) → (n : ℕ) → ℕ
rows_with P marks n = length (only (λ w. leb n (ones w)) (take P.rows marks))

abbrev pub Within : Plan → (marks : List ℕ) → List (ℕ × ℕ) → Type 0
Within P marks [] = Unit {0}
Within P marks (c ∷ cs) = (rows_with P marks c.0 ≤ c.1) × Within P marks cs

-- the marks meet the published row counts
abbrev pub MeetsCounts : ℕ → (marks : List ℕ) → Type 0
MeetsCounts p marks = Within (plan_of p) marks (counts p)

-- all marks of a stripe
unfoldable pub total : List ℕ → ℕ
total [] = 0
total (w ∷ ws) = ones w + total ws

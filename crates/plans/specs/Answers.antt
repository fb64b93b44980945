-- The number of each answer, and the values beside it. 0, 1, 2 and the refusals from 10 on are the customer's table; the steps' numbers
-- from 3 on, and those of yes and no, are ours.
use Rattle.std.specs.Prelude.{ℕ, Bool, true, false, List, [], ◌∷◌, length, take, Result, Ok, Err}
use Rattle.plans.specs.Plan.{Plan}
use Rattle.plans.specs.declared.Refusal.{Refusal}
use Rattle.plans.specs.declared.Refusal.TheVariants.{UnknownPlan, WrongLength, MarkBeyondColumns, NoSymbol, NoSuchRow, NoSuchLevel, NoCodeword, WrongFileLength, WrongHeader, SymbolUnderMark}
use Rattle.plans.specs.declared.Step.{Step}
use Rattle.plans.specs.declared.Step.TheVariants.{Whole, Filled, Tied, Raised, Blocked, Top, Clash}
use Rattle.plans.specs.declared.Answer.{Answer}
use Rattle.plans.specs.declared.Answer.TheVariants.{Restored, Stuck, Clash as Clashing}
use Rattle.plans.specs.declared.Place.{Place}
use Rattle.plans.specs.declared.Place.TheVariants.{Row, Across}
use Rattle.plans.specs.declared.Report.{Report}

unfoldable pub refusal_number : Refusal → ℕ
refusal_number UnknownPlan = 10
refusal_number WrongLength = 11
refusal_number MarkBeyondColumns = 12
refusal_number NoSymbol = 13
refusal_number NoSuchRow = 14
refusal_number NoSuchLevel = 15
refusal_number NoCodeword = 16
refusal_number WrongFileLength = 20
refusal_number WrongHeader = 21
refusal_number SymbolUnderMark = 22

-- what a call answers, its refusal by the number
unfoldable pub numbered : {A : Type 0} → Result A Refusal → Result A ℕ
numbered (Ok a) = Ok a
numbered (Err r) = Err (refusal_number r)

-- the number that a test refuses by; 0 where it does not
unfoldable pub refused_by : Result Unit Refusal → ℕ
refused_by (Ok done) = 0
refused_by (Err r) = refusal_number r

-- the number of what a call answers
unfoldable pub as_number : {A : Type 0} → (A → ℕ) → Result A ℕ → ℕ
as_number number (Ok a) = number a
as_number number (Err n) = n

unfoldable pub answer_number : Answer → ℕ
answer_number Restored = 0
answer_number Stuck = 1
answer_number (Clashing place) = 2

-- mending's answer
unfoldable pub answered : Result Report ℕ → Result Answer ℕ
answered (Ok r) = Ok r.answer
answered (Err n) = Err n

-- a Clash's place: its level, and in a row the row
unfoldable pub place_values : Place → List ℕ
place_values (Row row level) = level ∷ row ∷ []
place_values (Across level) = level ∷ []

-- level, rows left, and rows restored at each level of the plan
unfoldable pub end_values : Plan → Report → List ℕ
end_values P r = r.level ∷ r.left ∷ take (length P.levels) r.rows

-- Restored and Stuck have these values, a Clash has its place
unfoldable pub answer_values : Answer → (end : List ℕ) → List ℕ
answer_values Restored end = end
answer_values Stuck end = end
answer_values (Clashing place) end = place_values place

unfoldable pub report_values : Plan → Report → List ℕ
report_values P r = answer_values r.answer (end_values P r)

unfoldable pub step_number : Step → ℕ
step_number Whole = 3
step_number Filled = 4
step_number Tied = 5
step_number Raised = 6
step_number Blocked = 7
step_number Top = 8
step_number Clash = 2

unfoldable pub verdict_number : Bool → ℕ
verdict_number true = 0
verdict_number false = 1

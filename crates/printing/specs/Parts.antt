-- What the functions that print a text ask of their callers.
use Rattle.std.specs.Prelude.{ℕ, ◌+◌, ◌≤◌, ◌<◌, ◌≡◌, List, T, length, Result, Ok, Err}
use Rattle.plans.specs.Plan.{plan_of}
use Rattle.plans.specs.Answers.{answer_number, report_values}
use Rattle.plans.specs.Refusal.{unasked, all_below}
use Rattle.plans.specs.declared.Report.{Report}
use Rattle.files.specs.File.{plan_in, file_refusal}
use Rattle.files.specs.Parts.{Symbols, Loading}
use Rattle.texts.specs.Text.{text_room}
use Rattle.texts.specs.Parts.{numbers, number_room, summary_room, grid_room}

-- a report, a stripe and marks that can be printed
pub record Printable (p : ℕ) (report : Report) (stripe marks : List ℕ) : Type 0 where
  pub sized : Symbols p stripe marks
  pub answer : answer_number report.answer < numbers
  pub values : T (all_below numbers (report_values (plan_of p) report))

-- and room for them
pub record Reported (p : ℕ) (report : Report) (stripe marks out : List ℕ) (at : ℕ) : Type 0 where
  pub printable : Printable p report stripe marks
  pub room : at + (summary_room + grid_room) ≤ length out

-- what mending answers, a report or a refusal's number, and what it leaves
unfoldable pub PrintableAnswer : ℕ → Result Report ℕ → (stripe marks : List ℕ) → Type 0
PrintableAnswer p (Ok report) stripe marks = Printable p report stripe marks
PrintableAnswer p (Err n) stripe marks = n < numbers

-- and room for that, and for " answer " and the number before it
pub record Told (p : ℕ) (told : Result Report ℕ) (stripe marks out : List ℕ) (at : ℕ) : Type 0 where
  pub printable : PrintableAnswer p told stripe marks
  pub room : at + (8 + number_room + summary_room + grid_room) ≤ length out

-- a file that is not refused, and room for any text
pub record Loaded (file out : List ℕ) (at : ℕ) : Type 0 where
  pub fit : file_refusal file unasked ≡ 0
  pub room : at + text_room ≤ length out

-- its plan, and buffers for its stripe and marks
pub record Mended (p : ℕ) (file stripe marks out : List ℕ) (at : ℕ) : Type 0 where
  pub plan : p ≡ plan_in file
  pub loading : Loading file stripe marks
  pub room : at + text_room ≤ length out

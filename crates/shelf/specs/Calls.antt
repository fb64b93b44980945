-- What each call answers and what it leaves in the lent buffers. A report, a bench or a text buffer of another size is refused by 11.
use Rattle.std.specs.Prelude.{ℕ, List, eqb, length, Result, Ok, Err}
use Rattle.field.specs.Lists.{when◌then◌else◌}
use Rattle.plans.specs.Plan.{Plan, plan_of}
use Rattle.plans.specs.Answers.{answer_number, step_number, answered, as_number}
use Rattle.steps.specs.Steps.{Stepped, started}
use Rattle.words.specs.Words.{bytes_of}
use Rattle.plans.specs.Tables.{padded}
use Rattle.texts.specs.Text.{text_room, printed}
use Rattle.repair.specs.Mending.{mend_report, mend_stripe, mend_marks}
use Rattle.plans.specs.declared.Bench.{Bench}
use Rattle.plans.specs.declared.Step.{Step}
use Rattle.plans.specs.declared.Report.{Report}
use Rattle.layout.specs.Layout.{report_size, report_bytes, bench_size, bench_bytes, bench_in}
use Rattle.numbers.specs.Numbers.{unfit}

-- x where the buffer has the size, else y
unfoldable pub sized : {A : Type 0} → ℕ → List ℕ → A → A → A
sized n buffer x y = when eqb (length buffer) n then x else y

-- ---- mending in one call

unfoldable pub mend_number : ℕ → (stripe marks report : List ℕ) → ℕ
mend_number p stripe marks report = sized report_size report (as_number answer_number (answered (mend_report p stripe marks))) (unfit p)

unfoldable pub mend_stripe_buffer : ℕ → (stripe marks report : List ℕ) → List ℕ
mend_stripe_buffer p stripe marks report = sized report_size report (mend_stripe p stripe marks) stripe

unfoldable pub mend_marks_buffer : ℕ → (stripe marks report : List ℕ) → List ℕ
mend_marks_buffer p stripe marks report = sized report_size report (mend_marks p stripe marks) marks

-- a refusal leaves the report as it was
unfoldable pub report_after : Plan → Result Report ℕ → List ℕ → List ℕ
report_after P (Ok r) report = report_bytes P r
report_after P (Err n) report = report

unfoldable pub mend_report_buffer : ℕ → (stripe marks report : List ℕ) → List ℕ
mend_report_buffer p stripe marks report = sized report_size report (report_after (plan_of p) (mend_report p stripe marks) report) report

-- ---- start and the steps

unfoldable pub start_number : ℕ → (stripe marks bench : List ℕ) → ℕ
start_number p stripe marks bench = sized bench_size bench (as_number (λ _. 0) (started p stripe marks).answer) (unfit p)

unfoldable pub start_buffer : ℕ → (stripe marks bench : List ℕ) → List ℕ
start_buffer p stripe marks bench = sized bench_size bench (bench_bytes (started p stripe marks).bench) bench

-- a step on the bench in a buffer; nothing of a buffer of a wrong size is read
unfoldable pub step_answer : (Bench → Stepped Step) → List ℕ → ℕ
step_answer step bench = sized bench_size bench (as_number step_number (step (bench_in bench)).answer) 11

unfoldable pub step_buffer : (Bench → Stepped Step) → List ℕ → List ℕ
step_buffer step bench = sized bench_size bench (bench_bytes (step (bench_in bench)).bench) bench

-- ---- the text that is printed for a file

-- how many bytes tell its length
abbrev pub size_room : ℕ
size_room = 2

-- x where both buffers have their size, else y
unfoldable pub roomy : {A : Type 0} → (text size : List ℕ) → A → A → A
roomy text size x y = sized text_room text (sized size_room size x y) y

unfoldable pub text_number : (text size : List ℕ) → ℕ
text_number text size = roomy text size 0 11

-- zeros stand behind the text
unfoldable pub text_buffer : (file text size : List ℕ) → List ℕ
text_buffer file text size = roomy text size (padded text_room (printed file)) text

-- how many bytes the text has, low byte first
unfoldable pub text_size_buffer : (file text size : List ℕ) → List ℕ
text_size_buffer file text size = roomy text size (bytes_of size_room (length (printed file))) size

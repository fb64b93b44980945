-- Silence: no answer and no other byte depends on the byte under a mark, but for refusal 22 of a file.
use Rattle.std.specs.Prelude.{ℕ, ◌*◌, ◌≤◌, ◌≡◌, true, List, length, take, get_or}
use Rattle.plans.specs.Plan.{plan_of, marks_of, symbols_offset}
use Rattle.steps.specs.Steps.{started, row_step, level_step}
use Rattle.repair.specs.Mending.{mend_report, mend_stripe, mend_marks}
use Rattle.files.specs.File.{write_refusal, write_file, plan_in, marks_in, symbols_in, read_refusal, read_stripe, read_marks}
use Rattle.plans.specs.declared.Bench.{Bench}
use Rattle.demands.specs.Words.{Agree, Move, walk, SameStep}

-- ---- what differs only under marks

-- stripes of one length that differ only under marks
pub record SameUnmarked (p : ℕ) (marks s t : List ℕ) : Type 0 where
  pub long : length s ≡ length t
  pub agree : Agree p marks s t

-- benches that differ only in symbols under marks; the room beyond the stripe is the same
pub record SameButMarks (b c : Bench) : Type 0 where
  pub plan : b.plan ≡ c.plan
  pub level : b.level ≡ c.level
  pub marks : b.marks ≡ c.marks
  pub sums : b.sums ≡ c.sums
  pub stripe : SameUnmarked b.plan b.marks b.symbols c.symbols
  pub beyond : (i : ℕ) → (plan_of b.plan).rows * (plan_of b.plan).columns ≤ i → get_or b.symbols i 0 ≡ get_or c.symbols i 0

-- ---- start and the steps: the same answer, and benches that again differ only under marks

abbrev pub SilentStart : Type 0
SilentStart = (p : ℕ) (marks s t : List ℕ) → SameUnmarked p marks s t → SameStep SameButMarks (started p s marks) (started p t marks)

abbrev pub SilentRowStep : Type 0
SilentRowStep = (b c : Bench) (r : ℕ) → SameButMarks b c → SameStep SameButMarks (row_step b r) (row_step c r)

abbrev pub SilentLevelStep : Type 0
SilentLevelStep = (b c : Bench) → SameButMarks b c → SameStep SameButMarks (level_step b) (level_step c)

-- and so for any sequence of steps
abbrev pub SilentWalk : Type 0
SilentWalk = (ms : List Move) (b c : Bench) → SameButMarks b c → SameButMarks (walk ms b) (walk ms c)

-- a place that is still marked keeps its own byte; and so does all room beyond the stripe, which counts as marked here
abbrev pub StepsKeep : Type 0
StepsKeep = (ms : List Move) (b : Bench) (i : ℕ) → get_or (marks_of (plan_of b.plan) (walk ms b).marks) i true ≡ true
    → get_or (walk ms b).symbols i 0 ≡ get_or b.symbols i 0

-- ---- mending in one call

-- the same report, the same marks, and stripes that are equal wherever no mark is left
pub record SameMending (p : ℕ) (marks s t : List ℕ) : Type 0 where
  pub report : mend_report p s marks ≡ mend_report p t marks
  pub marks-left : mend_marks p s marks ≡ mend_marks p t marks
  pub stripes : SameUnmarked p (mend_marks p s marks) (mend_stripe p s marks) (mend_stripe p t marks)

abbrev pub SilentMending : Type 0
SilentMending = (p : ℕ) (marks s t : List ℕ) → SameUnmarked p marks s t → SameMending p marks s t

-- a place that is still marked keeps its own byte
abbrev pub MarkedKeep : Type 0
MarkedKeep = (p : ℕ) (stripe marks : List ℕ) (i : ℕ) → get_or (marks_of (plan_of p) (mend_marks p stripe marks)) i true ≡ true
    → get_or (mend_stripe p stripe marks) i 0 ≡ get_or stripe i 0

-- ---- writing a file: the same refusal, and the same bytes

abbrev pub SilentWriting : Type 0
SilentWriting = (p : ℕ) (marks s t file : List ℕ) → SameUnmarked p marks s t
    → (write_refusal p s marks file ≡ write_refusal p t marks file) × (write_file p s marks file ≡ write_file p t marks file)

-- ---- reading a file

-- files of one length that differ only under marks: the same bytes up to the symbols, and symbols that agree at every unmarked place
pub record SameFile (f g : List ℕ) : Type 0 where
  pub long : length f ≡ length g
  pub before : let n = symbols_offset (plan_of (plan_in f)) in take n f ≡ take n g
  pub agree : Agree (plan_in f) (marks_in f) (symbols_in f) (symbols_in g)

-- the same refusal, and the same left in the buffers; or one file is refused with 22 and the other is not refused
pub data SameReading (f g stripe marks : List ℕ) : Type 0 where
  same-reading : read_refusal f stripe marks ≡ read_refusal g stripe marks → read_stripe f stripe marks ≡ read_stripe g stripe marks
      → read_marks f stripe marks ≡ read_marks g stripe marks → SameReading f g stripe marks
  second-22 : read_refusal f stripe marks ≡ 0 → read_refusal g stripe marks ≡ 22 → SameReading f g stripe marks
  first-22 : read_refusal f stripe marks ≡ 22 → read_refusal g stripe marks ≡ 0 → SameReading f g stripe marks

abbrev pub SilentReading : Type 0
SilentReading = (f g stripe marks : List ℕ) → SameFile f g → SameReading f g stripe marks

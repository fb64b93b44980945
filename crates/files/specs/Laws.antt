-- Writing a stripe file and reading it undo each other.
use Rattle.std.specs.Prelude.{ℕ, ◌*◌, ◌≡◌, List, T, length}
use Rattle.plans.specs.Plan.{plan_of, marks_of}
use Rattle.plans.specs.Refusal.{all_below}
use Rattle.words.specs.Words.{byte_range}
use Rattle.files.specs.File.{blanked, write_refusal, write_file, plan_in, read_refusal, read_stripe, read_marks}

-- what was written is read, into buffers that fit: the stripe with 0 under marks, and the marks
abbrev pub ReadsWhatWasWritten : Type 0
ReadsWhatWasWritten =
    (p : ℕ) (stripe marks old s m : List ℕ) → write_refusal p stripe marks old ≡ 0 → length s ≡ (plan_of p).rows * (plan_of p).columns
    → length m ≡ (plan_of p).rows → let file = write_file p stripe marks old in
    (read_refusal file s m ≡ 0) × (read_stripe file s m ≡ blanked (marks_of (plan_of p) marks) stripe) × (read_marks file s m ≡ marks)

-- bytes that were read are written, into a buffer as long, as they were
abbrev pub WritesWhatWasRead : Type 0
WritesWhatWasRead =
    (file s m old : List ℕ) → T (all_below byte_range file) → read_refusal file s m ≡ 0 → length old ≡ length file
    → let stripe = read_stripe file s m in let marks = read_marks file s m in
    (write_refusal (plan_in file) stripe marks old ≡ 0) × (write_file (plan_in file) stripe marks old ≡ file)

-- Writing a stripe file and reading it undo each other. Assumes nothing.
use Prim.Native.Nat.{ℕ, ◌*◌, ◌<◌}
use mathlib.Core.Path.{◌≡◌, ◌∙◌}
use mathlib.Core.List.{List}
use lib.Dec.{T, ltb, ltb→lt}
use lib.ListN.{length, get_or}
use Rattle.field.specs.Lists.{when◌then◌else◌}
use Rattle.field.proofs.Test.{both}
use Rattle.field.proofs.Words.{EachBelow, at_each}
use Rattle.plans.specs.Plan.{plan_of}
use Rattle.plans.specs.Refusal.{all_below, stripe_fits, words_fit}
use Rattle.plans.proofs.Flat.{all-at}
use Rattle.steps.proofs.Fit.{eq→eqb}
use Rattle.words.specs.Words.{byte_range}
use Rattle.files.specs.File.{file_of, plan_in, marks_in, symbols_in, read_refusal, read_stripe, read_marks}
use Rattle.files.specs.Laws.{ReadsWhatWasWritten, WritesWhatWasRead}
use Rattle.files.proofs.Files.{fit-file, plan-written, symbols-written, marks-written, written-fit, read_fits, read-fit, file-of-read, write-fit, fit-write, written}

pub bytes_fit : (l : List ℕ) → T (all_below byte_range l) → EachBelow byte_range l
unfolding all_below
bytes_fit l t = at_each (λ x. x < byte_range) l (λ i h. ltb→lt (get_or l i 0) byte_range (all-at (λ x. ltb x byte_range) 0 l t i h))

pub reads-what-was-written : ReadsWhatWasWritten
unfolding when◌then◌else◌ stripe_fits words_fit read_refusal read_stripe read_marks
reads-what-was-written p stripe marks old s m e long words =
    let P = plan_of p in
    let f = (write-fit p stripe marks old e).0 in
    let new = written p stripe marks old e in
    let lent = both (stripe_fits P s) (words_fit P m) (eq→eqb (length s) (P.rows * P.columns) long) (eq→eqb (length m) P.rows words) in
    let r : read_refusal (file_of p stripe marks) s m ≡ 0 = fit-file (file_of p stripe marks) _ (written-fit p stripe marks f) (rw (plan-written p stripe marks f) lent) in
    rw new (r, rw r (symbols-written p stripe marks f), rw r (marks-written p stripe marks f))

pub writes-what-was-read : WritesWhatWasRead
unfolding when◌then◌else◌ read_stripe read_marks
writes-what-was-read file s m old bytes e long =
    let fit = (read_fits file s m e).0 in
    let w = fit-write (plan_in file) (symbols_in file) (marks_in file) old (read-fit fit) (long ∙ fit.whole) in
    rw e (w, written (plan_in file) (symbols_in file) (marks_in file) old w ∙ file-of-read file (bytes_fit file bytes) fit)

-- A refusal changes nothing: by the definitions. Assumes nothing.
use mathlib.Core.Path.{◌≡◌, refl}
use mathlib.Core.Logic.{◌≢◌}
use Prim.Native.Nat.{ℕ, zero, suc}
use lib.Dec.{not_T, eqb, eqb→eq}
use Rattle.std.specs.Prelude.{Err}
use Rattle.field.specs.Lists.{when◌then◌else◌}
use Rattle.plans.specs.Plan.{no_plan, plan_of, known}
use Rattle.plans.specs.Refusal.{first_failed, bench_refusal, lent_refusal, bench_tests}
use Rattle.steps.specs.Steps.{Stepped, empty, started_by, started, stepped, unless_refused, row_step, level_step}
use Rattle.repair.specs.Mending.{mend_report, mend_stripe, mend_marks}
use Rattle.encoding.specs.Data.{encode_refusal, extract_refusal, extract_data}
use Rattle.repair.specs.Encoding.{encode_stripe}
use Rattle.files.specs.File.{write_refusal, write_file, read_refusal, read_stripe, read_marks}
use Rattle.plans.specs.declared.Bench.{Bench}
use Rattle.plans.specs.declared.Step.{Step}
use Rattle.steps.proofs.Fit.{if-false}
use Rattle.demands.specs.Refused.{MendRefused, EncodeRefused, ExtractRefused, ReadRefused, WriteRefused, RowRefused, LevelRefused, StartRefused, EmptyRefused}

-- where the number is not 0 the second of two choices stands
stays : {A : Type 0} (n : ℕ) (x y : A) → n ≢ 0 → (when eqb n 0 then x else y) ≡ y
stays n x y h = if-false (eqb n 0) x y (not_T (eqb n 0) (λ t. h (eqb→eq n 0 t)))

pub mend-refused : MendRefused
unfolding mend_report mend_stripe mend_marks
mend-refused p stripe marks h =
    let n = lent_refusal p stripe marks in record { report = stays n _ _ h; stripe-stays = stays n _ _ h; marks_stay = stays n _ _ h }

pub encode-refused : EncodeRefused
unfolding encode_stripe
encode-refused p ds stripe h = stays (encode_refusal p ds stripe) _ _ h

pub extract-refused : ExtractRefused
unfolding extract_data
extract-refused p stripe ds h = stays (extract_refusal p stripe ds) _ _ h

pub read-refused : ReadRefused
unfolding read_stripe read_marks
read-refused file stripe marks h = let n = read_refusal file stripe marks in (stays n _ _ h, stays n _ _ h)

pub write-refused : WriteRefused
unfolding write_file
write-refused p stripe marks file h = stays (write_refusal p stripe marks file) _ _ h

-- a refused step
bench-stays : (n : ℕ) (b : Bench) (s : Stepped Step) → n ≢ 0 → unless_refused n b s ≡ stepped b (Err n)
unfolding unless_refused
bench-stays zero b s h = absurd (h refl)
bench-stays (suc n) b s h = refl

pub row-refused : RowRefused
unfolding row_step
row-refused b r h = bench-stays _ b _ h

pub level-refused : LevelRefused
unfolding level_step
level-refused b h = bench-stays _ b _ h

pub start-refused : StartRefused
unfolding started started_by
start-refused p stripe marks h = go (lent_refusal p stripe marks) h
  where
    go : (n : ℕ) → n ≢ 0 → started_by n p stripe marks ≡ stepped empty (Err n)
    go zero h = absurd (h refl)
    go (suc n) h = refl

pub empty-refused : EmptyRefused
unfolding when◌then◌else◌ no_plan plan_of known first_failed bench_tests bench_refusal empty unless_refused row_step level_step
empty-refused = record { rows = λ r. refl; levels = refl }

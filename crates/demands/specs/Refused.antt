-- A refusal changes nothing: each lent buffer, and the bench, is as it was.
use Rattle.std.specs.Prelude.{ℕ, ◌≡◌, ◌≢◌, List, ltb, Err}
use Rattle.plans.specs.Plan.{plan_of}
use Rattle.plans.specs.Refusal.{unasked, lent_refusal, bench_refusal}
use Rattle.steps.specs.Steps.{empty, started, stepped, row_step, level_step}
use Rattle.repair.specs.Mending.{mend_report, mend_stripe, mend_marks}
use Rattle.encoding.specs.Data.{encode_refusal, extract_refusal, extract_data}
use Rattle.repair.specs.Encoding.{encode_stripe}
use Rattle.files.specs.File.{write_refusal, write_file, read_refusal, read_stripe, read_marks}
use Rattle.plans.specs.declared.Bench.{Bench}

-- mending: the refusal alone is reported, and stripe and marks stay
pub record MendingStays (p : ℕ) (stripe marks : List ℕ) : Type 0 where
  pub report : mend_report p stripe marks ≡ Err (lent_refusal p stripe marks)
  pub stripe-stays : mend_stripe p stripe marks ≡ stripe
  pub marks_stay : mend_marks p stripe marks ≡ marks

abbrev pub MendRefused : Type 0
MendRefused = (p : ℕ) (stripe marks : List ℕ) → lent_refusal p stripe marks ≢ 0 → MendingStays p stripe marks

abbrev pub EncodeRefused : Type 0
EncodeRefused = (p : ℕ) (ds stripe : List ℕ) → encode_refusal p ds stripe ≢ 0 → encode_stripe p ds stripe ≡ stripe

abbrev pub ExtractRefused : Type 0
ExtractRefused = (p : ℕ) (stripe ds : List ℕ) → extract_refusal p stripe ds ≢ 0 → extract_data p stripe ds ≡ ds

abbrev pub ReadRefused : Type 0
ReadRefused = (file stripe marks : List ℕ) → read_refusal file stripe marks ≢ 0
    → (read_stripe file stripe marks ≡ stripe) × (read_marks file stripe marks ≡ marks)

abbrev pub WriteRefused : Type 0
WriteRefused = (p : ℕ) (stripe marks file : List ℕ) → write_refusal p stripe marks file ≢ 0 → write_file p stripe marks file ≡ file

-- the steps: the refusal is the answer, and the bench stays
abbrev pub RowRefused : Type 0
RowRefused = (b : Bench) (r : ℕ) → let n = bench_refusal b (ltb r (plan_of b.plan).rows) in n ≢ 0 → row_step b r ≡ stepped b (Err n)

abbrev pub LevelRefused : Type 0
LevelRefused = (b : Bench) → let n = bench_refusal b unasked in n ≢ 0 → level_step b ≡ stepped b (Err n)

-- a refused start gives the bench of zeros
abbrev pub StartRefused : Type 0
StartRefused = (p : ℕ) (stripe marks : List ℕ) → let n = lent_refusal p stripe marks in
    n ≢ 0 → started p stripe marks ≡ stepped empty (Err n)

-- which every step refuses with 10
pub record EmptyRefused : Type 0 where
  pub rows : (r : ℕ) → row_step empty r ≡ stepped empty (Err 10)
  pub levels : level_step empty ≡ stepped empty (Err 10)

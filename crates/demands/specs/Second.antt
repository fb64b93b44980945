-- The second demand: what Restored, Clash and Stuck mean; which marks are always restored; encoding and extraction.
use Rattle.std.specs.Prelude.{ℕ, ◌*◌, ◌<◌, ◌≡◌, List, T, length, replicate, Ok}
use Rattle.plans.specs.Answers.{answered}
use Rattle.plans.specs.Plan.{known, plan_of, carried}
use Rattle.repair.specs.Mending.{mend_report, mend_stripe, mend_marks}
use Rattle.encoding.specs.Data.{encode_refusal, extract_refusal, extract_data, extracted}
use Rattle.repair.specs.Encoding.{encode_stripe}
use Rattle.plans.specs.declared.Place.{Place}
use Rattle.plans.specs.declared.Answer.TheVariants.{Restored, Stuck, Clash}
use Rattle.demands.specs.Published.{distance}
use Rattle.demands.specs.Words.{Codeword, Agree, Fit, MeetsCounts, total}

-- Restored: a codeword is left behind, it agrees with every unmarked symbol, no other does, and no mark is left
pub record IsRestored (p : ℕ) (stripe marks : List ℕ) : Type 0 where
  pub codeword : Codeword p (mend_stripe p stripe marks)
  pub agrees : Agree p marks (mend_stripe p stripe marks) stripe
  pub only : (X : List ℕ) → Codeword p X → Agree p marks X stripe → X ≡ mend_stripe p stripe marks
  pub clear : mend_marks p stripe marks ≡ replicate (plan_of p).rows 0

abbrev pub RestoredMeans : Type 0
RestoredMeans = (p : ℕ) (stripe marks : List ℕ) → answered (mend_report p stripe marks) ≡ Ok Restored → IsRestored p stripe marks

-- Clash: no codeword agrees with every unmarked symbol
abbrev pub ClashMeans : Type 0
ClashMeans = (p : ℕ) (stripe marks : List ℕ) (place : Place) → answered (mend_report p stripe marks) ≡ Ok (Clash place)
    → (X : List ℕ) → Codeword p X → Agree p marks X stripe → ⊥

-- Stuck: every codeword that agrees has each symbol that is now unmarked
abbrev pub StuckMeans : Type 0
StuckMeans = (p : ℕ) (stripe marks : List ℕ) → answered (mend_report p stripe marks) ≡ Ok Stuck
    → (X : List ℕ) → Codeword p X → Agree p marks X stripe → Agree p (mend_marks p stripe marks) X (mend_stripe p stripe marks)

-- a codeword whose marks meet the published row counts is restored, to itself, whatever stands under the marks
abbrev pub CountsSuffice : Type 0
CountsSuffice = (p : ℕ) (X stripe marks : List ℕ) → Codeword p X → Fit p stripe marks → Agree p marks X stripe → MeetsCounts p marks
    → (answered (mend_report p stripe marks) ≡ Ok Restored) × (mend_stripe p stripe marks ≡ X)

-- and so is one with any d - 1 marks
abbrev pub DistanceSuffices : Type 0
DistanceSuffices = (p : ℕ) (X stripe marks : List ℕ) → Codeword p X → Fit p stripe marks → Agree p marks X stripe → total marks < distance p
    → (answered (mend_report p stripe marks) ≡ Ok Restored) × (mend_stripe p stripe marks ≡ X)

-- encoding writes a codeword that holds the data, the only one
pub record IsEncoded (p : ℕ) (ds Y : List ℕ) : Type 0 where
  pub codeword : Codeword p Y
  pub holds : extracted (plan_of p) Y ≡ ds
  pub only : (X : List ℕ) → Codeword p X → extracted (plan_of p) X ≡ ds → X ≡ Y

abbrev pub EncodingMeans : Type 0
EncodingMeans = (p : ℕ) (ds stripe : List ℕ) → encode_refusal p ds stripe ≡ 0 → IsEncoded p ds (encode_stripe p ds stripe)

-- extraction accepts what encoding wrote, and gives the data back
abbrev pub ExtractionMeans : Type 0
ExtractionMeans = (p : ℕ) (ds stripe buffer : List ℕ) → encode_refusal p ds stripe ≡ 0 → length buffer ≡ carried (plan_of p)
    → let X = encode_stripe p ds stripe in (extract_refusal p X buffer ≡ 0) × (extract_data p X buffer ≡ ds)

-- every codeword is the encoding of what extraction gives; neither is refused
pub record IsEncoding (p : ℕ) (X buffer stripe : List ℕ) : Type 0 where
  pub extracts : extract_refusal p X buffer ≡ 0
  pub encodes : encode_refusal p (extract_data p X buffer) stripe ≡ 0
  pub same : encode_stripe p (extract_data p X buffer) stripe ≡ X

abbrev pub CodewordsAreEncodings : Type 0
CodewordsAreEncodings = (p : ℕ) (X buffer stripe : List ℕ) → T (known p) → Codeword p X → length buffer ≡ carried (plan_of p)
    → length stripe ≡ (plan_of p).rows * (plan_of p).columns → IsEncoding p X buffer stripe

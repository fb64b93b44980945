-- In plan 4 every byte is a symbol: 13 is never given, neither for a symbol nor for a sum.
use Rattle.std.specs.Prelude.{ℕ, ◌≡◌, ◌≢◌, Bool, List, T}
use Rattle.plans.specs.Refusal.{all_below, lent_refusal, bench_refusal}
use Rattle.plans.specs.declared.Bench.{Bench}
use Rattle.words.specs.Words.{byte_range}
use Rattle.codewords.specs.Codeword.{test_refusal}
use Rattle.encoding.specs.Data.{encode_refusal, extract_refusal}
use Rattle.files.specs.File.{plan_in, write_refusal, read_refusal}

abbrev pub Bytes : List ℕ → Type 0
Bytes l = T (all_below byte_range l)

-- whatever bytes are lent
pub record NeverThirteen : Type 0 where
  pub mending : (stripe marks : List ℕ) → Bytes stripe → lent_refusal 4 stripe marks ≢ 13
  pub steps : (b : Bench) (row : Bool) → b.plan ≡ 4 → Bytes b.symbols → Bytes b.sums → bench_refusal b row ≢ 13
  pub encoding : (ds stripe : List ℕ) → Bytes ds → encode_refusal 4 ds stripe ≢ 13
  pub extraction : (stripe ds : List ℕ) → Bytes stripe → extract_refusal 4 stripe ds ≢ 13
  pub testing : (stripe : List ℕ) → Bytes stripe → test_refusal 4 stripe ≢ 13
  pub writing : (stripe marks file : List ℕ) → Bytes stripe → write_refusal 4 stripe marks file ≢ 13
  pub reading : (file stripe marks : List ℕ) → plan_in file ≡ 4 → Bytes file → read_refusal file stripe marks ≢ 13

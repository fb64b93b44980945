-- The interleaved form and the plan's form are one code, as statements: each is a type, and the theorem of that type stands in proofs/.
use Rattle.std.specs.Prelude.{◌≡◌, ℕ, List}
use Rattle.plans.specs.Plan.{plan3}
use Rattle.codewords.specs.Codeword.{is_codeword, tested}
use Rattle.interleaved.specs.Interleaved.{is_interleaved, interleaved}

-- the partner's test accepts the stripes that ours accepts: every stripe of the plan's length, and any other numbers too
abbrev pub SameCode : Type 0
SameCode = (stripe : List ℕ) → is_interleaved stripe ≡ is_codeword plan3 stripe

-- so both calls give the same verdict on whatever is lent: yes, no, or the same refusal
abbrev pub SameVerdict : Type 0
SameVerdict = (stripe : List ℕ) → interleaved stripe ≡ tested 3 stripe

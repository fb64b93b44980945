-- Encoding: the check places are marked and mended.
use Rattle.std.specs.Prelude.{ℕ, List, eqb}
use Rattle.field.specs.Lists.{when◌then◌else◌}
use Rattle.plans.specs.Plan.{plan_of, check_places_of}
use Rattle.repair.specs.Mending.{mend_stripe}
use Rattle.encoding.specs.Data.{placed, encode_refusal}

unfoldable pub encoded : ℕ → List ℕ → List ℕ
encoded p ds = let P = plan_of p in mend_stripe p (placed (check_places_of P) ds) P.check_places

-- what the lent stripe holds afterwards
unfoldable pub encode_stripe : ℕ → List ℕ → List ℕ → List ℕ
encode_stripe p ds stripe = when eqb (encode_refusal p ds stripe) 0 then encoded p ds else stripe

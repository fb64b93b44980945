-- The rule of the code, and the codeword test.
use Rattle.std.specs.Prelude.{ℕ, Bool, ◌&&◌, List, [], ◌∷◌, eqb, drop, Result, Ok, Err}
use Rattle.field.specs.Lists.{when◌then◌else◌, up_from}
use Rattle.field.specs.Field.{size}
use Rattle.fills.specs.Lists.{all, vanish}
use Rattle.fills.specs.Fill.{sums_of}
use Rattle.plans.specs.Plan.{Plan, Level, plan_of, known, level_of, row_at, across}
use Rattle.plans.specs.Refusal.{stripe_fits, all_below, first_failed}

-- ---- the rule of the code

-- every row's level-1 sums are zero
unfoldable pub rows_hold : Plan → List ℕ → Bool
rows_hold P stripe = all (λ r. vanish (sums_of P.field (level_of P 1).checks (row_at P stripe r))) (up_from 0 P.rows)

-- each weighted total of the rows' sums at a level is zero, check by check
unfoldable pub totals_hold : Plan → List ℕ → Level → Bool
totals_hold P stripe L = all (λ c. vanish (sums_of P.field L.weights (across P stripe c))) L.checks

unfoldable pub is_codeword : Plan → List ℕ → Bool
is_codeword P stripe = rows_hold P stripe && all (totals_hold P stripe) (drop 1 P.levels)

unfoldable pub test_refusal : ℕ → List ℕ → ℕ
test_refusal p stripe =
    let P = plan_of p in
    first_failed ((10, known p) ∷ (11, stripe_fits P stripe) ∷ (13, all_below (size P.field) stripe) ∷ [])

unfoldable pub tested : ℕ → List ℕ → Result Bool ℕ
tested p stripe =
    let n = test_refusal p stripe in
    when eqb n 0 then Ok (is_codeword (plan_of p) stripe) else Err n

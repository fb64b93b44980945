-- What the inner functions of the test ask and make.
use Rattle.std.specs.Prelude.{ℕ, ◌*◌, ◌≡◌, List, map, length}
use Rattle.field.specs.Lists.{up_from}
use Rattle.field.specs.Field.{dot, gf16}
use Rattle.interleaved.specs.Interleaved.{rows, columns, row}

-- a check, a weight for each row, and the rows
pub record Weighted (check weights stripe : List ℕ) : Type 0 where
  pub wide : length check ≡ columns
  pub high : length weights ≡ rows
  pub long : length stripe ≡ rows * columns

-- the rows' sums under a check
unfoldable pub sums_under : (check stripe : List ℕ) → List ℕ
sums_under check stripe = map (λ r. dot gf16 check (row stripe r)) (up_from 0 rows)

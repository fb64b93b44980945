-- What the functions of the codeword test make.
use Rattle.std.specs.Prelude.{ℕ, ◌/◌, List, [], ◌∷◌, map, length, take, drop, replicate}
use Rattle.field.specs.Field.{Field, mul}
use Rattle.fills.specs.Lists.{plus}
use Rattle.fills.specs.Marks.{rows_of}

-- a flat list as rows of n numbers, as many as it has
unfoldable pub all_rows : ℕ → List ℕ → List (List ℕ)
all_rows n l = rows_of (length l / n) n l

-- ---- the rows' weighted total

-- rows of n symbols added to a total one after the other, each times its weight
unfoldable pub with_rows : Field → (weights : List ℕ) → (n : ℕ) → (symbols total : List ℕ) → List ℕ
with_rows F [] n symbols total = total
with_rows F (w ∷ ws) n symbols total = with_rows F ws n (drop n symbols) (plus total (map (mul F w) (take n symbols)))

-- the weighted total of the rows, as a row: its sums are the weighted totals of the rows' sums
unfoldable pub total_row : Field → (weights : List ℕ) → (n : ℕ) → (symbols : List ℕ) → List ℕ
total_row F weights n symbols = with_rows F weights n symbols (replicate n 0)

-- The code of plan 3 as generalized integrated interleaving (document 001, section V), written from the partner's description alone:
-- nothing here is read off the plan.
use Rattle.std.specs.Prelude.{ℕ, suc, ◌*◌, Bool, ◌&&◌, List, [], ◌∷◌, map, eqb, length, take, drop, Result, Ok, Err}
use Rattle.field.specs.Lists.{when◌then◌else◌, up_from}
use Rattle.field.specs.Field.{size, mul, gf16}
use Rattle.field.specs.Power.{power, power_sum}
use Rattle.fills.specs.Lists.{all, plus}
use Rattle.plans.specs.Refusal.{first_failed, all_below}

-- ---- the stripe: rows of symbols of GF(16), row after row

abbrev pub rows : ℕ
rows = 8

abbrev pub columns : ℕ
columns = 15

-- a ^ r, where a is 2
unfoldable pub a^ : ℕ → ℕ
a^ r = power gf16 2 r

-- row r of a stripe
unfoldable pub row : List ℕ → ℕ → List ℕ
row stripe r = take columns (drop (r * columns) stripe)

-- ---- the codes of words as long as a row: column c has location a ^ c

unfoldable pub locations : List ℕ
locations = map a^ (up_from 0 columns)

-- a word is in the code with power sums 0 to `last` where each of these is 0
unfoldable pub in_code : (last : ℕ) → List ℕ → Bool
in_code last word = all (λ p. eqb (power_sum gf16 locations word p) 0) (up_from 0 (suc last))

-- ---- sums of rows

-- the sum of words, symbol by symbol
unfoldable pub sum : List (List ℕ) → List ℕ
sum [] = []
sum (word ∷ words) = plus word (sum words)

-- the plain sum of all rows
unfoldable pub plain_sum : List ℕ → List ℕ
plain_sum stripe = sum (map (row stripe) (up_from 0 rows))

-- the sum of a ^ r times row r
unfoldable pub weighted_sum : List ℕ → List ℕ
weighted_sum stripe = sum (map (λ r. map (mul gf16 (a^ r)) (row stripe r)) (up_from 0 rows))

-- ---- the test

-- the rows are in the code with power sums 0, 1; their plain sum in that with 0 to 6; the sum of a ^ r times row r in that with 0 to 2
unfoldable pub is_interleaved : List ℕ → Bool
is_interleaved stripe = all (λ r. in_code 1 (row stripe r)) (up_from 0 rows) && (in_code 6 (plain_sum stripe) && in_code 2 (weighted_sum stripe))

-- no plan number is asked: 11, then 13
unfoldable pub interleaved_refusal : List ℕ → ℕ
interleaved_refusal stripe = first_failed ((11, eqb (length stripe) (rows * columns)) ∷ (13, all_below (size gf16) stripe) ∷ [])

unfoldable pub interleaved : List ℕ → Result Bool ℕ
interleaved stripe =
    let n = interleaved_refusal stripe in
    when eqb n 0 then Ok (is_interleaved stripe) else Err n

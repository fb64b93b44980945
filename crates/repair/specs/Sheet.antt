-- The bench sheet's cases marked (P): one table and one statement about the definitions. Its stripes are of plan 1.
use Rattle.std.specs.Prelude.{ℕ, ◌≡◌, List, [], ◌∷◌, ◌++◌, map, replicate, set, Result, Ok}
use Rattle.field.specs.Lists.{◌to◌}
use Rattle.field.specs.Field.{mul, gf16, gf32}
use Rattle.field.specs.Power.{power}
use Rattle.plans.specs.Plan.{word_of}
use Rattle.encoding.specs.Data.{encode_refusal}
use Rattle.repair.specs.Mending.{mend_report, mend_stripe, mend_marks}
use Rattle.repair.specs.Encoding.{encode_stripe}
use Rattle.plans.specs.declared.Place.{Place}
use Rattle.plans.specs.declared.Place.TheVariants.{Row, Across}
use Rattle.plans.specs.declared.Report.{Report}
use Rattle.plans.specs.declared.Answer.TheVariants.{Restored, Stuck, Clash}

-- a stripe and its marks as lent; the report; and the two as they are afterwards
pub record Case : Type 0 where
  pub stripe : List ℕ
  pub marks : List ℕ
  pub report : Result Report ℕ
  pub stripe_after : List ℕ
  pub marks_after : List ℕ

-- Restored at level 2, so many rows at level 1 and at level 2
unfoldable pub restored : (level1 level2 : ℕ) → Result Report ℕ
restored a b = Ok (record { answer = Restored; level = 2; rows = a ∷ b ∷ 0 ∷ []; left = 0 })

-- Stuck at a level, no row restored and so many left
unfoldable pub stuck : (level left : ℕ) → Result Report ℕ
stuck t n = Ok (record { answer = Stuck; level = t; rows = 0 ∷ 0 ∷ 0 ∷ []; left = n })

-- a Clash at a place
unfoldable pub clashed : Place → Result Report ℕ
clashed place = Ok (record { answer = Clash place; level = 0; rows = 0 ∷ 0 ∷ 0 ∷ []; left = 0 })

-- the zero stripe
unfoldable pub blank : List ℕ
blank = replicate 21 0

-- mending leaves the stripe and the marks as they were
unfoldable pub unchanged : List ℕ → List ℕ → Result Report ℕ → Case
unchanged stripe marks report = record { stripe = stripe; marks = marks; report = report; stripe_after = stripe; marks_after = marks }

-- a zero stripe is restored to itself
unfoldable pub blank_restored : List ℕ → Result Report ℕ → Case
blank_restored marks report = record { stripe = blank; marks = marks; report = report; stripe_after = blank; marks_after = 0 ∷ 0 ∷ 0 ∷ [] }

-- marks at these columns of row 1 alone
unfoldable pub row1 : List ℕ → List ℕ
row1 columns = 0 ∷ word_of columns ∷ 0 ∷ []

-- the example: rows 1?00000, ?0?0?10, 00?0000
unfoldable pub example_stripe : List ℕ
example_stripe = (1 ∷ replicate 6 0) ++ (0 ∷ 0 ∷ 0 ∷ 0 ∷ 0 ∷ 1 ∷ 0 ∷ []) ++ replicate 7 0

unfoldable pub example_marks : List ℕ
example_marks = 2 ∷ 21 ∷ 4 ∷ []

-- restored
unfoldable pub example_after : List ℕ
example_after = (1 ∷ 1 ∷ replicate 5 0) ++ (0 ∷ 0 ∷ 0 ∷ 0 ∷ 1 ∷ 1 ∷ 0 ∷ []) ++ replicate 7 0

-- data 1 and then fourteen zeros, and the stripe that they encode to
unfoldable pub example_data : List ℕ
example_data = 1 ∷ replicate 14 0

unfoldable pub example_word : List ℕ
example_word = (1 ∷ 0 ∷ 0 ∷ 0 ∷ 0 ∷ 0 ∷ 1 ∷ []) ++ replicate 7 0 ++ (0 ∷ 0 ∷ 1 ∷ 0 ∷ 1 ∷ 0 ∷ 0 ∷ [])

-- what is mended
unfoldable pub cases : List Case
cases =
    -- no marks
    blank_restored (0 ∷ 0 ∷ 0 ∷ []) (restored 0 0)
    -- the example file's stripe
    ∷ record { stripe = example_stripe; marks = example_marks; report = restored 2 1; stripe_after = example_after; marks_after = 0 ∷ 0 ∷ 0 ∷ [] }
    -- row 1 marked at 2, 4, 5, 6
    ∷ blank_restored (row1 (2 ∷ 4 ∷ 5 ∷ 6 ∷ [])) (restored 0 1)
    -- row 1 marked at 0, 1, 3, 6
    ∷ unchanged blank (row1 (0 ∷ 1 ∷ 3 ∷ 6 ∷ [])) (stuck 2 1)
    -- the same, with column 2 of row 1 set: nothing fills it
    ∷ unchanged (set blank 9 1) (row1 (0 ∷ 1 ∷ 3 ∷ 6 ∷ [])) (clashed (Row 1 2))
    -- rows 0 and 1 with two marks each
    ∷ unchanged blank (word_of (0 ∷ 1 ∷ []) ∷ word_of (0 ∷ 1 ∷ []) ∷ 0 ∷ []) (stuck 1 2)
    -- everything marked
    ∷ unchanged blank (replicate 3 (word_of (0 to 6))) (stuck 1 3)
    -- row 0 is 1000000, no marks
    ∷ unchanged (set blank 0 1) (0 ∷ 0 ∷ 0 ∷ []) (clashed (Row 0 1))
    -- row 0 is 1100000, no marks
    ∷ unchanged (set (set blank 0 1) 1 1) (0 ∷ 0 ∷ 0 ∷ []) (clashed (Across 2))
    ∷ []

-- the case with what mending makes of it
unfoldable pub done : Case → Case
done c = record {
  stripe = c.stripe;
  marks = c.marks;
  report = mend_report 1 c.stripe c.marks;
  stripe_after = mend_stripe 1 c.stripe c.marks;
  marks_after = mend_marks 1 c.stripe c.marks;
}

pub record Sheet : Type 0 where
  -- mending makes of each case what the table says
  pub mending : map done cases ≡ cases
  -- encoding refuses nothing, and leaves the codeword
  pub encode_fits : encode_refusal 1 example_data blank ≡ 0
  pub encodes : encode_stripe 1 example_data blank ≡ example_word
  -- GF(16): 8 times 2 is 3, 15 times 15 is 10. GF(32): 16 times 2 is 5, the cube of 4 is 10
  pub product8 : mul gf16 8 2 ≡ 3
  pub product15 : mul gf16 15 15 ≡ 10
  pub product16 : mul gf32 16 2 ≡ 5
  pub cube4 : power gf32 4 3 ≡ 10

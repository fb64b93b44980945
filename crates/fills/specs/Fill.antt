-- The one operation of mending, defined by listing: fill the marked places of a vector so that its sums are the target.
use Rattle.std.specs.Prelude.{ℕ, Bool, true, false, not, ◌&&◌, List, [], ◌∷◌, ◌++◌, map}
use Rattle.field.specs.Lists.{up_from}
use Rattle.field.specs.Field.{Field, size, dot}
use Rattle.fills.specs.Lists.{any, only, same, zeros, vanish, beside}

-- a vector's sums under checks, which are rows of coefficients
unfoldable pub sums_of : Field → List (List ℕ) → List ℕ → List ℕ
sums_of F checks v = map (λ c. dot F c v) checks

-- what may stand at a place that holds x: any symbol where it is marked, x where not
unfoldable pub options : Field → Bool → ℕ → List ℕ
options F true x = up_from 0 (size F)
options F false x = x ∷ []

-- each head before each tail
unfoldable pub before : List ℕ → List (List ℕ) → List (List ℕ)
before [] tails = []
before (x ∷ xs) tails = map (λ t. x ∷ t) tails ++ before xs tails

-- the vectors that have one of each list's numbers, in order
unfoldable pub one_of_each : List (List ℕ) → List (List ℕ)
one_of_each [] = [] ∷ []
one_of_each (xs ∷ xss) = before xs (one_of_each xss)

-- the vectors that agree with v where unmarked and hold any symbol where marked
unfoldable pub choices : Field → List Bool → List ℕ → List (List ℕ)
choices F ms v = one_of_each (beside (options F) ms v)

-- the vector is not zero and its sums are
unfoldable pub loose : Field → List (List ℕ) → List ℕ → Bool
loose F checks w = not (vanish w) && vanish (sums_of F checks w)

-- the marked columns are dependent: a vector that is zero elsewhere is loose
unfoldable pub dependent : Field → List (List ℕ) → List Bool → Bool
dependent F checks ms = any (loose F checks) (choices F ms (zeros ms))

-- the choices that have the target sums
unfoldable pub fillings : Field → List (List ℕ) → List ℕ → List Bool → List ℕ → List (List ℕ)
fillings F checks target ms v = only (λ w. same (sums_of F checks w) target) (choices F ms v)

-- nothing fills; something does, and the marked columns are dependent; or this alone does
pub data Fill : Type 0 where
  none : Fill
  tied : Fill
  one : List ℕ → Fill

unfoldable pub fill_by : (dependent : Bool) → (fillings : List (List ℕ)) → Fill
fill_by dependent [] = none
fill_by true (w ∷ ws) = tied
fill_by false (w ∷ ws) = one w

unfoldable pub fill : Field → List (List ℕ) → List ℕ → List Bool → List ℕ → Fill
fill F checks target ms v = fill_by (dependent F checks ms) (fillings F checks target ms v)

unfoldable pub is_none : Fill → Bool
is_none none = true
is_none tied = false
is_none (one w) = false

-- the one vector, where there is one
unfoldable pub vector_in : Fill → List ℕ
vector_in none = []
vector_in tied = []
vector_in (one w) = w

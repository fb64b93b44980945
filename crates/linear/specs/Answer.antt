-- What the code of `fill` takes and answers, as the definition has it: all that the contract of `fill` cites. Assumes nothing.
use Rattle.std.specs.Prelude.{ℕ, ◌*◌, ◌^◌, ◌≤◌, ◌<◌, ◌≡◌, List, length}
use Rattle.field.specs.Ours.{field_of}
use Rattle.field.specs.declared.Gf.{Gf}
use Rattle.fills.specs.Fill.{Fill, none, tied, one, fill}
use Rattle.fills.specs.Marks.{rows_of, bits_of}
use Rattle.equations.specs.System.{vec, Elements}
use Rattle.gathering.specs.Most.{most_checks, most_columns}
use Rattle.linear.specs.declared.FillAnswer.{FillAnswer}
use Rattle.linear.specs.declared.FillAnswer.TheVariants.{None, Tied, One}

-- what the code takes: a row of coefficients for each target sum, as many as there are columns; marks of columns alone;
-- coefficients and target sums that are elements of the field. The vector's symbols may be any numbers
pub record Fillable (q : Gf) (checks target v : List ℕ) (marks : ℕ) : Type 0 where
  pub few : length target ≤ most_checks
  pub narrow : length v ≤ most_columns
  pub shape : length checks ≡ length target * length v
  pub within : marks < 2 ^ length v
  pub coefficients : Elements (field_of q) (vec checks)
  pub sums : Elements (field_of q) (vec target)

-- `fill` in field q, with a check for each target sum
unfoldable pub fill_of : Gf → List ℕ → List ℕ → List ℕ → ℕ → Fill
fill_of q checks target v marks = fill (field_of q) (rows_of (length target) (length v) checks) target (bits_of (length v) marks) v

unfoldable pub answer_of : Fill → FillAnswer
answer_of none = None
answer_of tied = Tied
answer_of (one w) = One

-- the vector after the answer: filled, or as it was
unfoldable pub vector_of : Fill → List ℕ → List ℕ
vector_of none v = v
vector_of tied v = v
vector_of (one w) v = w

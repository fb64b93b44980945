-- What the steps of `fill` take and answer. Assumes nothing.
use Rattle.std.specs.Prelude.{ℕ, ◌+◌, ◌*◌, ◌≤◌, ◌≡◌, List, length}
use Rattle.field.specs.Ours.{field_of}
use Rattle.field.specs.declared.Gf.{Gf}
use Rattle.fills.specs.Fill.{Fill, none, tied, one}
use Rattle.equations.specs.System.{vec, Elements}
use Rattle.gathering.specs.Most.{most_checks, most_columns}
use Rattle.gathering.specs.Steps.{Placed, Shown, scattered}
use Rattle.linear.specs.Answer.{fill_of}
use Rattle.linear.specs.declared.FillAnswer.{FillAnswer}
use Rattle.linear.specs.declared.FillAnswer.TheVariants.{None, Tied, One}

-- what `has_sums` takes: a row of coefficients for each target sum, as many as there are symbols
pub record Comparable (checks target v : List ℕ) : Type 0 where
  pub shape : length checks ≡ length target * length v

-- the room for a system of the most checks in the most columns
abbrev pub system_room : ℕ
system_room = most_checks * (most_columns + 1)

-- what the solvers take: what `fill` does, and places of the symbols
pub record Solvable (q : Gf) (checks target shown places : List ℕ) : Type 0 where
  pub few : length target ≤ most_checks
  pub narrow : length places ≤ most_columns
  pub shape : length checks ≡ length target * length shown
  pub placed : Placed places (length shown)
  pub coefficients : Elements (field_of q) (vec checks)
  pub sums : Elements (field_of q) (vec target)

-- an answer with the symbols that go to the places of v
unfoldable pub filled_by : FillAnswer → List ℕ → List ℕ → List ℕ → Fill
filled_by None v places solution = none
filled_by Tied v places solution = tied
filled_by One v places solution = one (scattered v (vec places) (vec solution) (length places))

-- what the solvers answer: what `fill` does of each vector that is shown so
pub record Settles (q : Gf) (checks target shown places : List ℕ) (answer : FillAnswer) (solution : List ℕ) : Type 0 where
  pub fills : (v : List ℕ) (marks : ℕ) → Shown marks v shown places → fill_of q checks target v marks ≡ filled_by answer v places solution

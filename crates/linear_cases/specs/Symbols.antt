-- Symbols of a field, as a test that computes, and what the cases are made of. Assumes nothing.
use Rattle.std.specs.Prelude.{ℕ, ◌+◌, ◌*◌, ◌^◌, ◌≤◌, ◌<◌, ◌≡◌, Bool, true, ◌&&◌, List, [], ◌∷◌, length, T, ltb}
use Rattle.field.specs.declared.Gf.{Gf}
use Rattle.field.specs.declared.Gf.TheVariants.{Two, Sixteen, Bytes}
use Rattle.gathering.specs.Most.{most_checks, most_columns}

abbrev pub size_of : Gf → ℕ
size_of Two = 2
size_of Sixteen = 16
size_of Bytes = 256

-- every number is a symbol of field q
abbrev pub symbols : Gf → List ℕ → Bool
symbols q [] = true
symbols q (x ∷ xs) = ltb x (size_of q) && symbols q xs

-- m equations in k unknowns, of symbols, with room for the pivots and for what is written
pub record Answerable (q : Gf) (system : List ℕ) (m k : ℕ) : Type 0 where
  pub rows : m * (k + 1) ≤ 12
  pub pivots : m ≤ 5
  pub unknowns : k ≤ 5
  pub elements : T (symbols q system)

-- marks of the columns alone, and checks and target sums of symbols
pub record Marked (q : Gf) (checks target v : List ℕ) (marks : ℕ) : Type 0 where
  pub few : length target ≤ most_checks
  pub narrow : length v ≤ most_columns
  pub shape : length checks ≡ length target * length v
  pub within : marks < 2 ^ length v
  pub coefficients : T (symbols q checks)
  pub sums : T (symbols q target)

-- a coefficient and a target sum that are symbols
pub record Uniform (q : Gf) (coefficient target : ℕ) : Type 0 where
  pub coefficients : coefficient < size_of q
  pub sums : target < size_of q

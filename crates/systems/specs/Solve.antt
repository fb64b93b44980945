-- What `solve` takes. Assumes nothing.
use Rattle.std.specs.Prelude.{ℕ, ◌+◌, ◌*◌, ◌≤◌, List, length}
use Rattle.field.specs.Ours.{field_of}
use Rattle.field.specs.declared.Gf.{Gf}
use Rattle.equations.specs.System.{vec, Elements}

-- what the code takes: a buffer of m rows of k + 1 elements; room for a pivot of each row, a solution and a dependency
pub record Solvable (q : Gf) (a : List ℕ) (m k : ℕ) (at x z : List ℕ) : Type 0 where
  pub rows : m * (k + 1) ≤ length a
  pub pivots : m ≤ length at
  pub solution : k ≤ length x
  pub dependency : k ≤ length z
  pub elements : Elements (field_of q) (vec a)

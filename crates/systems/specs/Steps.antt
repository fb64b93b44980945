-- What is read off a reduced system. Assumes nothing.
use Rattle.std.specs.Prelude.{ℕ, ◌≤◌, ◌<◌, List, length}
use Rattle.equations.specs.System.{vec, ent}
use Rattle.elimination.specs.Steps.{Form, Held}
use Rattle.elimination.specs.declared.Shape.{Shape}

-- what is read off: column u of a matrix that is reduced in its first k columns, with room for k symbols
pub record Readable (s : Shape) (a at : List ℕ) (k u : ℕ) (z : List ℕ) : Type 0 where
  pub held : Held s a
  pub room : k ≤ length z
  pub column : u < s.width
  pub form : Form (ent a s.width) s.rows (vec at) (length at) k

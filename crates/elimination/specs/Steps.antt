-- What the steps of elimination ask of the buffer and say of it. Assumes nothing.
use Rattle.std.specs.Prelude.{ℕ, ◌*◌, ◌≤◌, ◌<◌, ◌≡◌, ◌≢◌, ◌↔◌, Option, Some, None, List, length}
use Rattle.field.specs.Field.{Field, ◌⊕◌, mul}
use Rattle.field.specs.Ours.{field_of}
use Rattle.equations.specs.System.{vec, Matrix, ent, inner, Elements, Ker}
use Rattle.elimination.specs.declared.Shape.{Shape}

-- the same vectors give 0
abbrev pub Same : Field → Matrix → Matrix → ℕ → ℕ → Type 0
Same F M N m w = (z : ℕ → ℕ) → Ker F M m w z ↔ Ker F N m w z

-- i is the first row from r on whose entry in column c is not 0
pub record First (M : Matrix) (m r c i : ℕ) : Type 0 where
  pub least : r ≤ i
  pub most : i < m
  pub skipped : (x : ℕ) → r ≤ x → x < i → M x c ≡ 0
  pub nonzero : M i c ≢ 0

-- there is such a row, or all of them are 0 there
abbrev pub Found : Matrix → ℕ → ℕ → ℕ → Option ℕ → Type 0
Found M m r c (Some i) = First M m r c i
Found M m r c None = (x : ℕ) → r ≤ x → x < m → M x c ≡ 0

-- row i and f times row p
pub record Added (F : Field) (M N : Matrix) (w i p f : ℕ) : Type 0 where
  pub hit : (j : ℕ) → j < w → N i j ≡ M i j ⊕ mul F f (M p j)
  pub miss : (x : ℕ) → x ≢ i → (j : ℕ) → j < w → N x j ≡ M x j

-- every row but p, and its entry in column c times row p
pub record Cleared (F : Field) (M N : Matrix) (m w p c : ℕ) : Type 0 where
  pub kept : (j : ℕ) → j < w → N p j ≡ M p j
  pub changed : (x : ℕ) → x < m → x ≢ p → (j : ℕ) → j < w → N x j ≡ M x j ⊕ mul F (M x c) (M p j)

-- column c is the unit vector of row r, the columns before it are as they were, and the same vectors give 0
pub record Pivoted (F : Field) (M N : Matrix) (m w r c : ℕ) : Type 0 where
  pub keep : (x : ℕ) → x < m → (j : ℕ) → j < c → N x j ≡ M x j
  pub unit : N r c ≡ 1
  pub gone : (x : ℕ) → x < m → x ≢ r → N x c ≡ 0
  pub same : Same F M N m w

-- the matrix after c columns, r of which are unit vectors: row t has its 1 in column `at t`, and rows from r on are 0 in all c
pub record Form (M : Matrix) (m : ℕ) (at : ℕ → ℕ) (r c : ℕ) : Type 0 where
  pub low : (i : ℕ) → r ≤ i → i < m → (j : ℕ) → j < c → M i j ≡ 0
  pub col : (t : ℕ) → t < r → at t < c
  pub unit : (t : ℕ) → t < r → M t (at t) ≡ 1
  pub gone : (t : ℕ) → t < r → (i : ℕ) → i < m → i ≢ t → M i (at t) ≡ 0
  pub rows : r ≤ m

-- of the first c columns: `free` is one with no pivot, or each has its pivot
abbrev pub Free : (ℕ → ℕ) → ℕ → ℕ → Option ℕ → Type 0
Free at r c (Some free) = (free < c) × ((t : ℕ) → t < r → at t ≢ free)
Free at r c None = (r ≡ c) × ((t : ℕ) → t < r → at t ≡ t)

-- z has the first t entries of column u at the pivots' columns, and 0 elsewhere: so the first t rows give their entry in column u, the others 0
pub record ReadOff (F : Field) (M : Matrix) (m k : ℕ) (at : ℕ → ℕ) (u t : ℕ) (z : ℕ → ℕ) : Type 0 where
  pub done : (i : ℕ) → i < m → i < t → inner F (M i) z k ≡ M i u
  pub todo : (i : ℕ) → i < m → t ≤ i → inner F (M i) z k ≡ 0
  pub off : (j : ℕ) → ((s : ℕ) → s < t → at s ≢ j) → z j ≡ 0
  pub small : Elements F z

-- the rows lie in the buffer, which holds elements
pub record Held (s : Shape) (a : List ℕ) : Type 0 where
  pub rows : s.rows * s.width ≤ length a
  pub elements : Elements (field_of s.field) (vec a)

-- what `find_row` takes: the rows, and a row and a column to begin at
pub record Findable (s : Shape) (a : List ℕ) (r c : ℕ) : Type 0 where
  pub rows : s.rows * s.width ≤ length a
  pub row : r ≤ s.rows
  pub column : c < s.width

-- what `add_row` takes: two of the rows, of which row p is 0 before column c
pub record Addable (s : Shape) (a : List ℕ) (i p c : ℕ) : Type 0 where
  pub held : Held s a
  pub to : i < s.rows
  pub from : p < s.rows
  pub column : c ≤ s.width
  pub zero : (j : ℕ) → j < c → ent a s.width p j ≡ 0

-- what `clear_column` takes: row p, which is 0 before column c
pub record Clearable (s : Shape) (a : List ℕ) (p c : ℕ) : Type 0 where
  pub held : Held s a
  pub row : p < s.rows
  pub column : c < s.width
  pub zero : (j : ℕ) → j < c → ent a s.width p j ≡ 0

-- what `pivot` takes: the rows, which from r on are 0 before column c; i is one of them, and is not 0 there
pub record Pivotable (s : Shape) (a : List ℕ) (r c i : ℕ) : Type 0 where
  pub held : Held s a
  pub least : r ≤ i
  pub most : i < s.rows
  pub column : c < s.width
  pub nonzero : ent a s.width i c ≢ 0
  pub low : (x : ℕ) → r ≤ x → x < s.rows → (j : ℕ) → j < c → ent a s.width x j ≡ 0

-- what `reduce` takes: the rows, and room for a pivot of each
pub record Reducible (s : Shape) (a : List ℕ) (k : ℕ) (at : List ℕ) : Type 0 where
  pub held : Held s a
  pub columns : k ≤ s.width
  pub pivots : s.rows ≤ length at

-- what `reduce` leaves: unit vectors at r of the first k columns, a column without, and the same vectors that give 0
pub record Reduction (s : Shape) (a₀ a at : List ℕ) (k r : ℕ) (free : Option ℕ) : Type 0 where
  pub form : Form (ent a s.width) s.rows (vec at) r k
  pub column : Free (vec at) r k free
  pub same : Same (field_of s.field) (ent a₀ s.width) (ent a s.width) s.rows s.width
  pub elements : Elements (field_of s.field) (vec a)

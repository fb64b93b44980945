-- Vectors and matrices over a field, systems of equations, and what it is to answer one. Assumes nothing.
use Rattle.std.specs.Prelude.{ℕ, zero, suc, ◌+◌, ◌*◌, ◌<◌, ◌≡◌, Bool, true, false, ◌≢◌, List, get_or}
use Rattle.field.specs.Field.{Field, ◌⊕◌, size, mul}

-- a list as a vector, which is 0 past its end
abbrev pub vec : List ℕ → ℕ → ℕ
vec l j = get_or l j 0

-- a matrix, by row and column
abbrev pub Matrix : Type 0
Matrix = ℕ → ℕ → ℕ

-- a flat buffer as the matrix of its rows, each of w numbers
abbrev pub ent : List ℕ → ℕ → Matrix
ent a w i j = get_or a (i * w + j) 0

-- the sum of the products of the first n entries
unfoldable pub inner : Field → (ℕ → ℕ) → (ℕ → ℕ) → ℕ → ℕ
inner F f g zero = 0
inner F f g (suc n) = inner F f g n ⊕ mul F (f n) (g n)

-- every entry is an element of the field
abbrev pub Elements : Field → (ℕ → ℕ) → Type 0
Elements F z = (j : ℕ) → z j < size F

-- each of the first m rows gives 0 with z, over k columns
abbrev pub Ker : Field → Matrix → ℕ → ℕ → (ℕ → ℕ) → Type 0
Ker F M m k z = (i : ℕ) → i < m → inner F (M i) z k ≡ 0

-- each of the first m rows gives its entry in column k with x, over the k columns before it
abbrev pub Solves : Field → Matrix → ℕ → ℕ → (ℕ → ℕ) → Type 0
Solves F M m k x = (i : ℕ) → i < m → inner F (M i) x k ≡ M i k

-- the answer says whether the system has a solution; x is one where it has
pub record Consistency (F : Field) (M : Matrix) (m k : ℕ) (answer : Bool) (x : ℕ → ℕ) : Type 0 where
  pub solution : answer ≡ true → Elements F x × Solves F M m k x
  pub none : answer ≡ false → (y : ℕ → ℕ) → Solves F M m k y → ⊥

-- the answer says whether the first k columns are dependent; z is a dependency, and not zero, where they are
pub record Dependence (F : Field) (M : Matrix) (m k : ℕ) (answer : Bool) (z : ℕ → ℕ) : Type 0 where
  pub dependency : answer ≡ true → Elements F z × ((j : ℕ) × (j < k) × (z j ≢ 0)) × Ker F M m k z
  pub none : answer ≡ false → (y : ℕ → ℕ) → ((j : ℕ) → j < k → y j < size F) → Ker F M m k y → (j : ℕ) → j < k → y j ≡ 0

-- the whole answer, of m equations in k unknowns, whose right-hand sides stand in column k
pub record Solved (F : Field) (M : Matrix) (m k : ℕ) (dependent consistent : Bool) (x z : ℕ → ℕ) : Type 0 where
  pub consistency : Consistency F M m k consistent x
  pub dependence : Dependence F M m k dependent z

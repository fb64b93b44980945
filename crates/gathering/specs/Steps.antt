-- What the steps of `fill` around the solver ask and say. Assumes nothing.
use Rattle.std.specs.Prelude.{ℕ, zero, suc, ◌+◌, ◌*◌, ◌^◌, ◌≤◌, ◌<◌, ◌≡◌, ◌≢◌, ◌⊎◌, List, eqb, length, get_or, set}
use Rattle.std.specs.Int.Count.{ones}
use Rattle.field.specs.Lists.{when◌then◌else◌}
use Rattle.field.specs.Field.{Field, ◌⊕◌, gf2}
use Rattle.field.specs.Ours.{field_of}
use Rattle.field.specs.declared.Gf.{Gf}
use Rattle.equations.specs.System.{vec, Matrix, ent, inner, Elements}
use Rattle.equations.specs.Words.{bit_at}
use Rattle.gathering.specs.Most.{most_checks, most_columns}

-- `at` lists the k marked columns, each once
pub record Places (marks k : ℕ) (at : ℕ → ℕ) : Type 0 where
  pub marked : (t : ℕ) → t < k → bit_at marks (at t) ≡ 1
  pub apart : (t : ℕ) → t < k → (s : ℕ) → s < t → at s ≢ at t
  pub every : (c : ℕ) → bit_at marks c ≡ 1 → (t : ℕ) × (t < k) × (at t ≡ c)

-- a vector with 0 under the marks
unfoldable pub hidden : ℕ → List ℕ → ℕ → ℕ
hidden marks v c = when eqb (bit_at marks c) 1 then 0 else vec v c

-- the first t of row i's coefficients at the k places are copied from the checks to row i of the system, and the rest is as it was
pub record Copied (checks : List ℕ) (n i : ℕ) (at : ℕ → ℕ) (a₀ a : List ℕ) (k t : ℕ) : Type 0 where
  pub done : (s : ℕ) → s < t → ent a (k + 1) i s ≡ ent checks n i (at s)
  pub rest : (x : ℕ) → (x < i * (k + 1)) ⊎ (i * (k + 1) + t ≤ x) → get_or a x 0 ≡ get_or a₀ x 0

-- the system of the marked columns, after i rows: the coefficients at the k places, and what the unmarked symbols b leave of the target
pub record Gathered (F : Field) (checks target : List ℕ) (b : ℕ → ℕ) (n k : ℕ) (at : ℕ → ℕ) (M : Matrix) (m : ℕ) : Type 0 where
  pub coefficient : (i : ℕ) → i < m → (t : ℕ) → t < k → M i t ≡ ent checks n i (at t)
  pub remainder : (i : ℕ) → i < m → M i k ≡ vec target i ⊕ inner F (ent checks n i) b n

-- x written to the first k places of `at`
unfoldable pub scattered : List ℕ → (ℕ → ℕ) → (ℕ → ℕ) → ℕ → List ℕ
scattered v at x zero = v
scattered v at x (suc k) = set (scattered v at x k) (at k) (x k)

-- k columns are marked, and `at` lists them
pub record Listed (marks k : ℕ) (at : ℕ → ℕ) : Type 0 where
  pub count : k ≡ ones marks
  pub places : Places marks k at

-- what `show` takes: marks of the columns alone, and room to copy the symbols
pub record Showable (marks : ℕ) (v shown : List ℕ) : Type 0 where
  pub narrow : length v ≤ most_columns
  pub within : marks < 2 ^ length v
  pub room : length v ≤ length shown

-- `places` lists the marked columns of v, and `shown` is v with 0 there
pub record Shown (marks : ℕ) (v shown places : List ℕ) : Type 0 where
  pub listed : Places marks (length places) (vec places)
  pub within : marks < 2 ^ length v
  pub size : length shown ≡ length v
  pub hides : (c : ℕ) → c < length v → vec shown c ≡ hidden marks v c

-- the places lie below n
pub record Placed (places : List ℕ) (n : ℕ) : Type 0 where
  pub below : (t : ℕ) → t < length places → vec places t < n

-- what `scatter` takes: places below n, and a symbol for each
pub record Scatterable (places : List ℕ) (n : ℕ) (x : List ℕ) : Type 0 where
  pub placed : Placed places n
  pub symbols : length places ≤ length x

-- what `row_sum` takes: a coefficient of check i for each symbol
pub record Summable (checks : List ℕ) (i : ℕ) (v : List ℕ) : Type 0 where
  pub row : i * length v + length v ≤ length checks

-- what `gather_row` takes: row i of the checks and of the system, and places
pub record RowGatherable (checks : List ℕ) (n i : ℕ) (places a : List ℕ) : Type 0 where
  pub from : i * n + n ≤ length checks
  pub to : i * (length places + 1) + (length places + 1) ≤ length a
  pub placed : Placed places n

-- what `gather` takes: a row of the checks and of the system for each target sum, and places among the symbols
pub record Gatherable (q : Gf) (checks target shown places a : List ℕ) : Type 0 where
  pub from : length target * length shown ≤ length checks
  pub to : length target * (length places + 1) ≤ length a
  pub placed : Placed places (length shown)
  pub coefficients : Elements (field_of q) (vec checks)
  pub sums : Elements (field_of q) (vec target)
  pub elements : Elements (field_of q) (vec a)

-- what `gather_need` takes: a row of the checks for each target sum
pub record Needed (checks target shown : List ℕ) : Type 0 where
  pub rows : length target * length shown ≤ length checks
  pub few : length target ≤ most_checks
  pub sums : Elements gf2 (vec target)

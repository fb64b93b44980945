-- What is published of each plan: the columns k, d0 and d of its table, and its row counts.
use Rattle.std.specs.Prelude.{ℕ, List, [], ◌∷◌, get_or}

-- symbols carried k, the distance d0 of a row code and d of the whole code. The counts, one for each level: with at least this many marks, at most
-- so many rows
pub record Published : Type 0 where
  pub k : ℕ
  pub d0 : ℕ
  pub d : ℕ
  pub counts : List (ℕ × ℕ)

-- of an unknown number nothing is
abbrev pub nothing : Published
nothing = record { k = 0; d0 = 0; d = 0; counts = [] }

-- plans 1 to 5
abbrev pub published : List Published
published =
    record { k = 15; d0 = 2; d = 4; counts = (2, 1) ∷ (4, 0) ∷ [] }
    ∷ record { k = 198; d0 = 4; d = 8; counts = (4, 1) ∷ (6, 1) ∷ (8, 0) ∷ [] }
    ∷ record { k = 98; d0 = 3; d = 8; counts = (3, 2) ∷ (4, 1) ∷ (8, 0) ∷ [] }
    ∷ record { k = 253; d0 = 3; d = 10; counts = (3, 3) ∷ (5, 1) ∷ (10, 0) ∷ [] }
    ∷ record { k = 444; d0 = 4; d = 8; counts = (4, 1) ∷ (6, 1) ∷ (8, 0) ∷ [] }
    ∷ []

abbrev pub published_of : ℕ → Published
published_of p = get_or (nothing ∷ published) p nothing

-- ---- by the plan's number

unfoldable pub symbols_carried : ℕ → ℕ
symbols_carried p = (published_of p).k

-- the distance of a row code, and of the whole code
unfoldable pub row_distance : ℕ → ℕ
row_distance p = (published_of p).d0

unfoldable pub distance : ℕ → ℕ
distance p = (published_of p).d

unfoldable pub counts : ℕ → List (ℕ × ℕ)
counts p = (published_of p).counts

-- Flat lists as rows, and mark words as marks. Assumes nothing.
use Rattle.std.specs.Prelude.{ℕ, zero, suc, Bool, List, [], ◌∷◌, map, eqb, take, drop}
use Rattle.field.specs.Lists.{up_from}
use Rattle.equations.specs.Words.{bit_at}

-- a flat list as m rows of n numbers
unfoldable pub rows_of : ℕ → ℕ → List ℕ → List (List ℕ)
rows_of zero n l = []
rows_of (suc m) n l = take n l ∷ rows_of m n (drop n l)

-- the marks of n columns: bit c of the mark word marks column c
unfoldable pub bits_of : ℕ → ℕ → List Bool
bits_of n w = map (λ c. eqb (bit_at w c) 1) (up_from 0 n)

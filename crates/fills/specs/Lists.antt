-- Lists and tests over them.
use Rattle.std.specs.Prelude.{ℕ, Bool, true, false, ◌&&◌, ◌||◌, List, [], ◌∷◌, eqb}
use Rattle.field.specs.Lists.{when◌then◌else◌}
use Rattle.field.specs.Field.{◌⊕◌}

unfoldable pub any : {A : Type 0} → (A → Bool) → List A → Bool
any p [] = false
any p (x ∷ xs) = p x || any p xs

unfoldable pub all : {A : Type 0} → (A → Bool) → List A → Bool
all p [] = true
all p (x ∷ xs) = p x && all p xs

-- the members that pass the test
unfoldable pub only : {A : Type 0} → (A → Bool) → List A → List A
only p [] = []
only p (x ∷ xs) = when p x then x ∷ only p xs else only p xs

unfoldable pub same : List ℕ → List ℕ → Bool
same [] [] = true
same [] (y ∷ ys) = false
same (x ∷ xs) [] = false
same (x ∷ xs) (y ∷ ys) = eqb x y && same xs ys

-- a zero for each member
unfoldable pub zeros : {A : Type 0} → List A → List ℕ
zeros [] = []
zeros (x ∷ xs) = 0 ∷ zeros xs

-- every number is 0
unfoldable pub vanish : List ℕ → Bool
vanish l = all (λ x. eqb x 0) l

-- a vector counts as 0 past its end
unfoldable pub first : List ℕ → ℕ
first [] = 0
first (x ∷ xs) = x

unfoldable pub rest : List ℕ → List ℕ
rest [] = []
rest (x ∷ xs) = xs

-- f of each mark and its symbol, side by side, as far as the marks go
unfoldable pub beside : {A : Type 0} → (Bool → ℕ → A) → List Bool → List ℕ → List A
beside f [] xs = []
beside f (m ∷ ms) xs = f m (first xs) ∷ beside f ms (rest xs)

-- the sum of two vectors, as far as the longer goes
abbrev pub plus : List ℕ → List ℕ → List ℕ
plus [] z = z
plus (y ∷ ys) [] = y ∷ ys
plus (y ∷ ys) (z ∷ zs) = (y ⊕ z) ∷ plus ys zs

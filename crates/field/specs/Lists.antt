-- Lists of numbers, and a choice by a test.
use Rattle.std.specs.Prelude.{ℕ, zero, suc, ◌-◌, Bool, true, false, List, [], ◌∷◌, eqb}

-- the first where the test passes, else the second
infix 10 when◌then◌else◌
unfoldable pub when◌then◌else◌ : {A : Type 0} → Bool → A → A → A
when true then a else b = a
when false then a else b = b

-- n numbers, ascending from k
unfoldable pub up_from : ℕ → ℕ → List ℕ
up_from k zero = []
up_from k (suc n) = k ∷ up_from (suc k) n

-- the numbers from k to n, both among them
infix 60 ◌to◌
abbrev pub ◌to◌ : ℕ → ℕ → List ℕ
k to n = up_from k (suc n - k)

-- a word's weight: how many of its symbols are not 0
unfoldable pub weight : List ℕ → ℕ
weight [] = 0
weight (zero ∷ w) = weight w
weight (suc c ∷ w) = suc (weight w)

-- where a number first stands in a list, counted from k; 0 where it does not
unfoldable pub place_from : ℕ → List ℕ → ℕ → ℕ
place_from k [] x = 0
place_from k (y ∷ ys) x = when eqb y x then k else place_from (suc k) ys x

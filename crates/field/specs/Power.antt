-- Powers of a field's elements, and sums of powers.
use Rattle.std.specs.Prelude.{ℕ, zero, suc, List, [], ◌∷◌, map}
use Rattle.field.specs.Field.{Field, mul, dot}

unfoldable pub power : Field → ℕ → ℕ → ℕ
power F x zero = 1
power F x (suc p) = mul F x (power F x p)

-- n numbers: the first x, each other a times the one before it
unfoldable pub orbit : Field → ℕ → ℕ → ℕ → List ℕ
orbit F a x zero = []
orbit F a x (suc n) = x ∷ orbit F a (mul F a x) n

-- power sum p of a word: the sum of each symbol times its location ^ p. Location 0 counts in power sum 0
unfoldable pub power_sum : Field → List ℕ → List ℕ → ℕ → ℕ
power_sum F locations word p = dot F (map (λ x. power F x p) locations) word

-- Numbers as bytes, low byte first.
use Rattle.std.specs.Prelude.{ℕ, zero, suc, ◌+◌, ◌*◌, ◌/◌, ◌%◌, List, [], ◌∷◌, map, get_or}
use Rattle.field.specs.Lists.{up_from}

-- how many numbers a byte can be, and how many bits a mark word has
abbrev pub byte_range : ℕ
byte_range = 256

abbrev pub word_bits : ℕ
word_bits = 64

-- a number's n low bytes
unfoldable pub bytes_of : ℕ → ℕ → List ℕ
bytes_of zero x = []
bytes_of (suc n) x = x % byte_range ∷ bytes_of n (x / byte_range)

-- the number of the n bytes from place i on
unfoldable pub number_at : ℕ → List ℕ → ℕ → ℕ
number_at zero bytes i = 0
number_at (suc n) bytes i = get_or bytes i 0 + byte_range * number_at n bytes (suc i)

-- k such numbers, from place `at` on
abbrev pub words_at : ℕ → List ℕ → (at k : ℕ) → List ℕ
words_at n bytes at k = map (λ r. number_at n bytes (at + n * r)) (up_from 0 k)

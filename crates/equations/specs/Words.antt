-- The bits of a word, words of given bits, and columns of coefficients as words.
use Rattle.std.specs.Prelude.{ℕ, zero, suc, ◌+◌, ◌*◌, ◌/◌, ◌%◌, ◌^◌, List}
use Rattle.equations.specs.System.{ent}

-- bit c of a word
abbrev pub bit_at : ℕ → ℕ → ℕ
bit_at w c = w / 2 ^ c % 2

-- the word of the n bits that b lists from i on, the lowest first
unfoldable pub packed : (ℕ → ℕ) → ℕ → ℕ → ℕ
packed b i zero = 0
packed b i (suc n) = packed b (suc i) n * 2 + b i

-- column p of m checks over n columns, which stand row after row: bit i is the coefficient of check i
unfoldable pub column_of : List ℕ → ℕ → ℕ → ℕ → ℕ
column_of checks m n p = packed (λ i. ent checks n i p) 0 m

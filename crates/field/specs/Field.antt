-- Fields of characteristic 2. An element is a number, read as a polynomial over GF(2): bit i is the coefficient of x ^ i.
use Rattle.std.specs.Prelude.{ℕ, zero, suc, pred, ◌*◌, ◌/◌, ◌%◌, ◌^◌, List, [], ◌∷◌}
use Rattle.std.specs.Int.Bits.{bit_xor}

-- the sum of two elements: exclusive-or
infixl 65 ◌⊕◌
unfoldable pub ◌⊕◌ : ℕ → ℕ → ℕ
◌⊕◌ = bit_xor

-- the polynomials modulo `polynomial`, whose degree is `width`
pub record Field : Type 0 where
  pub width : ℕ
  pub polynomial : ℕ

-- how many elements there are: they are the numbers below it
unfoldable pub size : Field → ℕ
size F = 2 ^ F.width

-- x times a: the double, less the polynomial where it has the term x ^ width
unfoldable pub double : Field → ℕ → ℕ
double F a = a * 2 ⊕ a * 2 / size F % 2 * F.polynomial

-- a times the n low terms of b: a where b has the term 1, and x times the product with the rest
unfoldable pub times : Field → ℕ → ℕ → ℕ → ℕ
times F zero a b = 0
times F (suc n) a b = b % 2 * a ⊕ double F (times F n a (b / 2))

-- the product of two elements; of any other number its low bits count
unfoldable pub mul : Field → ℕ → ℕ → ℕ
mul F a b = times F F.width (a % size F) b

-- a ^ 2 · a ^ 4 · … · a ^ (2 ^ n)
unfoldable pub squares : Field → ℕ → ℕ → ℕ
squares F zero a = 1
squares F (suc n) a = let s = mul F a a in mul F s (squares F n s)

-- a ^ (size - 2), which inverts a wherever something does
unfoldable pub inverse : Field → ℕ → ℕ
inverse F a = squares F (pred F.width) a

-- the sum of the products of two vectors, as far as both go
unfoldable pub dot : Field → List ℕ → List ℕ → ℕ
dot F [] xs = 0
dot F (c ∷ cs) [] = 0
dot F (c ∷ cs) (x ∷ xs) = mul F c x ⊕ dot F cs xs

unfoldable pub gf2 : Field
gf2 = record { width = 1; polynomial = 0b11 }

-- x ^ 3 + x + 1
unfoldable pub gf8 : Field
gf8 = record { width = 3; polynomial = 0b1011 }

-- x ^ 4 + x + 1
unfoldable pub gf16 : Field
gf16 = record { width = 4; polynomial = 0b10011 }

-- x ^ 5 + x ^ 2 + 1
unfoldable pub gf32 : Field
gf32 = record { width = 5; polynomial = 0b100101 }

-- x ^ 6 + x + 1
unfoldable pub gf64 : Field
gf64 = record { width = 6; polynomial = 0b1000011 }

-- x ^ 8 + x ^ 4 + x ^ 3 + x ^ 2 + 1
unfoldable pub gf256 : Field
gf256 = record { width = 8; polynomial = 0b100011101 }

-- What the code's arithmetic gives in GF(2) and GF(16) is the field's: the table at an entry, and the steps of the inverse. Assumes nothing.
use mathlib.Core.Path.{◌≡◌, refl, ap, ap₂, ◌∙◌}
use mathlib.Core.List.{List}
use Prim.Native.Nat.{ℕ, ◌+◌, ◌*◌, ◌/◌, ◌%◌, ◌<◌}
use native.Mathlib.Nat.{mod-lt}
use lib.Arith.{digits_lt, digits_div, digits_mod}
use lib.Dec.{lit<}
use lib.ListN.{get_or}
use Rattle.field.specs.Field.{◌⊕◌, size, double, times, mul, squares, inverse, gf2, gf16}
use Rattle.field.specs.Ours.{products}
use Rattle.field.proofs.Sum.{of-bits, bit}
use Rattle.field.proofs.Lists.{get_or-map-below}
use Rattle.field.proofs.Ring.{mul_low}
use Rattle.field.proofs.Laws.{mul-one}
use Rattle.field.proofs.Fields.{gf16-field}

-- ---- GF(16)

low4 : (a : ℕ) → a % 16 < 16
low4 a = mod-lt a (lit< tt)

entry16 : (x y : ℕ) → get_or products (x % 16 * 16 + y % 16) 0 ≡ mul gf16 x y
unfolding products size gf16
entry16 x y =
    get_or-map-below (λ k. mul gf16 (k / 16) (k % 16)) 256 (x % 16 * 16 + y % 16) 0 (digits_lt (low4 x) (low4 y))
    ∙ ap₂ (mul gf16) (digits_div (x % 16) (low4 y)) (digits_mod (x % 16) (low4 y)) ∙ mul_low gf16 x y

-- entry 16 x + y, of the low bits of x and y, is their product
pub entry : (t : List ℕ) (x y : ℕ) → t ≡ products → get_or t (x % 16 * 16 + y % 16) 0 ≡ mul gf16 x y
entry t x y e = rw e (entry16 x y)

inverse16 : (x a b c : ℕ) → a ≡ mul gf16 x x → b ≡ mul gf16 a a → c ≡ mul gf16 b b → mul gf16 a (mul gf16 b c) ≡ inverse gf16 x
unfolding inverse squares gf16
inverse16 x a b c ea eb ec = rw (ec, eb, ea, mul-one gf16 gf16-field (mul gf16 _ _) (gf16-field.product_lt _ _))

-- x ^ 2 · (x ^ 4 · x ^ 8)
pub inverse-14 : (x a b c d r : ℕ) → a ≡ mul gf16 x x → b ≡ mul gf16 a a → c ≡ mul gf16 b b → d ≡ mul gf16 b c → r ≡ mul gf16 a d → r ≡ inverse gf16 x
inverse-14 x a b c d r ea eb ec ed er = er ∙ ap (mul gf16 a) ed ∙ inverse16 x a b c ea eb ec

-- ---- GF(2)

-- the product is that of the last bits
pub bits-product : (x y : ℕ) → x % 2 * (y % 2) ≡ mul gf2 x y
unfolding ◌⊕◌ size double times mul gf2
bits-product x y =
    of-bits (λ a. a * (y % 2) ≡ mul gf2 a (y % 2)) (of-bits (λ b. 0 * b ≡ mul gf2 0 b) refl refl (y % 2) (bit y))
    (of-bits (λ b. 1 * b ≡ mul gf2 1 b) refl refl (y % 2) (bit y)) (x % 2) (bit x)
    ∙ mul_low gf2 x y

-- in GF(2) only 1 has an inverse, and that is 1
pub inverse-1 : (x : ℕ) → 1 ≡ inverse gf2 x
unfolding inverse squares gf2
inverse-1 x = refl

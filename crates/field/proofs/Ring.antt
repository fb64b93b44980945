-- Laws of the product, for every width and polynomial. Assumes nothing.
use mathlib.Core.Path.{◌≡◌, refl, sym, ap, ◌∙◌}
use Prim.Native.Nat.{ℕ, zero, suc, ◌*◌, ◌/◌, ◌%◌, ◌^◌, ◌<◌, ◌≤◌}
use native.Mathlib.Nat.{mod-lt, mod-eq_of_lt, zero-mul, one-mul, div-eq_of_lt, mod-one, mul-one, le_refl, div-lt_iff_lt-mul, le_of_eq}
use native.Mathlib.Omega.{arith}
use native.Mathlib.Numerals.{add-one}
use lib.Pow.{pow_pos, pow_mono, mod-pow-add}
use Rattle.field.specs.Field.{◌⊕◌, Field, size, double, times, mul}
use Rattle.field.proofs.Sum.{of-bits, bit, ⊕-self, ⊕-zero, zero-⊕, ⊕-lt, ⊕-shr, ⊕-mod, ⊕-double, ⊕-digit, ⊕-four, last-⊕}

-- a bit times a sum
bit-⊕ : (b u v : ℕ) → b % 2 * (u ⊕ v) ≡ b % 2 * u ⊕ b % 2 * v
bit-⊕ b u v = of-bits (λ d. d * (u ⊕ v) ≡ d * u ⊕ d * v) (simp (zero-mul, zero-⊕)) (simp one-mul) (b % 2) (bit b)

module _ (F : Field) where
  pub size-pos : 0 < size F
  unfolding size
  size-pos = pow_pos F.width

  -- ---- x times an element

  double-⊕ : (a b : ℕ) → double F (a ⊕ b) ≡ double F a ⊕ double F b
  unfolding double size
  double-⊕ a b =
      rw (⊕-double a b, ⊕-shr (a * 2) (b * 2) F.width, last-⊕ (a * 2 / size F) (b * 2 / size F) F.polynomial, ⊕-four (a * 2) (b * 2))

  double-zero : double F 0 ≡ 0
  double-zero = ap (double F) (sym (⊕-self 0)) ∙ double-⊕ 0 0 ∙ ⊕-self (double F 0)

  double-bit : (b u : ℕ) → double F (b % 2 * u) ≡ b % 2 * double F u
  double-bit b u = of-bits (λ d. double F (d * u) ≡ d * double F u) (simp (zero-mul, double-zero)) (simp one-mul) (b % 2) (bit b)

  double-small : (a : ℕ) → a * 2 < size F → double F a ≡ a * 2
  unfolding double
  double-small a h = rw (div-eq_of_lt h, zero-mul) (⊕-zero (a * 2))

  -- ---- the product with n low terms

  times_none : (a b : ℕ) → times F zero a b ≡ 0
  unfolding times
  times_none a b = refl

  times_more : (n a b : ℕ) → times F (suc n) a b ≡ b % 2 * a ⊕ double F (times F n a (b / 2))
  unfolding times
  times_more n a b = refl

  times-⊕ : (n a b c : ℕ) → times F n (a ⊕ b) c ≡ times F n a c ⊕ times F n b c
  times-⊕ zero a b c = simp (times_none, ⊕-zero)
  times-⊕ (suc n) a b c = simp (times_more, times-⊕ n a b (c / 2), bit-⊕, double-⊕, ⊕-four (c % 2 * a))

  times-double : (n a b : ℕ) → times F n (double F a) b ≡ double F (times F n a b)
  times-double zero a b = simp (times_none, double-zero)
  times-double (suc n) a b = simp (times_more, times-double n a (b / 2), double-⊕, double-bit)

  zero-times : (n b : ℕ) → times F n 0 b ≡ 0
  zero-times n b = ap (λ z. times F n z b) (sym (⊕-self 0)) ∙ times-⊕ n 0 0 b ∙ ⊕-self (times F n 0 b)

  times-bit : (n c a b : ℕ) → times F n (c % 2 * a) b ≡ c % 2 * times F n a b
  times-bit n c a b =
      of-bits (λ d. times F n (d * a) b ≡ d * times F n a b) (simp (zero-mul, zero-times)) (simp one-mul) (c % 2) (bit c)

  -- two factors on the right change places
  swap : (n k u a b : ℕ) → times F n (times F k u a) b ≡ times F k (times F n u b) a
  swap zero k u a b = simp (times_none, zero-times)
  swap (suc n) k u a b = simp (times_more, swap n k u a (b / 2), times-⊕, times-double, times-bit)

  -- 1 times b is the low bits of b
  one-times : (n b : ℕ) → n ≤ F.width → times F n 1 b ≡ b % 2 ^ n
  unfolding size
  one-times zero b h = times_none 1 b ∙ sym (mod-one b)
  one-times (suc n) b h =
      let low : b / 2 % 2 ^ n < 2 ^ n = mod-lt (b / 2) (pow_pos n) in
      let small : b / 2 % 2 ^ n * 2 < 2 ^ F.width = omega (arith, pow_mono h) in
      times_more n 1 b
      ∙ rw (one-times n (b / 2) (omega arith), double-small (b / 2 % 2 ^ n) small, mul-one)
      (⊕-digit (b / 2 % 2 ^ n) (b % 2) (bit b) ∙ sym (mod-pow-add b n 1) ∙ ap (λ k. b % 2 ^ k) (add-one n))

  -- ---- the product

  -- both factors on the right of 1
  spread : (a b : ℕ) → mul F a b ≡ times F F.width (times F F.width 1 a) b
  unfolding mul size
  spread a b = ap (λ z. times F F.width z b) (sym (one-times F.width a (le_refl F.width)))

  pub mul_comm : (a b : ℕ) → mul F a b ≡ mul F b a
  mul_comm a b = spread a b ∙ swap F.width F.width 1 a b ∙ sym (spread b a)

  pub ⊕-mul : (a b c : ℕ) → mul F (a ⊕ b) c ≡ mul F a c ⊕ mul F b c
  unfolding mul size
  ⊕-mul a b c = rw (⊕-mod a b F.width, times-⊕)

  low-mul : (a b : ℕ) → mul F (a % size F) b ≡ mul F a b
  unfolding mul
  low-mul a b = ap (λ z. times F F.width z b) (mod-eq_of_lt (mod-lt a size-pos))

  -- the low bits count
  pub mul_low : (a b : ℕ) → mul F (a % size F) (b % size F) ≡ mul F a b
  mul_low a b = low-mul a (b % size F) ∙ mul_comm a (b % size F) ∙ low-mul b a ∙ mul_comm b a

  -- 1 times a is its low bits
  pub one-low : 1 < size F → (a : ℕ) → mul F 1 a ≡ a % size F
  unfolding mul size
  one-low one a = rw (mod-eq_of_lt one) (one-times F.width a (le_refl F.width))

  pub one-mul' : 1 < size F → (a : ℕ) → a < size F → mul F 1 a ≡ a
  one-mul' one a h = one-low one a ∙ mod-eq_of_lt h

  module _ (degree : F.polynomial / size F ≡ 1) where
    double-lt : (a : ℕ) → a < size F → double F a < size F
    unfolding double size
    double-lt a h =
        let top : a * 2 / 2 ^ F.width < 2 = (div-lt_iff_lt-mul (pow_pos F.width)).1 (omega arith) in
        let none : (a * 2 ⊕ a * 2 / 2 ^ F.width % 2 * F.polynomial) / 2 ^ F.width ≡ 0 =
        ⊕-shr (a * 2) (a * 2 / 2 ^ F.width % 2 * F.polynomial) F.width
        ∙ of-bits (λ t. t ⊕ t % 2 * F.polynomial / 2 ^ F.width ≡ 0)
        (rw zero-mul (zero-⊕ (0 / 2 ^ F.width) ∙ div-eq_of_lt (pow_pos F.width)))
        (rw (one-mul, degree) (⊕-self 1))
        (a * 2 / 2 ^ F.width) top in
        rw one-mul at ((div-lt_iff_lt-mul {y = 1} (pow_pos F.width)).0 (le_of_eq (ap suc none)))

    times-lt : (n a b : ℕ) → a < size F → times F n a b < size F
    unfolding size
    times-lt zero a b h = rw times_none (pow_pos F.width)
    times-lt (suc n) a b h =
        rw times_more
        (⊕-lt F.width (b % 2 * a) (double F (times F n a (b / 2)))
        (of-bits (λ d. d * a < 2 ^ F.width) (rw zero-mul (pow_pos F.width)) (rw one-mul h) (b % 2) (bit b))
        (double-lt (times F n a (b / 2)) (times-lt n a (b / 2) h)))

    pub mul-lt : (a b : ℕ) → mul F a b < size F
    unfolding mul
    mul-lt a b = times-lt F.width (a % size F) b (mod-lt a size-pos)

    -- a product as a left factor stands as it is
    twice : (a b c : ℕ) → mul F (mul F a b) c ≡ times F F.width (times F F.width (a % size F) b) c
    unfolding mul
    twice a b c = ap (λ z. times F F.width z c) (mod-eq_of_lt (mul-lt a b))

    pub mul_assoc : (a b c : ℕ) → mul F (mul F a b) c ≡ mul F a (mul F b c)
    mul_assoc a b c =
        ap (λ z. mul F z c) (mul_comm a b) ∙ twice b a c ∙ swap F.width F.width (b % size F) a c ∙ sym (twice b c a)
        ∙ mul_comm (mul F b c) a

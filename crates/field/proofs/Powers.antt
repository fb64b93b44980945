-- Powers and power sums, over any field: the square of a sum of bits, and why distinct locations are independent. Assumes nothing.
use mathlib.Core.Path.{◌≡◌, refl, sym, ap, ap₂, ◌∙◌}
use mathlib.Core.Logic.{◌≢◌}
use mathlib.Core.List.{List, [], ◌∷◌}
use Prim.Native.Nat.{ℕ, zero, suc, ◌+◌, ◌<◌, ◌≤◌}
use native.Mathlib.Omega.{arith}
use lib.ListN.{length}
use Rattle.field.specs.Lists.{weight}
use Rattle.field.specs.Field.{◌⊕◌, Field, size, mul, dot}
use Rattle.field.specs.Power.{power, power_sum}
use Rattle.field.proofs.Sum.{of-bits, ⊕-comm, ⊕-self, ⊕-zero, zero-⊕, ⊕-four, ⊕-cancel}
use Rattle.field.proofs.Exponents as exponents
use Rattle.field.proofs.Laws.{IsField, zero-mul, mul-zero, mul-one, mul-⊕, mul_left_comm, domain}
use Rattle.field.proofs.Words.{EachBelow, Apart, Distinct}

-- each symbol times f of its location
unfoldable scale : Field → (ℕ → ℕ) → List ℕ → List ℕ → List ℕ
scale F f [] w = []
scale F f (x ∷ xs) [] = []
scale F f (x ∷ xs) (c ∷ w) = mul F (f x) c ∷ scale F f xs w

module _ (F : Field) (K : IsField F) where
  open K use {one-lt, sum_lt, product_lt, comm, assoc, distrib, unit}

  -- ---- powers

  pub power-lt : (x p : ℕ) → power F x p < size F
  power-lt = exponents.power-lt F one-lt product_lt comm assoc unit

  pub power-add : (x p r : ℕ) → power F x (p + r) ≡ mul F (power F x p) (power F x r)
  power-add = exponents.power-add F one-lt product_lt comm assoc unit

  -- ---- squares

  pub square-⊕ : (a b : ℕ) → mul F (a ⊕ b) (a ⊕ b) ≡ mul F a a ⊕ mul F b b
  square-⊕ a b =
      rw (distrib a b (a ⊕ b), mul-⊕ F K a a b, mul-⊕ F K b a b, comm b a, ⊕-comm (mul F a b) (mul F b b))
      (⊕-four (mul F a a) (mul F a b) (mul F b b) (mul F a b) ∙ ap (λ z. mul F a a ⊕ mul F b b ⊕ z) (⊕-self (mul F a b)) ∙ ⊕-zero _)

  square-term : (x p c : ℕ) → c < 2 → mul F (mul F (power F x p) c) (mul F (power F x p) c) ≡ mul F (power F x (p + p)) c
  square-term x p c h =
      rw (power-add x p p)
      (of-bits (λ b. mul F (mul F (power F x p) b) (mul F (power F x p) b) ≡ mul F (mul F (power F x p) (power F x p)) b)
      (simp (mul-zero F K))
      (rw (mul-one F K (power F x p) (power-lt x p), mul-one F K _ (product_lt (power F x p) (power F x p))))
      c h)

  -- the square of a power sum of bits is the power sum of twice the exponent
  pub square-sum : (xs w : List ℕ) (p : ℕ) → EachBelow 2 w → mul F (power_sum F xs w p) (power_sum F xs w p) ≡ power_sum F xs w (p + p)
  unfolding power_sum dot
  square-sum [] w p h = zero-mul F K 0
  square-sum (x ∷ xs) [] p h = zero-mul F K 0
  square-sum (x ∷ xs) (c ∷ w) p h =
      square-⊕ (mul F (power F x p) c) (power_sum F xs w p) ∙ ap₂ ◌⊕◌ (square-term x p c h.0) (square-sum xs w p h.1)

  -- ---- a word scaled

  scale-fit : (f : ℕ → ℕ) (xs w : List ℕ) → EachBelow (size F) (scale F f xs w)
  unfolding scale
  scale-fit f [] w = tt
  scale-fit f (x ∷ xs) [] = tt
  scale-fit f (x ∷ xs) (c ∷ w) = (product_lt (f x) c, scale-fit f xs w)

  scale-length : (f : ℕ → ℕ) (xs w : List ℕ) → length w ≡ length xs → length (scale F f xs w) ≡ length xs
  unfolding scale
  scale-length f [] w e = refl
  scale-length f (x ∷ xs) [] e = e
  scale-length f (x ∷ xs) (c ∷ w) e = ap suc (scale-length f xs w (omega arith))

  -- where f is a nonzero element at every element but a, and a is no location, the weight stays
  module _ (f : ℕ → ℕ) (a : ℕ) (f_lt : (x : ℕ) → x < size F → f x < size F) (f-≢ : (x : ℕ) → x < size F → x ≢ a → f x ≢ 0) where
    scale-weight : (xs w : List ℕ) → EachBelow (size F) xs → Apart a xs → EachBelow (size F) w → length w ≡ length xs → weight (scale F f xs w) ≡ weight w
    unfolding scale weight
    scale-weight [] [] hx ne hw e = refl
    scale-weight [] (c ∷ w) hx ne hw e = omega arith
    scale-weight (x ∷ xs) [] hx ne hw e = refl
    scale-weight (x ∷ xs) (zero ∷ w) hx ne hw e =
        rw (mul-zero F K (f x)) (scale-weight xs w hx.1 ne.1 hw.1 (omega arith))
    scale-weight (x ∷ xs) (suc c ∷ w) hx ne hw e =
        go (mul F (f x) (suc c)) refl (scale-weight xs w hx.1 ne.1 hw.1 (omega arith))
      where
        go : (z : ℕ) → mul F (f x) (suc c) ≡ z → weight (scale F f xs w) ≡ weight w → weight (z ∷ scale F f xs w) ≡ suc (weight w)
        go zero z h = absurd (f-≢ x hx.0 ne.0 (domain F K (f x) (suc c) (f_lt x hx.0) hw.0 (omega arith) z))
        go (suc n) z h = ap suc h

  -- ---- one location removed: each symbol times its location's distance from x

  remove-sum : (x : ℕ) (ys w : List ℕ) (p : ℕ)
      → power_sum F ys (scale F (λ y. y ⊕ x) ys w) p ≡ power_sum F ys w (suc p) ⊕ mul F x (power_sum F ys w p)
  unfolding scale power_sum dot power
  remove-sum x [] w p = sym (zero-⊕ (mul F x 0) ∙ mul-zero F K x)
  remove-sum x (y ∷ ys) [] p = sym (zero-⊕ (mul F x 0) ∙ mul-zero F K x)
  remove-sum x (y ∷ ys) (c ∷ w) p =
      simp (remove-sum x ys w p, distrib, mul-⊕ F K, assoc, mul_left_comm F K (power F y p))
      (⊕-four (mul F y (mul F (power F y p) c)) (mul F x (mul F (power F y p) c)) (power_sum F ys w (suc p)) (mul F x (power_sum F ys w p)))

  -- two power sums in a row that vanish with x leave one that vanishes without
  remove-zero : (x c : ℕ) (ys w : List ℕ) (p : ℕ) → power_sum F (x ∷ ys) (c ∷ w) p ≡ 0 → power_sum F (x ∷ ys) (c ∷ w) (suc p) ≡ 0
      → power_sum F ys (scale F (λ y. y ⊕ x) ys w) p ≡ 0
  unfolding power_sum dot power
  remove-zero x c ys w p e f =
      remove-sum x ys w p ∙ ap₂ (λ a b. a ⊕ mul F x b) (sym (⊕-cancel _ _ f)) (sym (⊕-cancel _ _ e))
      ∙ ap (λ z. z ⊕ mul F x (mul F (power F x p) c)) (assoc x (power F x p) c) ∙ ⊕-self _

  sum-weightless : (xs w : List ℕ) (p : ℕ) → weight w ≡ 0 → power_sum F xs w p ≡ 0
  unfolding weight power_sum dot
  sum-weightless [] w p e = refl
  sum-weightless (x ∷ xs) [] p e = refl
  sum-weightless (x ∷ xs) (zero ∷ w) p e = rw (mul-zero F K (power F x p), zero-⊕) (sum-weightless xs w p e)
  sum-weightless (x ∷ xs) (suc c ∷ w) p e = omega arith

  -- ---- distinct locations have independent powers

  -- as many power sums as there are symbols that are not 0 show that there are none
  pub independent : (xs w : List ℕ) (m : ℕ) → Distinct xs → EachBelow (size F) xs → EachBelow (size F) w → length w ≡ length xs → weight w ≤ m
      → ((p : ℕ) → p < m → power_sum F xs w p ≡ 0) → weight w ≡ 0
  unfolding weight power_sum dot power
  independent [] [] m d hx hw e h s = refl
  independent [] (c ∷ w) m d hx hw e h s = omega arith
  independent (x ∷ xs) [] m d hx hw e h s = refl
  independent (x ∷ xs) (zero ∷ w) m d hx hw e h s =
      independent xs w m d.1 hx.1 hw.1 (omega arith) h
      (λ p l. sym (zero-⊕ (power_sum F xs w p)) ∙ ap (λ z. z ⊕ power_sum F xs w p) (sym (mul-zero F K (power F x p))) ∙ s p l)
  independent (x ∷ xs) (suc c ∷ w) zero d hx hw e h s = omega arith
  independent (x ∷ xs) (suc c ∷ w) (suc m) d hx hw e h s =
      let f : ℕ → ℕ = λ y. y ⊕ x in
      let same : weight (scale F f xs w) ≡ weight w =
      scale-weight f x (λ y l. sum_lt y x l hx.0) (λ y l ne z. ne (⊕-cancel y x z)) xs w hx.1 d.0 hw.1 (omega arith) in
      let none : weight (scale F f xs w) ≡ 0 =
      independent xs (scale F f xs w) m d.1 hx.1 (scale-fit f xs w) (scale-length f xs w (omega arith)) (omega arith)
      (λ p l. remove-zero x (suc c) xs w p (s p (omega arith)) (s (suc p) (omega arith))) in
      let alone : mul F 1 (suc c) ≡ 0 = ⊕-cancel _ _ (s 0 (omega arith)) ∙ sum-weightless xs w 0 (sym same ∙ none) in
      omega (arith, sym (unit (suc c) hw.0) ∙ alone)

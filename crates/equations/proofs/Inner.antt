-- Sums of products of two vectors. Assumes nothing.
use mathlib.Core.Path.{◌≡◌, refl, sym, ap, ap₂, ◌∙◌}
use mathlib.Core.Logic.{◌≢◌}
use Prim.Native.Nat.{ℕ, zero, suc, ◌+◌, ◌<◌}
use native.Mathlib.Numerals.{add-one}
use native.Mathlib.Decide.{ℕ_discrete}
use native.Mathlib.Omega.{arith}
use borrow.Author.Tests.{eq-eqb, ne_eqb}
use lib.Dec.{eqb}
use Rattle.field.specs.Lists.{when◌then◌else◌}
use Rattle.field.specs.Field.{Field, ◌⊕◌, size, mul}
use Rattle.field.proofs.Sum.{⊕-assoc, ⊕-comm, ⊕-four, ⊕-three, ⊕-zero, zero-⊕}
use Rattle.field.proofs.Laws.{IsField, size-pos, mul-zero, mul-⊕}
use Rattle.equations.specs.System.{inner}

pub inner-more : (F : Field) (f z : ℕ → ℕ) (n : ℕ) → inner F f z n ⊕ mul F (f n) (z n) ≡ inner F f z (n + 1)
unfolding inner
inner-more F f z n = rw (add-one n)

-- x, with b in place k
pub put : (ℕ → ℕ) → ℕ → ℕ → ℕ → ℕ
put x k b j = when eqb j k then b else x j

pub put_same : (x : ℕ → ℕ) (k b : ℕ) → put x k b k ≡ b
unfolding put when◌then◌else◌
put_same x k b = ap (λ t. when t then b else x k) (eq-eqb k k refl)

pub put_other : (x : ℕ → ℕ) (k b j : ℕ) → j ≢ k → put x k b j ≡ x j
unfolding put when◌then◌else◌
put_other x k b j ne = ap (λ t. when t then b else x j) (ne_eqb j k ne)

pub put-lt : (q : ℕ) (x : ℕ → ℕ) (k b : ℕ) → ((j : ℕ) → x j < q) → b < q → (j : ℕ) → put x k b j < q
put-lt q x k b hx hb j = elim (ℕ_discrete j k) [ yes e ↦ rw (e, put_same x k b) hb | no ne ↦ rw (put_other x k b j ne) (hx j) ]

-- the first product apart
pub inner_first : (F : Field) (f z : ℕ → ℕ) (n : ℕ) → inner F f z (suc n) ≡ mul F (f 0) (z 0) ⊕ inner F (λ j. f (suc j)) (λ j. z (suc j)) n
unfolding inner
inner_first F f z zero = ⊕-comm 0 (mul F (f 0) (z 0))
inner_first F f z (suc n) = ap (λ x. x ⊕ mul F (f (suc n)) (z (suc n))) (inner_first F f z n) ∙ ⊕-assoc _ _ _

-- equal products, entry by entry
pub inner-same : (F : Field) (f z g y : ℕ → ℕ) (n : ℕ) → ((j : ℕ) → j < n → mul F (f j) (z j) ≡ mul F (g j) (y j)) → inner F f z n ≡ inner F g y n
unfolding inner
inner-same F f z g y zero h = refl
inner-same F f z g y (suc n) h = ap₂ ◌⊕◌ (inner-same F f z g y n (λ j l. h j (omega arith))) (h n (omega arith))

pub inner-zero : (F : Field) (f z : ℕ → ℕ) (n : ℕ) → ((j : ℕ) → j < n → mul F (f j) (z j) ≡ 0) → inner F f z n ≡ 0
unfolding inner
inner-zero F f z zero h = refl
inner-zero F f z (suc n) h = ap₂ ◌⊕◌ (inner-zero F f z n (λ j l. h j (omega arith))) (h n (omega arith)) ∙ ⊕-zero 0

-- products that are equal but for place p, where there is v more
pub inner-but : (F : Field) (f z g y : ℕ → ℕ) (p v n : ℕ) → p < n → ((j : ℕ) → j < n → j ≢ p → mul F (f j) (z j) ≡ mul F (g j) (y j))
    → mul F (f p) (z p) ≡ mul F (g p) (y p) ⊕ v → inner F f z n ≡ inner F g y n ⊕ v
unfolding inner
inner-but F f z g y p v zero l h e = absurd (omega arith)
inner-but F f z g y p v (suc n) l h e =
    elim (ℕ_discrete p n) [
      | yes g' ↦ rw (← g')
          (ap₂ ◌⊕◌ (inner-same F f z g y p (λ j b. h j (omega arith) (omega arith))) e ∙ sym (⊕-assoc _ _ _))
      | no ne ↦ ap₂ ◌⊕◌ (inner-but F f z g y p v n (omega arith) (λ j b. h j (omega arith)) e) (h n (omega arith) (omega arith)) ∙ ⊕-three _ _ _
    ]

module _ (F : Field) (K : IsField F) where
  pub inner-lt : (f z : ℕ → ℕ) (n : ℕ) → inner F f z n < size F
  unfolding inner
  inner-lt f z zero = size-pos F K
  inner-lt f z (suc n) = K.sum_lt _ _ (inner-lt f z n) (K.product_lt _ _)

  -- the sum of one row and c times another
  pub inner-row : (h f g z : ℕ → ℕ) (c n : ℕ) → ((j : ℕ) → j < n → h j ≡ f j ⊕ mul F c (g j))
      → inner F h z n ≡ inner F f z n ⊕ mul F c (inner F g z n)
  unfolding inner
  inner-row h f g z c zero e = sym (ap (λ x. 0 ⊕ x) (mul-zero F K c) ∙ ⊕-zero 0)
  inner-row h f g z c (suc n) e =
      ap₂ ◌⊕◌ (inner-row h f g z c n (λ j l. e j (omega arith)))
      (ap (λ x. mul F x (z n)) (e n (omega arith)) ∙ K.distrib _ _ _ ∙ ap (λ x. mul F (f n) (z n) ⊕ x) (K.assoc _ _ _))
      ∙ ⊕-four _ _ _ _ ∙ ap (λ x. inner F f z n ⊕ mul F (f n) (z n) ⊕ x) (sym (mul-⊕ F K _ _ _))

  -- a vector that has v more at place p
  pub inner-put : (f z y : ℕ → ℕ) (p v n : ℕ) → p < n → ((j : ℕ) → j ≢ p → y j ≡ z j) → y p ≡ z p ⊕ v
      → inner F f y n ≡ inner F f z n ⊕ mul F (f p) v
  inner-put f z y p v n l h e =
      inner-but F f y f z p (mul F (f p) v) n l (λ j _ ne. ap (mul F (f j)) (h j ne)) (ap (mul F (f p)) e ∙ mul-⊕ F K _ _ _)

  -- only place p counts
  pub inner-one : (f z : ℕ → ℕ) (p n : ℕ) → p < n → ((j : ℕ) → j < n → j ≢ p → mul F (f j) (z j) ≡ 0) → inner F f z n ≡ mul F (f p) (z p)
  inner-one f z p n l h =
      inner-but F f z f (λ _. 0) p (mul F (f p) (z p)) n l (λ j b ne. h j b ne ∙ sym (mul-zero F K _))
      (sym (ap (λ x. x ⊕ mul F (f p) (z p)) (mul-zero F K _) ∙ zero-⊕ _))
      ∙ ap (λ x. x ⊕ mul F (f p) (z p)) (inner-zero F f (λ _. 0) n (λ j _. mul-zero F K _)) ∙ zero-⊕ _

  -- z counts at the k places of `at` apart, which b leaves 0; elsewhere the two agree
  pub inner-split : (at : ℕ → ℕ) (k n : ℕ) (f z b : ℕ → ℕ) → ((t : ℕ) → t < k → at t < n) → ((t : ℕ) → t < k → (s : ℕ) → s < t → at s ≢ at t)
      → ((t : ℕ) → t < k → b (at t) ≡ 0) → ((c : ℕ) → c < n → ((t : ℕ) → t < k → at t ≢ c) → z c ≡ b c)
      → inner F f z n ≡ inner F f b n ⊕ inner F (λ t. f (at t)) (λ t. z (at t)) k
  unfolding inner
  inner-split at zero n f z b within apart hole same =
      inner-same F f z f b n (λ c l. ap (mul F (f c)) (same c l (λ t h. absurd (omega arith)))) ∙ sym (⊕-zero _)
  inner-split at (suc k) n f z b within apart hole same =
      inner-put f y z (at k) (z (at k)) n (within k (omega arith)) (λ c ne. sym (put_other z (at k) 0 c ne))
      (sym (ap (λ x. x ⊕ z (at k)) (put_same z (at k) 0) ∙ zero-⊕ _))
      ∙ ap (λ x. x ⊕ mul F (f (at k)) (z (at k)))
      (inner-split at k n f y b (λ t l. within t (omega arith)) (λ t l. apart t (omega arith)) (λ t l. hole t (omega arith)) rest
      ∙ ap (λ x. inner F f b n ⊕ x)
      (inner-same F _ _ _ _ k (λ t l. ap (mul F (f (at t))) (put_other z (at k) 0 (at t) (apart k (omega arith) t l)))))
      ∙ ⊕-assoc _ _ _
    where
      y : ℕ → ℕ
      y = put z (at k) 0

      rest : (c : ℕ) → c < n → ((t : ℕ) → t < k → at t ≢ c) → put z (at k) 0 c ≡ b c
      rest c l off = elim (ℕ_discrete c (at k)) [
        | yes e ↦ rw e (put_same z (at k) 0 ∙ sym (hole k (omega arith)))
        | no ne ↦ put_other z (at k) 0 c ne
            ∙ same c l (λ t h. elim (ℕ_discrete t k) [ yes g ↦ λ e. ne (sym e ∙ ap at g) | no nt ↦ off t (omega arith) ])
      ]

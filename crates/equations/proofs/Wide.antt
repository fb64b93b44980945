-- More columns than equations are dependent, over any field. Assumes nothing.
use mathlib.Core.Path.{◌≡◌, refl, sym, ap, ap₂, ◌∙◌}
use mathlib.Core.Logic.{◌≢◌, ◌⊎◌, inl, inr, ⊎_elim}
use Prim.Native.Nat.{ℕ, zero, suc, ◌<◌}
use native.Mathlib.Decide.{ℕ_discrete}
use native.Mathlib.Omega.{arith}
use Rattle.field.specs.Field.{Field, ◌⊕◌, size, mul, inverse}
use Rattle.field.proofs.Sum.{⊕-self}
use Rattle.field.proofs.Laws.{IsField, size-pos, zero-mul, mul-zero}
use Rattle.equations.specs.System.{Matrix, inner, Elements, Ker}
use Rattle.equations.proofs.Inner.{put, put_same, put_other, put-lt, inner-same, inner-zero, inner-row, inner-one}

-- the first rows are 0 in column c, or one of them is not
none_or_some : (M : Matrix) (m c : ℕ) → ((i : ℕ) → i < m → M i c ≡ 0) ⊎ ((p : ℕ) × (p < m) × (M p c ≢ 0))
none_or_some M zero c = inl (λ i l. absurd (omega arith))
none_or_some M (suc m) c =
    ⊎_elim
    (λ h. elim (ℕ_discrete (M m c) 0) [
      | yes e ↦ inl (λ i l. elim (ℕ_discrete i m) [ yes g ↦ rw g e | no ne ↦ h i (omega arith) ])
      | no ne ↦ inr (m, omega arith, ne)
    ])
    (λ s. inr (s.0, omega (arith, s.1), s.2))
    (none_or_some M m c)

module _ (F : Field) (K : IsField F) where
  -- a vector that is not zero and that the rows give 0 with
  abbrev pub Loose : Matrix → ℕ → ℕ → Type 0
  Loose M m k = (z : ℕ → ℕ) × Elements F z × ((j : ℕ) × (j < k) × (z j ≢ 0)) × Ker F M m k z

  -- where the last column is 0, its unit vector is one
  unit : (M : Matrix) (m k : ℕ) → ((i : ℕ) → i < m → M i k ≡ 0) → Loose M m (suc k)
  unit M m k h = (
    z,
    put-lt (size F) (λ _. 0) k 1 (λ j. size-pos F K) K.one-lt,
    (k, omega arith, λ e. omega (arith, put_same (λ _. 0) k 1, e)),
    λ i l. inner-one F K (M i) z k (suc k) (omega arith) (λ j _ ne. ap (mul F (M i j)) (put_other (λ _. 0) k 1 j ne) ∙ mul-zero F K _)
        ∙ ap (λ x. mul F x (z k)) (h i l) ∙ zero-mul F K _,
  )
    where
      z : ℕ → ℕ
      z = put (λ _. 0) k 1

  -- where row p is not 0 in the last column, clear the others there and leave row p out: the last row takes its place
  module _ (k m p : ℕ) (M : Matrix) (small : (i j : ℕ) → M i j < size F) (lp : p < suc m) (nz : M p k ≢ 0) where
    factor : ℕ → ℕ
    factor i = mul F (M i k) (inverse F (M p k))

    cleared : Matrix
    cleared i j = M i j ⊕ mul F (factor i) (M p j)

    fewer : Matrix
    fewer i j = put (λ x. cleared x j) p (cleared m j) i

    cleared-lt : (i j : ℕ) → cleared i j < size F
    unfolding cleared
    cleared-lt i j = K.sum_lt _ _ (small i j) (K.product_lt _ _)

    fewer-lt : (i j : ℕ) → fewer i j < size F
    unfolding fewer
    fewer-lt i j = put-lt (size F) (λ x. cleared x j) p (cleared m j) (λ x. cleared-lt x j) (cleared-lt m j) i

    own_row : (j : ℕ) → cleared p j ≡ 0
    unfolding cleared factor
    own_row j =
        ap (λ x. M p j ⊕ mul F x (M p j)) (K.inverts (M p k) (small p k) nz) ∙ ap (λ x. M p j ⊕ x) (K.unit (M p j) (small p j)) ∙ ⊕-self (M p j)

    module _ (y : ℕ → ℕ) (ker : Ker F fewer m k y) where
      all-vanish : (i : ℕ) → i < suc m → inner F (cleared i) y k ≡ 0
      unfolding fewer
      all-vanish i l = elim (ℕ_discrete i p) [
        | yes e ↦ rw e (inner-zero F (cleared p) y k (λ j _. ap (λ x. mul F x (y j)) (own_row j) ∙ zero-mul F K _))
        | no ne ↦ elim (ℕ_discrete i m) [
          | yes e ↦ rw e (inner-same F (cleared m) y (fewer p) y k (λ j _. ap (λ x. mul F x (y j)) (sym (put_same (λ x. cleared x j) p (cleared m j))))
              ∙ ker p (omega arith))
          | no nm ↦
              inner-same F (cleared i) y (fewer i) y k (λ j _. ap (λ x. mul F x (y j)) (sym (put_other (λ x. cleared x j) p (cleared m j) i ne)))
              ∙ ker i (omega arith)
        ]
      ]

      last : ℕ
      last = mul F (inverse F (M p k)) (inner F (M p) y k)

      extended : Ker F M (suc m) (suc k) (put y k last)
      unfolding inner last factor cleared
      extended i l =
          ap₂ ◌⊕◌ (inner-same F (M i) (put y k last) (M i) y k (λ j b. ap (mul F (M i j)) (put_other y k last j (omega arith))))
          (ap (mul F (M i k)) (put_same y k last) ∙ sym (K.assoc _ _ _))
          ∙ sym (inner-row F K (cleared i) (M i) (M p) y (factor i) k (λ j _. refl)) ∙ all-vanish i l

    wider : Loose fewer m k → Loose M (suc m) (suc k)
    unfolding last
    wider (y, small-y, (j, lj, nj), ker) = (
      put y k (last y ker),
      put-lt (size F) y k (last y ker) small-y (K.product_lt _ _),
      (j, omega arith, λ e. nj (sym (put_other y k _ j (omega arith)) ∙ e)),
      extended y ker,
    )

  -- so there is one wherever there are more columns than rows
  pub wide-loose : (k m : ℕ) (M : Matrix) → m < k → ((i j : ℕ) → M i j < size F) → Loose M m k
  wide-loose zero m M l small = absurd (omega arith)
  wide-loose (suc k) zero M l small = unit M zero k (λ i l. absurd (omega arith))
  wide-loose (suc k) (suc m) M l small =
      ⊎_elim (unit M (suc m) k)
      (λ s. wider k m s.0 M small s.1 s.2
      (wide-loose k m (fewer k m s.0 M small s.1 s.2) (omega arith) (fewer-lt k m s.0 M small s.1 s.2)))
      (none_or_some M (suc m) k)

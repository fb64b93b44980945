-- Square systems: the marked columns are independent and no fewer than the checks, so every target is met. And matrices over any field, as lists
-- of rows: where one undoes the columns, they are independent. Assumes nothing.
use mathlib.Core.Path.{◌≡◌, sym, ap, ◌∙◌, subst, refl, ap₂}
use mathlib.Core.Bool.{Bool}
use mathlib.Core.List.{List, [], map, ◌∷◌}
use Prim.Native.Nat.{ℕ, ◌≤◌, zero, suc}
use lib.Dec.{T, T_not}
use lib.ListN.{length, replicate}
use Rattle.field.specs.Field.{Field, ◌⊕◌, size, mul, dot}
use Rattle.field.proofs.Laws.{IsField, zero-mul}
use Rattle.fills.specs.Lists.{vanish, plus}
use Rattle.fills.specs.Fill.{sums_of}
use Rattle.fills.proofs.Choices.{are_symbols}
use Rattle.fills.proofs.Spread.{symbols-fit, square-met, filling-over}
use Rattle.fills.proofs.Filling.{Dependency, Independent, independent-of, Filling}
use Rattle.fills.proofs.Vectors.{sums-count, plus-length, dot-comm, dot-plus, dot-scaled, dot-zeros}
use Rattle.fills.proofs.Weights.{marked, agrees-fit}
use Rattle.fills.proofs.Picked.{picked, put, agrees-put, picked_fit, picked-length, put-vanish, sums-picked, sums-vanish, sums-fit, plus-fit}
use Rattle.field.proofs.Sum.{⊕-zero, zero-⊕}
use Rattle.field.proofs.Words.{EachBelow}

-- ---- matrices

-- the sum of the rows, each times its coefficient
unfoldable pub combine : Field → List ℕ → List (List ℕ) → List ℕ
combine F [] rows = []
combine F (k ∷ ks) [] = []
combine F (k ∷ ks) (r ∷ rs) = plus (map (mul F k) r) (combine F ks rs)

unfoldable pub product : Field → List (List ℕ) → List (List ℕ) → List (List ℕ)
product F A C = map (λ a. combine F a C) A

unfoldable pub identity : ℕ → List (List ℕ)
identity zero = []
identity (suc n) = (1 ∷ replicate n 0) ∷ map (λ r. 0 ∷ r) (identity n)

module _ (F : Field) (K : IsField F) where
  -- sums of sums are those of the combined rows
  dot-combine : (ks : List ℕ) (rows : List (List ℕ)) (u : List ℕ) → dot F ks (sums_of F rows u) ≡ dot F (combine F ks rows) u
  unfolding dot sums_of combine
  dot-combine [] rows u = refl
  dot-combine (k ∷ ks) [] u = refl
  dot-combine (k ∷ ks) (r ∷ rs) u =
      ap₂ ◌⊕◌ (sym (dot-scaled F K k r u)) (dot-combine ks rs u)
      ∙ sym (dot-comm F (plus (map (mul F k) r) (combine F ks rs)) u ∙ dot-plus F u (map (mul F k) r) (combine F ks rs)
      ∙ ap₂ ◌⊕◌ (dot-comm F u (map (mul F k) r)) (dot-comm F u (combine F ks rs)))

  sums-product : (A C : List (List ℕ)) (u : List ℕ) → sums_of F A (sums_of F C u) ≡ sums_of F (product F A C) u
  unfolding sums_of product
  sums-product [] C u = refl
  sums-product (a ∷ A) C u = ap₂ ◌∷◌ (dot-combine a C u) (sums-product A C u)

  sums-identity : (u : List ℕ) → EachBelow (size F) u → sums_of F (identity (length u)) u ≡ u
  unfolding sums_of identity dot
  sums-identity [] h = refl
  sums-identity (x ∷ u) h =
      ap₂ ◌∷◌ (ap₂ ◌⊕◌ (K.unit x h.0) (dot-zeros F K (length u) u) ∙ ⊕-zero x) (below (identity (length u)) ∙ sums-identity u h.1)
    where
      below : (rows : List (List ℕ)) → sums_of F (map (λ r. 0 ∷ r) rows) (x ∷ u) ≡ sums_of F rows u
      below [] = refl
      below (r ∷ rows) = ap₂ ◌∷◌ (ap (λ z. z ⊕ dot F r u) (zero-mul F K x) ∙ zero-⊕ (dot F r u)) (below rows)

  -- an inverse undoes
  pub undone : (A C : List (List ℕ)) (u : List ℕ) → EachBelow (size F) u → product F A C ≡ identity (length u) → sums_of F A (sums_of F C u) ≡ u
  undone A C u h e = sums-product A C u ∙ ap (λ M. sums_of F M u) e ∙ sums-identity u h

-- ---- square systems

pub record Square (F : Field) (checks : List (List ℕ)) (ms : List Bool) : Type 0 where
  pub independent : Independent F checks ms
  pub enough : length checks ≤ marked ms

-- the columns at the marks, as rows of coefficients
abbrev pub columns_at : List Bool → List (List ℕ) → List (List ℕ)
columns_at ms checks = map (picked ms) checks

module _ (F : Field) (K : IsField F) (checks : List (List ℕ)) (ms : List Bool) where
  pub met : Square F checks ms → (target v : List ℕ) → length target ≡ length checks → T (are_symbols F target) → (y : List ℕ) × Filling F checks target ms v y
  met square target v long symbols =
      let others = sums_of F checks (put ms [] v) in
      let count = sums-count F checks (put ms [] v) in
      let r =
      square-met F K checks ms (plus target others) square.independent square.enough (plus-length target others (long ∙ sym count) ∙ count)
      (plus-fit F K target others (symbols-fit F target symbols) (sums-fit F K checks (put ms [] v))) in
      (_, filling-over F K checks target ms v r.0 long r.1 r.2)

  -- where a matrix undoes the columns, they are independent
  pub by-inverse : (inverse : List (List ℕ)) → product F inverse (columns_at ms checks) ≡ identity (marked ms) → length checks ≤ marked ms
      → Square F checks ms
  by-inverse inverse undoes enough = record { independent = independent-of F checks ms none; enough = enough }
    where
      none : (w : List ℕ) → Dependency F checks ms w → ⊥
      none w d =
          let u = picked ms w in
          let back : sums_of F inverse (sums_of F (columns_at ms checks) u) ≡ u =
          undone F K inverse (columns_at ms checks) u (picked_fit F K ms w (agrees-fit F ms w d.agrees)) (undoes ∙ ap identity (sym (picked-length ms w))) in
          let zero-sums : T (vanish (sums_of F (columns_at ms checks) u)) =
          subst (λ s. T (vanish s)) (ap (sums_of F checks) (agrees-put F K ms w d.agrees) ∙ sums-picked F K checks ms u) d.vanishes in
          T_not (vanish w) d.nonzero
          (subst (λ w. T (vanish w)) (sym (agrees-put F K ms w d.agrees))
          (put-vanish ms u (subst (λ u. T (vanish u)) back (sums-vanish F K inverse _ zero-sums))))

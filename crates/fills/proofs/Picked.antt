-- The entries of a vector at its marks: picked, put in their places, and what they add to the sums. Assumes nothing.
use mathlib.Core.Path.{◌≡◌, refl, sym, ap, ap₂, ◌∙◌}
use mathlib.Core.Bool.{Bool, true, false}
use mathlib.Core.List.{List, [], ◌∷◌, map}
use Prim.Native.Nat.{ℕ, suc}
use native.Mathlib.Nat.{suc_inj}
use native.Mathlib.Omega.{arith}
use lib.Dec.{T, eqb, eqb→eq}
use lib.ListN.{length}
use Rattle.field.specs.Lists.{when◌then◌else◌}
use Rattle.field.specs.Field.{◌⊕◌, Field, size, mul, dot}
use Rattle.field.proofs.Sum.{⊕-assoc, ⊕-self, ⊕-zero, zero-⊕, ⊕-left-comm}
use Rattle.field.proofs.Laws.{IsField, zero-mul, mul-zero, size-pos, dot-lt}
use Rattle.field.proofs.Test.{both_left, both_right, both}
use Rattle.field.proofs.Words.{EachBelow}
use Rattle.fills.specs.Lists.{all, only, zeros, vanish, first, rest, plus}
use Rattle.fills.specs.Fill.{sums_of}
use Rattle.fills.proofs.Choices.{Agrees}
use Rattle.fills.proofs.Vectors.{dot-comm}
use Rattle.fills.proofs.Weights.{marked}

-- ---- vectors at the marks

-- the entries at the marks
unfoldable pub picked : List Bool → List ℕ → List ℕ
picked [] v = []
picked (true ∷ ms) v = first v ∷ picked ms (rest v)
picked (false ∷ ms) v = picked ms (rest v)

-- v with the entries of u at the marks
unfoldable pub put : List Bool → List ℕ → List ℕ → List ℕ
put [] u v = []
put (true ∷ ms) u v = first u ∷ put ms (rest u) (rest v)
put (false ∷ ms) u v = first v ∷ put ms u (rest v)

pub picked-length : (ms : List Bool) (w : List ℕ) → length (picked ms w) ≡ marked ms
unfolding when◌then◌else◌ only picked
picked-length [] w = refl
picked-length (true ∷ ms) w = ap suc (picked-length ms (rest w))
picked-length (false ∷ ms) w = picked-length ms (rest w)

pub put-vanish : (ms : List Bool) (u : List ℕ) → T (vanish u) → T (vanish (put ms u []))
unfolding all vanish first rest put
put-vanish [] u t = tt
put-vanish (true ∷ ms) [] t = put-vanish ms [] t
put-vanish (true ∷ ms) (x ∷ u) t =
    both (eqb x 0) (vanish (put ms u [])) (both_left (eqb x 0) (vanish u) t) (put-vanish ms u (both_right (eqb x 0) (vanish u) t))
put-vanish (false ∷ ms) u t = put-vanish ms u t

vanish-[] : T (vanish [])
unfolding all vanish
vanish-[] = tt

module _ (F : Field) (K : IsField F) where
  -- ---- sums

  pub dot-vanish : (c u : List ℕ) → T (vanish u) → dot F c u ≡ 0
  unfolding all vanish dot
  dot-vanish [] u t = refl
  dot-vanish (k ∷ c) [] t = refl
  dot-vanish (k ∷ c) (x ∷ u) t =
      ap₂ ◌⊕◌ (ap (mul F k) (eqb→eq x 0 (both_left (eqb x 0) (vanish u) t)) ∙ mul-zero F K k) (dot-vanish c u (both_right (eqb x 0) (vanish u) t))
      ∙ ⊕-self 0

  dot-right : (c : List ℕ) (x : ℕ) (u : List ℕ) → dot F c (x ∷ u) ≡ mul F (first c) x ⊕ dot F (rest c) u
  unfolding first rest dot
  dot-right [] x u = sym (ap (λ z. z ⊕ 0) (zero-mul F K x) ∙ ⊕-self 0)
  dot-right (k ∷ c) x u = refl

  dot-left : (k : ℕ) (c u : List ℕ) → dot F (k ∷ c) u ≡ mul F k (first u) ⊕ dot F c (rest u)
  dot-left k c u = dot-comm F (k ∷ c) u ∙ dot-right u k c ∙ ap₂ ◌⊕◌ (K.comm (first u) k) (dot-comm F (rest u) c)

  -- ---- entries at the marks

  pub put-agrees : (ms : List Bool) (u v : List ℕ) → EachBelow (size F) u → Agrees F ms v (put ms u v)
  unfolding first rest put
  put-agrees [] u v h = refl
  put-agrees (true ∷ ms) [] v h = (size-pos F K, put-agrees ms [] (rest v) h)
  put-agrees (true ∷ ms) (x ∷ u) v h = (h.0, put-agrees ms u (rest v) h.1)
  put-agrees (false ∷ ms) u v h = (refl, put-agrees ms u (rest v) h)

  pub agrees-put : (ms : List Bool) (w : List ℕ) → Agrees F ms (zeros ms) w → w ≡ put ms (picked ms w) []
  unfolding zeros first rest picked put
  agrees-put [] w a = a
  agrees-put (m ∷ ms) [] a = absurd a
  agrees-put (true ∷ ms) (y ∷ w) a = ap (λ t. y ∷ t) (agrees-put ms w a.1)
  agrees-put (false ∷ ms) (y ∷ w) a = ap₂ ◌∷◌ a.0 (agrees-put ms w a.1)

  pub picked_fit : (ms : List Bool) (w : List ℕ) → EachBelow (size F) w → EachBelow (size F) (picked ms w)
  unfolding first rest picked
  picked_fit [] w h = tt
  picked_fit (true ∷ ms) [] h = (size-pos F K, picked_fit ms [] h)
  picked_fit (true ∷ ms) (x ∷ w) h = (h.0, picked_fit ms w h.1)
  picked_fit (false ∷ ms) [] h = picked_fit ms [] h
  picked_fit (false ∷ ms) (x ∷ w) h = picked_fit ms w h.1

  -- the sum of the marked entries, and that of the others
  dot-put : (c : List ℕ) (ms : List Bool) (u v : List ℕ) → dot F c (put ms u v) ≡ dot F (picked ms c) u ⊕ dot F c (put ms [] v)
  unfolding first rest dot picked put
  dot-put c [] u v = sym (zero-⊕ (dot F c []))
  dot-put c (true ∷ ms) u v =
      dot-right c (first u) (put ms (rest u) (rest v))
      ∙ ap (λ z. mul F (first c) (first u) ⊕ z) (dot-put (rest c) ms (rest u) (rest v))
      ∙ sym (⊕-assoc (mul F (first c) (first u)) (dot F (picked ms (rest c)) (rest u)) (dot F (rest c) (put ms [] (rest v))))
      ∙ sym (ap₂ ◌⊕◌ (dot-left (first c) (picked ms (rest c)) u)
      (dot-right c 0 (put ms [] (rest v)) ∙ ap (λ z. z ⊕ dot F (rest c) (put ms [] (rest v))) (mul-zero F K (first c)) ∙ zero-⊕ _))
  dot-put c (false ∷ ms) u v =
      dot-right c (first v) (put ms u (rest v))
      ∙ ap (λ z. mul F (first c) (first v) ⊕ z) (dot-put (rest c) ms u (rest v))
      ∙ ⊕-left-comm (mul F (first c) (first v)) (dot F (picked ms (rest c)) u) (dot F (rest c) (put ms [] (rest v)))
      ∙ ap (λ z. dot F (picked ms (rest c)) u ⊕ z) (sym (dot-right c (first v) (put ms [] (rest v))))

  -- where the others are 0, the marked entries alone count
  pub sums-picked : (checks : List (List ℕ)) (ms : List Bool) (u : List ℕ) → sums_of F checks (put ms u []) ≡ sums_of F (map (picked ms) checks) u
  unfolding sums_of
  sums-picked [] ms u = refl
  sums-picked (c ∷ checks) ms u =
      ap₂ ◌∷◌
      (dot-put c ms u [] ∙ ap (λ z. dot F (picked ms c) u ⊕ z) (dot-vanish c (put ms [] []) (put-vanish ms [] vanish-[])) ∙ ⊕-zero _)
      (sums-picked checks ms u)

  pub sums-vanish : (A : List (List ℕ)) (u : List ℕ) → T (vanish u) → T (vanish (sums_of F A u))
  unfolding sums_of all vanish
  sums-vanish [] u t = tt
  sums-vanish (a ∷ A) u t = both (eqb (dot F a u) 0) (vanish (sums_of F A u)) (rw (dot-vanish a u t) tt) (sums-vanish A u t)

  pub sums-fit : (A : List (List ℕ)) (u : List ℕ) → EachBelow (size F) (sums_of F A u)
  unfolding sums_of
  sums-fit [] u = tt
  sums-fit (a ∷ A) u = (dot-lt F K a u, sums-fit A u)

  pub plus-fit : (a b : List ℕ) → EachBelow (size F) a → EachBelow (size F) b → EachBelow (size F) (plus a b)
  plus-fit [] b h k = k
  plus-fit (x ∷ a) [] h k = h
  plus-fit (x ∷ a) (y ∷ b) h k = (K.sum_lt x y h.0 k.0, plus-fit a b h.1 k.1)

-- the same vector twice is nothing
pub plus-undo : (a b : List ℕ) → length a ≡ length b → plus (plus a b) b ≡ a
plus-undo [] [] e = refl
plus-undo [] (y ∷ b) e = absurd (omega arith)
plus-undo (x ∷ a) [] e = refl
plus-undo (x ∷ a) (y ∷ b) e = ap₂ ◌∷◌ (⊕-assoc x y y ∙ ap (λ z. x ⊕ z) (⊕-self y) ∙ ⊕-zero x) (plus-undo a b (suc_inj e))

-- The sum of two vectors, and the sums of vectors under checks. Assumes nothing.
use mathlib.Core.Path.{◌≡◌, refl, sym, ap, ap₂, ◌∙◌, subst}
use mathlib.Core.Bool.{Bool, true, false}
use mathlib.Core.List.Memᴰ
use mathlib.Core.List.{List, [], ◌∷◌, ◌++◌, map, map-append}
use Prim.Native.Nat.{ℕ, zero, suc}
use native.Mathlib.Nat.{suc_inj}
use native.Mathlib.Omega.{arith}
use lib.Dec.{T, eqb, eqb→eq}
use lib.ListN.{length, get_or, replicate, length-map}
use Rattle.field.specs.Field.{◌⊕◌, Field, size, mul, dot}
use Rattle.field.proofs.Sum.{⊕-self, ⊕-zero, zero-⊕, ⊕-four, ⊕-cancel, ⊕-lt}
use Rattle.field.proofs.Test.{both_left, both_right, both}
use Rattle.field.proofs.Ring.{mul_comm, ⊕-mul}
use Rattle.field.proofs.Laws.{IsField, zero-mul, mul-zero, mul-⊕}
use Rattle.fills.specs.Lists.{all, zeros, vanish, first, rest, plus}
use Rattle.fills.specs.Fill.{sums_of}
use Rattle.fills.proofs.Tests.{In, all_in, all_left}
use Rattle.fills.proofs.Choices.{Allowed, Agrees}

pub plus-length : (a b : List ℕ) → length a ≡ length b → length (plus a b) ≡ length b
plus-length [] b e = refl
plus-length (x ∷ a) [] e = e
plus-length (x ∷ a) (y ∷ b) e = ap suc (plus-length a b (suc_inj e))

pub plus-at : (a b : List ℕ) (i : ℕ) → get_or (plus a b) i 0 ≡ get_or a i 0 ⊕ get_or b i 0
plus-at [] b i = sym (zero-⊕ (get_or b i 0))
plus-at (x ∷ a) [] i = sym (⊕-zero (get_or (x ∷ a) i 0))
plus-at (x ∷ a) (y ∷ b) zero = refl
plus-at (x ∷ a) (y ∷ b) (suc i) = plus-at a b i

pub plus-self : (y : List ℕ) → T (vanish (plus y y))
unfolding vanish all
plus-self [] = tt
plus-self (y ∷ ys) = both (eqb (y ⊕ y) 0) (vanish (plus ys ys)) (subst (λ n. T (eqb n 0)) (sym (⊕-self y)) tt) (plus-self ys)

-- only equal vectors cancel
pub plus-cancel : (y z : List ℕ) → length y ≡ length z → T (vanish (plus y z)) → y ≡ z
unfolding vanish all
plus-cancel [] [] l t = refl
plus-cancel [] (z ∷ zs) l t = absurd (omega arith)
plus-cancel (y ∷ ys) [] l t = absurd (omega arith)
plus-cancel (y ∷ ys) (z ∷ zs) l t =
    ap₂ ◌∷◌ (⊕-cancel y z (eqb→eq (y ⊕ z) 0 (both_left (eqb (y ⊕ z) 0) (vanish (plus ys zs)) t)))
    (plus-cancel ys zs (suc_inj l) (both_right (eqb (y ⊕ z) 0) (vanish (plus ys zs)) t))

module _ (F : Field) where
  pub dot-comm : (a b : List ℕ) → dot F a b ≡ dot F b a
  unfolding dot
  dot-comm [] [] = refl
  dot-comm [] (y ∷ b) = refl
  dot-comm (x ∷ a) [] = refl
  dot-comm (x ∷ a) (y ∷ b) = ap₂ ◌⊕◌ (mul_comm F x y) (dot-comm a b)

  pub dot-plus : (c y z : List ℕ) → dot F c (plus y z) ≡ dot F c y ⊕ dot F c z
  unfolding dot
  dot-plus [] y z = sym (⊕-zero 0)
  dot-plus (c ∷ cs) [] z = sym (zero-⊕ (dot F (c ∷ cs) z))
  dot-plus (c ∷ cs) (y ∷ ys) [] = sym (⊕-zero (dot F (c ∷ cs) (y ∷ ys)))
  dot-plus (c ∷ cs) (y ∷ ys) (z ∷ zs) =
      ap₂ ◌⊕◌ (mul_comm F c (y ⊕ z) ∙ ⊕-mul F y z c ∙ ap₂ ◌⊕◌ (mul_comm F y c) (mul_comm F z c)) (dot-plus cs ys zs)
      ∙ ⊕-four (mul F c y) (mul F c z) (dot F cs ys) (dot F cs zs)

  pub sums-count : (cs : List (List ℕ)) (v : List ℕ) → length (sums_of F cs v) ≡ length cs
  unfolding sums_of
  sums-count cs v = length-map cs (λ c. dot F c v)

  pub sums-plus : (checks : List (List ℕ)) (y z : List ℕ) → sums_of F checks (plus y z) ≡ plus (sums_of F checks y) (sums_of F checks z)
  unfolding sums_of
  sums-plus [] y z = refl
  sums-plus (c ∷ cs) y z = ap₂ ◌∷◌ (dot-plus c y z) (sums-plus cs y z)

  -- vectors with the same sums differ by one whose sums vanish
  pub sums-plus-vanish : (checks : List (List ℕ)) (y z : List ℕ) → sums_of F checks y ≡ sums_of F checks z
      → T (vanish (sums_of F checks (plus y z)))
  sums-plus-vanish checks y z e = rw (sums-plus checks y z, e) (plus-self (sums_of F checks z))

  pub sums-append : (cs ds : List (List ℕ)) (w : List ℕ) → sums_of F (cs ++ ds) w ≡ sums_of F cs w ++ sums_of F ds w
  unfolding sums_of
  sums-append cs ds w = map-append (λ c. dot F c w) cs ds

  -- what vanishes under more checks does under fewer
  pub sums-fewer : (cs ds : List (List ℕ)) (w : List ℕ) → T (vanish (sums_of F (cs ++ ds) w)) → T (vanish (sums_of F cs w))
  unfolding vanish
  sums-fewer cs ds w t = all_left (λ x. eqb x 0) (sums_of F cs w) (sums_of F ds w) (rw (sums-append cs ds w) at t)

  -- each sum of a vector whose sums vanish is 0
  pub sum-zero : (checks : List (List ℕ)) (w c : List ℕ) → T (vanish (sums_of F checks w)) → In c checks → dot F c w ≡ 0
  unfolding sums_of vanish
  sum-zero checks w c t m = eqb→eq (dot F c w) 0 (all_in (λ x. eqb x 0) (sums_of F checks w) t (Memᴰ.map (λ c. dot F c w) m))

  plus-allowed : (m : Bool) (x y z : ℕ) → Allowed F m x y → Allowed F m x z → Allowed F m 0 (y ⊕ z)
  unfolding size
  plus-allowed true x y z h k = ⊕-lt F.width y z h k
  plus-allowed false x y z h k = ap₂ ◌⊕◌ h k ∙ ⊕-self x

  -- vectors that agree with the same one differ under marks only
  pub plus-agrees : (ms : List Bool) (v y z : List ℕ) → Agrees F ms v y → Agrees F ms v z → Agrees F ms (zeros ms) (plus y z)
  unfolding zeros first rest
  plus-agrees [] v y z a b = ap₂ plus a b
  plus-agrees (m ∷ ms) v [] z a b = absurd a
  plus-agrees (m ∷ ms) v (y ∷ ys) [] a b = absurd b
  plus-agrees (m ∷ ms) v (y ∷ ys) (z ∷ zs) a b =
      (plus-allowed m (first v) y z a.0 b.0, plus-agrees ms (rest v) ys zs a.1 b.1)

module _ (F : Field) (K : IsField F) where
  pub dot-scaled : (c : ℕ) (a u : List ℕ) → dot F (map (mul F c) a) u ≡ mul F c (dot F a u)
  unfolding dot
  dot-scaled c [] u = sym (mul-zero F K c)
  dot-scaled c (x ∷ a) [] = sym (mul-zero F K c)
  dot-scaled c (x ∷ a) (y ∷ u) = ap₂ ◌⊕◌ (K.assoc c x y) (dot-scaled c a u) ∙ sym (mul-⊕ F K c (mul F x y) (dot F a u))

  pub dot-zeros : (n : ℕ) (u : List ℕ) → dot F (replicate n 0) u ≡ 0
  unfolding dot
  dot-zeros zero u = refl
  dot-zeros (suc n) [] = refl
  dot-zeros (suc n) (x ∷ u) = ap₂ ◌⊕◌ (zero-mul F K x) (dot-zeros n u) ∙ ⊕-self 0

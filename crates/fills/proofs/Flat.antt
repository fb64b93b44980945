-- Flat lists as rows, what is lent of them from a start to an end, and the sums of the rows, place by place. Assumes nothing.
use Prim.Native.Nat.{ℕ, zero, suc, ◌+◌, ◌*◌, ◌-◌, ◌≤◌, ◌<◌}
use mathlib.Core.Path.{◌≡◌, refl, sym, ap, ◌∙◌, subst}
use mathlib.Core.Bool.{Bool, true, false}
use mathlib.Core.Logic.{◌≢◌}
use mathlib.Core.List.{List, [], ◌∷◌}
use native.Mathlib.Nat.{zero-mul, zero-add, suc-mul, add-sub_cancel_left, le_of_suc-le-suc}
use native.Mathlib.Omega.{arith}
use lib.Dec.{T}
use lib.ListN.{length, get_or, take, drop, length-drop}
use lib.Seq.{length-take-le, get_or-take, get_or-drop, ext_get_or}
use Rattle.field.specs.Field.{Field, ◌⊕◌, mul, dot}
use Rattle.field.proofs.Laws.{IsField}
use Rattle.fills.specs.Lists.{same}
use Rattle.fills.specs.Fill.{sums_of}
use Rattle.equations.specs.System.{vec, ent, inner}
use Rattle.fills.specs.Marks.{rows_of}
use Rattle.fills.proofs.Tests.{is_true, same→eq, same_refl}
use Rattle.equations.proofs.Inner.{inner_first, inner-same, inner-zero}
use Rattle.field.proofs.Laws as laws

-- ---- from a start to an end

abbrev pub part : (start size : ℕ) → List ℕ → List ℕ
part start size l = take (start + size - start) (drop start l)

pub part_of : (start size : ℕ) (l : List ℕ) → part start size l ≡ take size (drop start l)
part_of start size l = ap (λ n. take n (drop start l)) (add-sub_cancel_left start size)

pub part_length : (start size : ℕ) (l : List ℕ) → start + size ≤ length l → length (part start size l) ≡ size
part_length start size l h =
    ap length (part_of start size l) ∙ length-take-le size (drop start l) (simp length-drop (omega arith))

-- ---- sums

-- the test of two lists, from what is known of them
pub eq-same : (a b : List ℕ) → a ≡ b → true ≡ same a b
eq-same a b e = sym (is_true (same a b) (subst (λ l. T (same a l)) e (same_refl a)))

pub ne_same : (a b : List ℕ) → a ≢ b → false ≡ same a b
ne_same a b ne = go (same a b) (λ t. ne (same→eq a b t))
  where
    go : (t : Bool) → (T t → ⊥) → false ≡ t
    go true h = absurd (h tt)
    go false h = refl

module _ (F : Field) (K : IsField F) where
  -- past the end of a list its products are 0
  pub dot-inner : (c w : List ℕ) (n : ℕ) → length w ≤ n → dot F c w ≡ inner F (vec c) (vec w) n
  unfolding dot
  dot-inner [] w n h = sym (inner-zero F (λ _. 0) (vec w) n (λ j _. laws.zero-mul F K _))
  dot-inner (c ∷ cs) [] n h = sym (inner-zero F (vec (c ∷ cs)) (λ _. 0) n (λ j _. laws.mul-zero F K _))
  dot-inner (c ∷ cs) (x ∷ xs) zero h = absurd (omega arith)
  dot-inner (c ∷ cs) (x ∷ xs) (suc n) h =
      ap (λ s. mul F c x ⊕ s) (dot-inner cs xs n (le_of_suc-le-suc h)) ∙ sym (inner_first F (vec (c ∷ cs)) (vec (x ∷ xs)) n)

  -- row i, and a vector
  pub part-inner : (i n : ℕ) (l w : List ℕ) → length w ≤ n → dot F (part (i * n) n l) w ≡ inner F (ent l n i) (vec w) n
  part-inner i n l w h =
      dot-inner (part (i * n) n l) w n h
      ∙ inner-same F (vec (part (i * n) n l)) (vec w) (ent l n i) (vec w) n
      (λ j lj. ap (λ c. mul F c (vec w j)) (ap (λ r. vec r j) (part_of (i * n) n l) ∙ get_or-take n (drop (i * n) l) j 0 lj ∙ get_or-drop (i * n) l j 0))

  pub length-sums : (m n : ℕ) (l w : List ℕ) → length (sums_of F (rows_of m n l) w) ≡ m
  unfolding sums_of rows_of
  length-sums zero n l w = refl
  length-sums (suc m) n l w = ap suc (length-sums m n (drop n l) w)

  -- sum i is that of row i
  pub sums_at_lem : (m n : ℕ) (l w : List ℕ) → length w ≤ n → (i : ℕ) → i < m → vec (sums_of F (rows_of m n l) w) i ≡ inner F (ent l n i) (vec w) n
  unfolding sums_of rows_of
  sums_at_lem zero n l w h i b = absurd (omega arith)
  sums_at_lem (suc m) n l w h zero b =
      dot-inner (take n l) w n h
      ∙ inner-same F (vec (take n l)) (vec w) (ent l n 0) (vec w) n
      (λ j lj. ap (λ x. mul F x (vec w j)) (get_or-take n l j 0 lj ∙ ap (λ x. get_or l x 0) (sym (ap (λ x. x + j) (zero-mul n) ∙ zero-add j))))
  sums_at_lem (suc m) n l w h (suc i) b =
      sums_at_lem m n (drop n l) w h i (le_of_suc-le-suc b)
      ∙ inner-same F (ent (drop n l) n i) (vec w) (ent l n (suc i)) (vec w) n
      (λ j _. ap (λ x. mul F x (vec w j)) (get_or-drop n l (i * n + j) 0 ∙ ap (λ x. get_or l x 0) (next i j)))
    where
      next : (i j : ℕ) → n + (i * n + j) ≡ suc i * n + j
      next i j = omega (arith, suc-mul i n)

  -- the sums are those of another list where each is
  pub sums-are : (m n : ℕ) (l w target : List ℕ) → length w ≤ n → length target ≡ m
      → ((i : ℕ) → i < m → inner F (ent l n i) (vec w) n ≡ vec target i) → sums_of F (rows_of m n l) w ≡ target
  sums-are m n l w target h e each =
      ext_get_or 0 _ _ (length-sums m n l w ∙ sym e) (λ i b. let c : i < m = omega (arith, length-sums m n l w) in sums_at_lem m n l w h i c ∙ each i c)

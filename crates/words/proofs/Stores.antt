-- Runs of stores into a list, what parts of it they change, and lists one behind the other. Assumes nothing.
use mathlib.Core.Path.{◌≡◌, refl, sym, ap, ap₂, ◌∙◌}
use mathlib.Core.List.{List, [], ◌∷◌, ◌++◌, flat_map, append-nil, append_assoc}
use Prim.Native.Nat.{ℕ, zero, suc, ◌+◌, ◌-◌, ◌≤◌}
use native.Mathlib.Nat.{add-suc, add-zero, zero-add, le_of_eq}
use native.Mathlib.Omega.{arith}
use lib.ListN.{length, take, drop, set, length-take, length-drop, length-set, take-append-drop, drop_of_length-le}
use borrow.Rule.Slice.PartMut.{put_mid}
use lib.Seq.{sets, sets-eq, set_out, drop-set-lt, drop-set-add, drop-drop, take-add}

take-set : (m : ℕ) (l : List ℕ) (i a : ℕ) → take m (set l i a) ≡ set (take m l) i a
take-set zero l i a = refl
take-set (suc m) [] i a = refl
take-set (suc m) (x ∷ l) zero a = refl
take-set (suc m) (x ∷ l) (suc i) a = ap (λ k. x ∷ k) (take-set m l i a)

pub take-sets : (m : ℕ) (x l : List ℕ) (i : ℕ) → take m (sets l i x) ≡ sets (take m l) i x
take-sets m [] l i = refl
take-sets m (v ∷ x) l i = take-sets m x (set l i v) (suc i) ∙ ap (λ k. sets k (suc i) x) (take-set m l i v)

pub drop-sets : (n : ℕ) (x l : List ℕ) (i : ℕ) → drop n (sets l (n + i) x) ≡ sets (drop n l) i x
drop-sets n [] l i = refl
drop-sets n (v ∷ x) l i =
    ap (λ k. drop n (sets (set l (n + i) v) k x)) (sym (add-suc n i)) ∙ drop-sets n x (set l (n + i) v) (suc i)
    ∙ ap (λ k. sets k (suc i) x) (drop-set-add n l i v)

-- stores before n leave the rest alone
pub drop-sets-before : (n : ℕ) (x l : List ℕ) (i : ℕ) → i + length x ≤ n → drop n (sets l i x) ≡ drop n l
drop-sets-before n [] l i h = refl
drop-sets-before n (v ∷ x) l i h = drop-sets-before n x (set l i v) (suc i) (omega arith) ∙ drop-set-lt n l i v (omega arith)

-- what is stored behind other stores
pub sets-append : (x y l : List ℕ) (i : ℕ) → sets l i (x ++ y) ≡ sets (sets l i x) (i + length x) y
sets-append [] y l i = ap (λ k. sets l k y) (sym (add-zero i))
sets-append (v ∷ x) y l i = sets-append x y (set l i v) (suc i) ∙ ap (λ k. sets (sets (set l i v) (suc i) x) k y) (omega arith)

-- stores past the end do nothing
pub sets-out : (x l : List ℕ) (i : ℕ) → length l ≤ i → sets l i x ≡ l
sets-out [] l i h = refl
sets-out (v ∷ x) l i h = sets-out x (set l i v) (suc i) (simp length-set (omega arith)) ∙ set_out l i v h

-- a whole list stored over one as long
pub sets-whole : (x l : List ℕ) → length x ≡ length l → sets l 0 x ≡ x
sets-whole x l e =
    sets-eq x l 0 (omega arith) ∙ ap (λ k. x ++ k) (drop_of_length-le l (le_of_eq (sym e ∙ sym (zero-add (length x))))) ∙ append-nil x

-- a store into what stands behind n
pub sets_behind : (n : ℕ) (x l : List ℕ) → take n l ++ sets (drop n l) 0 x ≡ sets l n x
sets_behind n x l =
    ap₂ ◌++◌ (sym (take-sets n x l n ∙ sets-out x (take n l) n (simp length-take (omega arith))))
    (sym (drop-sets n x l 0) ∙ ap (λ i. drop n (sets l i x)) (add-zero n))
    ∙ take-append-drop n (sets l n x)

-- a part of n numbers, as code takes it
pub part_length : (i n : ℕ) (l : List ℕ) → i + n ≤ length l → length (take (i + n - i) (drop i l)) ≡ n
part_length i n l h = simp (length-take, length-drop) (omega arith)

-- a part that was written over
pub part-written : (i n : ℕ) (x l : List ℕ) → length x ≡ n → i + n ≤ length l → put_mid i (i + n - i) l x ≡ sets l i x
part-written i n x l e h =
    sym (sets-eq x l i (omega arith)
    ∙ ap (λ k. take i l ++ x ++ k) (ap (λ k. drop k l) (omega arith) ∙ sym (drop-drop (i + n - i) i l)) ∙ append_assoc (take i l) x (drop (i + n - i) (drop i l)))

-- storing what is there changes nothing
pub sets_same : (x l : List ℕ) (i : ℕ) → i + length x ≤ length l → take (length x) (drop i l) ≡ x → sets l i x ≡ l
sets_same x l i h e =
    sets-eq x l i h ∙ ap (λ k. take i l ++ k ++ drop (i + length x) l) (sym e)
    ∙ ap (λ k. k ++ drop (i + length x) l) (sym (take-add i (length x) l)) ∙ take-append-drop (i + length x) l

-- the part that was written into
pub written : (m i at : ℕ) (x l : List ℕ) → take m (drop i (sets l (i + at) x)) ≡ sets (take m (drop i l)) at x
written m i at x l = ap (take m) (drop-sets i x l at) ∙ take-sets m x (drop i l) at

-- ---- lists one behind the other

pub flat_append : {A B : Type 0} (f : A → List B) (a b : List A) → flat_map f (a ++ b) ≡ flat_map f a ++ flat_map f b
unfolding flat_map
flat_append f [] b = refl
flat_append f (x ∷ a) b = ap (λ l. f x ++ l) (flat_append f a b) ∙ sym (append_assoc (f x) (flat_map f a) (flat_map f b))

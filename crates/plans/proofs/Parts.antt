-- Parts of flat lists: what is lent from a start to an end, and rows one behind the other. Assumes nothing.
use mathlib.Core.Path.{◌≡◌, refl, sym, ap, ap₂, ◌∙◌}
use mathlib.Core.List.{List, [], ◌∷◌, ◌++◌, map, append_assoc}
use Prim.Native.Nat.{ℕ, zero, suc, ◌+◌, ◌*◌, ◌-◌, ◌≤◌}
use native.Mathlib.Nat.{zero-add, suc-add, add_comm, suc-mul, zero-mul}
use native.Mathlib.Omega.{arith}
use lib.ListN.{length, take, drop, length-drop}
use lib.Seq.{sets, sets-eq, take_all, take-nil, take-take, drop-drop}
use Rattle.field.specs.Lists.{up_from}
use Rattle.fills.specs.Marks.{rows_of}
pub use Rattle.field.proofs.Lists.{map-up-suc as map-up-shift}
pub use Rattle.fills.proofs.Flat.{part, part_of, part_length}
use Rattle.plans.proofs.Flat.{row_in}

-- ---- from a start to an end

-- what stands from a start on
pub rest_of : (start : ℕ) (l : List ℕ) → take (length l - start) (drop start l) ≡ drop start l
rest_of start l = take_all (length l - start) (drop start l) (simp length-drop (omega arith))

-- n numbers put back, with others in their place
pub part-back : (start n : ℕ) (l v : List ℕ) → start + n ≤ length l → length v ≡ n
    → take start l ++ (v ++ drop n (drop start l)) ≡ sets l start v
part-back start n l v h e =
    ap (λ k. take start l ++ (v ++ drop k (drop start l))) (sym e)
    ∙ ap (λ k. take start l ++ (v ++ k)) (drop-drop (length v) start l)
    ∙ sym (append_assoc (take start l) v (drop (start + length v) l))
    ∙ sym (sets-eq v l start (omega arith))

-- ---- rows

-- rows taken off one by one, from row k on, are the rows by their numbers
pub rows-from : (k m n : ℕ) (l : List ℕ) → rows_of m n (drop (k * n) l) ≡ map (row_in n l) (up_from k m)
unfolding up_from rows_of
rows-from k zero n l = refl
rows-from k (suc m) n l =
    ap (λ rows. take n (drop (k * n) l) ∷ rows)
    (ap (rows_of m n) (drop-drop n (k * n) l ∙ ap (λ i. drop i l) (sym (suc-mul k n))) ∙ rows-from (suc k) m n l)

-- and from the first on
pub rows-of : (m n : ℕ) (l : List ℕ) → rows_of m n l ≡ map (row_in n l) (up_from 0 m)
rows-of m n l = ap (λ i. rows_of m n (drop i l)) (sym (zero-mul n)) ∙ rows-from 0 m n l

pub drop-take : (n k : ℕ) (l : List ℕ) → drop n (take (n + k) l) ≡ take k (drop n l)
drop-take zero k l = ap (λ i. take i l) (zero-add k)
drop-take (suc n) k [] = ap (drop (suc n)) (take-nil (suc n + k)) ∙ sym (take-nil k)
drop-take (suc n) k (x ∷ l) = ap (λ i. drop (suc n) (take i (x ∷ l))) (suc-add n k) ∙ drop-take n k l

-- the first m rows stand in the first m * n numbers
pub rows-front : (m n : ℕ) (l : List ℕ) → rows_of m n (take (m * n) l) ≡ rows_of m n l
unfolding rows_of
rows-front zero n l = refl
rows-front (suc m) n l =
    let e : suc m * n ≡ n + m * n = suc-mul m n ∙ add_comm (m * n) n in
    ap₂ ◌∷◌ (take-take n (suc m * n) l (omega arith))
    (ap (rows_of m n) (ap (λ k. drop n (take k l)) e ∙ drop-take n (m * n) l) ∙ rows-front m n (drop n l))

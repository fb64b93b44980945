-- Rows of flat lists: what stands in each row after one was written. Assumes nothing.
use mathlib.Core.Path.{◌≡◌, sym, ap, ap₂, ◌∙◌, subst}
use mathlib.Core.Logic.{◌⊎◌, ◌≢◌, inl, inr, ⊎_elim}
use mathlib.Core.List.{List, ◌++◌}
use Prim.Native.Nat.{ℕ, zero, suc, ◌+◌, ◌*◌, ◌-◌, ◌<◌, ◌≤◌}
use native.Mathlib.Nat.{suc-mul, zero-mul, add-zero}
use native.Mathlib.Decide.{ℕ_discrete}
use native.Mathlib.Omega.{arith}
use lib.ListN.{length, take, drop, length-map, length-take, length-drop, take-append-drop}
use lib.Seq.{sets, drop-drop, length-take-le, take-append-le, drop-append-le}
use Rattle.field.specs.Lists.{up_from}
use Rattle.field.proofs.Lists.{length_up}
use Rattle.equations.proofs.Rows.{row_fits, rows_apart}
use Rattle.fills.specs.Marks.{bits_of}
use Rattle.words.proofs.Stores.{drop-sets-before, sets-out, sets-whole, sets_same, written}
use Rattle.plans.specs.Plan.{Plan, row_at, marks_at}

-- ---- rows of N places: row r stands at r * N

pub same-or-other : (k r : ℕ) → (k ≡ r) ⊎ (k ≢ r)
same-or-other k r = elim (ℕ_discrete k r) [ yes e ↦ inl e | no ne ↦ inr ne ]

-- what holds of row r and of each other row holds of every row
pub of-rows : {R : ℕ} (Q : ℕ → Type 0) (r : ℕ) → Q r → ((k : ℕ) → k < R → k ≢ r → Q k) → (k : ℕ) → k < R → Q k
of-rows Q r q h k l = elim (same-or-other k r) [ inl e ↦ subst Q (sym e) q | inr ne ↦ h k l ne ]

pub row-end : (N : ℕ) {r R : ℕ} → r < R → r * N + N ≤ R * N
row-end N {r} {R} h = row_fits R N r h

-- what was written into row r is not seen in row k
pub apart : (N m at r k : ℕ) (x l : List ℕ) → at + length x ≤ N → m ≤ N → k ≢ r
    → take m (drop (k * N) (sets l (r * N + at) x)) ≡ take m (drop (k * N) l)
apart N m at r k x l h g ne = ⊎_elim
    (λ (b : k * N + N ≤ r * N). let e : r * N + at ≡ k * N + (r * N + at - k * N) = omega arith in
    ap (λ i. take m (drop (k * N) (sets l i x))) e ∙ written m (k * N) (r * N + at - k * N) x l
    ∙ sets-out x (take m (drop (k * N) l)) (r * N + at - k * N) (simp length-take (omega arith)))
    (λ (b : r * N + N ≤ k * N). ap (take m) (drop-sets-before (k * N) x l (r * N + at) (omega arith)))
    (rows_apart N k r ne)

-- lists with the same rows and the same room are equal
pub rows_ext : (N R : ℕ) (a b : List ℕ) → ((r : ℕ) → r < R → take N (drop (r * N) a) ≡ take N (drop (r * N) b))
    → drop (R * N) a ≡ drop (R * N) b → a ≡ b
rows_ext N zero a b h e = subst (λ n. drop n a ≡ drop n b) (zero-mul N) e
rows_ext N (suc R) a b h e =
    rows_ext N R a b (λ r l. h r (omega arith))
    (sym (take-append-drop N (drop (R * N) a)) ∙ ap₂ ◌++◌ (h R (omega arith)) rest ∙ take-append-drop N (drop (R * N) b))
  where
    rest : drop N (drop (R * N) a) ≡ drop N (drop (R * N) b)
    rest = drop-drop N (R * N) a ∙ subst (λ n. drop n a ≡ drop n b) (suc-mul R N) e ∙ sym (drop-drop N (R * N) b)

module _ (P : Plan) where
  pub row-length : (l : List ℕ) (r : ℕ) → r * P.columns + P.columns ≤ length l → length (row_at P l r) ≡ P.columns
  unfolding row_at
  row-length l r h = length-take-le P.columns (drop (r * P.columns) l) (simp length-drop (omega arith))

  -- what stands behind the rows is not seen in them
  pub row-append : (l z : List ℕ) (r : ℕ) → r * P.columns + P.columns ≤ length l → row_at P (l ++ z) r ≡ row_at P l r
  unfolding row_at
  row-append l z r h =
      ap (take P.columns) (drop-append-le (r * P.columns) l z (omega arith))
      ∙ take-append-le P.columns (drop (r * P.columns) l) z (simp length-drop (omega arith))

  module _ (r : ℕ) (x l : List ℕ) (long : length x ≡ P.columns) where
    pub row_same : r * P.columns + P.columns ≤ length l → row_at P (sets l (r * P.columns) x) r ≡ x
    unfolding row_at
    row_same h =
        ap (λ i. take P.columns (drop (r * P.columns) (sets l i x))) (sym (add-zero (r * P.columns)))
        ∙ written P.columns (r * P.columns) 0 x l
        ∙ sets-whole x (row_at P l r) (long ∙ sym (row-length l r h))

    pub row_other : (k : ℕ) → k ≢ r → row_at P (sets l (r * P.columns) x) k ≡ row_at P l k
    unfolding row_at
    row_other k ne =
        ap (λ i. take P.columns (drop (k * P.columns) (sets l i x))) (sym (add-zero (r * P.columns)))
        ∙ apart P.columns P.columns 0 r k x l (omega arith) (omega arith) ne

    -- the row that stands there already
    pub row-again : r * P.columns + P.columns ≤ length l → row_at P l r ≡ x → sets l (r * P.columns) x ≡ l
    unfolding row_at
    row-again h e = sets_same x l (r * P.columns) (omega arith) (ap (λ n. take n (drop (r * P.columns) l)) long ∙ e)

-- ---- the marks of a row

pub marks-length : (P : Plan) (marks : List ℕ) (r : ℕ) → length (marks_at P marks r) ≡ P.columns
unfolding marks_at bits_of
marks-length P marks r = length-map (up_from 0 P.columns) _ ∙ length_up 0 P.columns

-- The algebra of elimination, on matrices: what each step keeps, and what the end gives. Assumes nothing but the field's laws.
use Prim.Native.Nat.{ℕ, ◌+◌, ◌≤◌, ◌<◌}
use mathlib.Core.Path.{◌≡◌, refl, sym, ap, ap₂, ◌∙◌}
use mathlib.Core.Bool.{Bool, true, false, true≢false, false≢true}
use mathlib.Core.Logic.{◌≢◌}
use native.Mathlib.Decide.{ℕ_discrete, dec_lt}
use native.Mathlib.Omega.{arith}
use borrow.Author.Count.{below_more}
use Rattle.std.proofs.Common.{Option, Some, None, is_some}
use Rattle.field.specs.Field.{Field, ◌⊕◌, size, mul, inverse}
use Rattle.field.proofs.Sum.{⊕-self, ⊕-zero, zero-⊕, ⊕-undo, ⊕-cancel}
use Rattle.field.proofs.Laws.{IsField, size-pos, zero-mul, mul-zero, mul-one, mul-⊕, mul_left_comm}
use Rattle.equations.specs.System.{Matrix, inner, Elements, Ker, Solves, Consistency, Dependence}
use Rattle.elimination.specs.Steps.{Same, Found, Added, Cleared, Pivoted, Form, Free, ReadOff}
use Rattle.equations.proofs.Inner.{put, put_same, put_other, inner-more, inner-same, inner-zero, inner-lt, inner-row, inner-put, inner-one}

-- ---- the form of the matrix, column by column

pub form-start : (M : Matrix) (m : ℕ) (at : ℕ → ℕ) → Form M m at 0 0
form-start M m at = record {
  low = λ i _ _ j l. absurd (omega arith);
  col = λ t l. absurd (omega arith);
  unit = λ t l. absurd (omega arith);
  gone = λ t l. absurd (omega arith);
  rows = omega arith;
}

pub free-start : (at : ℕ → ℕ) → Free at 0 0 None
free-start at = (refl, λ t l. absurd (omega arith))

-- a column in which no row from r on has an entry
pub form-skip : (M : Matrix) (m : ℕ) (at : ℕ → ℕ) (r c : ℕ) → Form M m at r c → ((x : ℕ) → r ≤ x → x < m → M x c ≡ 0) → Form M m at r (c + 1)
form-skip M m at r c R h = record {
  low = λ i b l j lj. elim (ℕ_discrete j c) [ yes e ↦ rw e (h i b l) | no ne ↦ R.low i b l j (omega arith) ];
  col = λ t l. omega (arith, R.col t l);
  unit = R.unit;
  gone = R.gone;
  rows = R.rows;
}

pub free-skip : (M : Matrix) (m : ℕ) (at : ℕ → ℕ) (r c : ℕ) → Form M m at r c → Free at r (c + 1) (Some c)
free-skip M m at r c R = (omega arith, λ t l e. omega (arith, R.col t l))

-- a column that becomes row r's
module _ (at to : ℕ → ℕ) (r c : ℕ) (old : (t : ℕ) → t < r → to t ≡ at t) (new : to r ≡ c) where
  pub form-step : (F : Field) (M N : Matrix) (m w : ℕ) → Form M m at r c → Pivoted F M N m w r c → r < m → Form N m to (r + 1) (c + 1)
  form-step F M N m w R P lr = record {
    low = λ i b l j lj. elim (ℕ_discrete j c)
        [ yes e ↦ rw e (P.gone i l (omega arith)) | no ne ↦ P.keep i l j (omega arith) ∙ R.low i (omega arith) l j (omega arith) ];
    col = below_more _ _ (λ t l. omega (arith, R.col t l, old t l)) (omega arith);
    unit = below_more _ _ (λ t l. rw (old t l) (P.keep t (omega arith) (at t) (R.col t l) ∙ R.unit t l)) (rw new P.unit);
    gone = below_more _ _ (λ t l i li ne. rw (old t l) (P.keep i li (at t) (R.col t l) ∙ R.gone t l i li ne)) (rw new P.gone);
    rows = omega arith;
  }

  pub free_step : (free : Option ℕ) → Free at r c free → Free to (r + 1) (c + 1) free
  free_step None a = (omega (arith, a.0), below_more _ _ (λ t l. old t l ∙ a.1 t l) (omega (arith, a.0)))
  free_step (Some free) b = (omega (arith, b.0), below_more _ _ (λ t l e. b.1 t l (sym (old t l) ∙ e)) (λ e. omega (arith, b.0)))

-- no two rows have their pivot in one column
pub pivots-apart : (M : Matrix) (m : ℕ) (at : ℕ → ℕ) (r c s t : ℕ) → Form M m at r c → s < t → t < r → at s ≢ at t
pivots-apart M m at r c s t R l b e =
    omega (arith, R.unit s (omega arith), ap (M s) e, R.gone t b s (omega (arith, R.rows)) (omega arith))

module _ (F : Field) (K : IsField F) where
  -- a row's sum is as it was where the row added gives 0
  pub drop-zero : (x y f : ℕ) → y ≡ 0 → x ⊕ mul F f y ≡ x
  drop-zero x y f e = rw (e, mul-zero F K f) (⊕-zero x)

  pub add_none : (x y : ℕ) → x ≡ x ⊕ mul F 0 y
  add_none x y = sym (ap (λ v. x ⊕ v) (zero-mul F K y) ∙ ⊕-zero x)

  -- rows that change by multiples of row p give 0 with the same vectors, where row p does
  changed-same : (M N : Matrix) (m w p : ℕ) (z : ℕ → ℕ) → p < m
      → ((i : ℕ) → i < m → (f : ℕ) × (inner F (N i) z w ≡ inner F (M i) z w ⊕ mul F f (inner F (M p) z w)))
      → (Ker F N m w z → inner F (M p) z w ≡ 0) → (Ker F M m w z → Ker F N m w z) × (Ker F N m w z → Ker F M m w z)
  changed-same M N m w p z l row own = (
    (λ h i b. (row i b).1 ∙ drop-zero _ _ _ (h p l) ∙ h i b),
    (λ h i b. sym (drop-zero _ _ _ (own h)) ∙ sym (row i b).1 ∙ h i b),
  )

  -- ---- clearing a column

  cleared-same : (M N : Matrix) (m w p c : ℕ) → p < m → Cleared F M N m w p c → Same F M N m w
  cleared-same M N m w p c l C z =
      changed-same M N m w p z l
      (λ i b. elim (ℕ_discrete i p) [
        | yes e ↦ (0, rw e (row-p ∙ add_none _ _))
        | no ne ↦ (M i c, inner-row F K (N i) (M i) (M p) z (M i c) w (C.changed i b ne))
      ])
      (λ h. sym row-p ∙ h p l)
    where
      row-p : inner F (N p) z w ≡ inner F (M p) z w
      row-p = inner-same F _ _ _ _ w (λ j b. ap (λ x. mul F x (z j)) (C.kept j b))

  -- ---- making the pivot 1: row r and f times row i, where f = (its entry + 1) / (row i's entry); i may be r

  -- the pivot's new entry
  made_one : (x v : ℕ) → x < size F → v < size F → v ≢ 0 → x ⊕ mul F (mul F (x ⊕ 1) (inverse F v)) v ≡ 1
  made_one x v lx lv nz =
      rw (K.assoc, K.comm (inverse F v) v, K.inverts v lv nz, mul-one F K (x ⊕ 1) (K.sum_lt x 1 lx K.one-lt)) (⊕-undo x 1)

  -- where i is r, that divides the row by v: v times what it gives is what the row gave
  divided : (v x : ℕ) → v < size F → v ≢ 0 → x < size F → mul F v (x ⊕ mul F (mul F (v ⊕ 1) (inverse F v)) x) ≡ x
  divided v x lv nz lx =
      mul-⊕ F K _ _ _
      ∙ ap (λ y. mul F v x ⊕ y)
      (ap (mul F v) (K.assoc (v ⊕ 1) (inverse F v) x) ∙ mul_left_comm F K v (v ⊕ 1) (mul F (inverse F v) x)
      ∙ ap (mul F (v ⊕ 1)) (sym (K.assoc v (inverse F v) x) ∙ ap (λ y. mul F y x) (K.inverts v lv nz) ∙ K.unit x lx)
      ∙ K.distrib v 1 x ∙ ap (λ y. mul F v x ⊕ y) (K.unit x lx))
      ∙ ⊕-undo _ _

  added-same : (M N : Matrix) (m w r i c f : ℕ) → r < m → i < m → M i c < size F → M i c ≢ 0 → f ≡ mul F (M r c ⊕ 1) (inverse F (M i c))
      → Added F M N w r i f → Same F M N m w
  added-same M N m w r i c f lr li lt nz ef A z =
      changed-same M N m w i z li (λ x b. elim (ℕ_discrete x r) [ yes e ↦ (f, rw e hit) | no ne ↦ (0, miss x ne ∙ add_none _ _) ])
      (λ h. elim (ℕ_discrete i r) [
        | yes e ↦ ap (λ y. inner F (M y) z w) e ∙ sym (divided (M i c) _ lt nz (inner-lt F K (M r) z w))
            ∙ ap (mul F (M i c))
            (ap (λ y. inner F (M r) z w ⊕ mul F (mul F (M y c ⊕ 1) (inverse F (M i c))) (inner F (M r) z w)) e
            ∙ ap₂ (λ g y. inner F (M r) z w ⊕ mul F g (inner F (M y) z w)) (sym ef) (sym e) ∙ sym hit ∙ h r lr)
            ∙ mul-zero F K _
        | no ne ↦ sym (miss i ne) ∙ h i li
      ])
    where
      hit : inner F (N r) z w ≡ inner F (M r) z w ⊕ mul F f (inner F (M i) z w)
      hit = inner-row F K (N r) (M r) (M i) z f w A.hit

      miss : (x : ℕ) → x ≢ r → inner F (N x) z w ≡ inner F (M x) z w
      miss x ne = inner-same F _ _ _ _ w (λ j b. ap (λ y. mul F y (z j)) (A.miss x ne j b))

  -- where both rows are 0, so is their sum
  pub added-zero : (M N : Matrix) (w i p f j : ℕ) → Added F M N w i p f → j < w → M i j ≡ 0 → M p j ≡ 0 → N i j ≡ 0
  added-zero M N w i p f j A l e g = A.hit j l ∙ drop-zero _ _ _ g ∙ e

  -- ---- both steps together

  pub pivoted : (M N P : Matrix) (m w r i c f : ℕ) → r < m → i < m → r ≤ i → c < w → ((x : ℕ) → x < m → M x c < size F) → M i c ≢ 0
      → f ≡ mul F (M r c ⊕ 1) (inverse F (M i c)) → ((x : ℕ) → r ≤ x → x < m → (j : ℕ) → j < c → M x j ≡ 0)
      → Added F M N w r i f → Cleared F N P m w r c → Pivoted F M P m w r c
  pivoted M N P m w r i c f lr li ri cw small nz ef low A C = record {
    keep = λ x lx j lj. elim (ℕ_discrete x r) [
      | yes e ↦ rw e (C.kept j (omega arith) ∙ before r lr j lj)
      | no ne ↦ C.changed x lx ne j (omega arith) ∙ drop-zero _ _ _ (before r lr j lj ∙ low r (omega arith) lr j lj) ∙ before x lx j lj
    ];
    unit = C.kept c cw ∙ one;
    gone = λ x lx ne. C.changed x lx ne c cw ∙ rw (one, mul-one F K (N x c) (rw (A.miss x ne c cw) (small x lx))) (⊕-self _);
    same = λ z. (
      (λ h. (cleared-same N P m w r c lr C z).0 ((added-same M N m w r i c f lr li (small i li) nz ef A z).0 h)),
      (λ h. (added-same M N m w r i c f lr li (small i li) nz ef A z).1 ((cleared-same N P m w r c lr C z).1 h)),
    );
  }
    where
      before : (x : ℕ) → x < m → (j : ℕ) → j < c → N x j ≡ M x j
      before x lx j lj = elim (ℕ_discrete x r) [
        | yes e ↦ rw e (A.hit j (omega arith) ∙ drop-zero _ _ _ (low i ri li j lj))
        | no ne ↦ A.miss x ne j (omega arith)
      ]

      one : N r c ≡ 1
      one = A.hit c cw ∙ rw ef (made_one _ _ (small r lr) (small i li) nz)

  -- ---- reading a column off at the pivots' columns

  pub read-start : (M : Matrix) (m k : ℕ) (at : ℕ → ℕ) (u : ℕ) (z : ℕ → ℕ) → ((j : ℕ) → z j ≡ 0) → ReadOff F M m k at u 0 z
  read-start M m k at u z h = record {
    done = λ i _ l. absurd (omega arith);
    todo = λ i _ _. inner-zero F (M i) z k (λ j _. ap (mul F (M i j)) (h j) ∙ mul-zero F K _);
    off = λ j _. h j;
    small = λ j. rw (h j) (size-pos F K);
  }

  pub read_step : (M : Matrix) (m k : ℕ) (at : ℕ → ℕ) (r u t : ℕ) (z y : ℕ → ℕ) → Form M m at r k → t < r → M t u < size F
      → ReadOff F M m k at u t z → ((j : ℕ) → j ≢ at t → y j ≡ z j) → y (at t) ≡ M t u → ReadOff F M m k at u (t + 1) y
  read_step M m k at r u t z y R l lt Z h e = record {
    done = λ i li b. elim (ℕ_discrete i t) [
      | yes g ↦ rw g (row t ∙ rw (Z.todo t (omega (arith, R.rows)) (omega arith), R.unit t l, K.unit (M t u) lt) (zero-⊕ _))
      | no ne ↦ other i li ne ∙ Z.done i li (omega arith)
    ];
    todo = λ i li b. other i li (omega arith) ∙ Z.todo i li (omega arith);
    off = λ j b. h j (λ g. b t (omega arith) (sym g)) ∙ Z.off j (λ s ls. b s (omega arith));
    small = λ j. elim (ℕ_discrete j (at t)) [
      | yes g ↦ rw (g, e) lt
      | no ne ↦ rw (h j ne) (Z.small j)
    ];
  }
    where
      row : (i : ℕ) → inner F (M i) y k ≡ inner F (M i) z k ⊕ mul F (M i (at t)) (M t u)
      row i = inner-put F K (M i) z y (at t) (M t u) k (R.col t l) h
          (e ∙ sym (ap (λ x. x ⊕ M t u) (Z.off (at t) (λ s b. pivots-apart M m at r k s t R b l)) ∙ zero-⊕ _))

      other : (i : ℕ) → i < m → i ≢ t → inner F (M i) y k ≡ inner F (M i) z k
      other i li ne = row i ∙ rw (R.gone t l i li ne, zero-mul F K (M t u)) (⊕-zero _)

  -- ---- the end: what the reduced matrix says of its solutions and dependencies

  pub consistent-no : (M : Matrix) (m k : ℕ) (at : ℕ → ℕ) (r : ℕ) (found : Option ℕ) (x : ℕ → ℕ) → Form M m at r k → Found M m r k found
      → true ≡ is_some found → Consistency F M m k false x
  consistent-no M m k at r None x R f e = cc
  consistent-no M m k at r (Some i) x R f e = record {
    solution = λ e. absurd (false≢true e);
    none = λ _ y h. f.nonzero (sym (h i f.most) ∙ inner-zero F (M i) y k (λ j lj. ap (λ v. mul F v (y j)) (R.low i f.least f.most j lj) ∙ zero-mul F K _));
  }

  -- z is read off the free column; y has 1 there besides
  pub dependent-yes : (M : Matrix) (m k : ℕ) (at : ℕ → ℕ) (r free : ℕ) (z y : ℕ → ℕ) → Form M m at r k → Free at r k (Some free)
      → ((i : ℕ) → M i free < size F) → ReadOff F M m k at free r z
      → ((j : ℕ) → j ≢ free → y j ≡ z j) → y free ≡ 1 → Dependence F M m k true y
  dependent-yes M m k at r free z y R (l, away) small Z h e = record {
    dependency = λ _. (entries, (free, l, λ g. omega (arith, e, g)), zero-sums);
    none = λ g. absurd (true≢false g);
  }
    where
      entries : Elements F y
      entries j = elim (ℕ_discrete j free) [ yes g ↦ rw (g, e) K.one-lt | no ne ↦ rw (h j ne) (Z.small j) ]

      row : (i : ℕ) → inner F (M i) y k ≡ inner F (M i) z k ⊕ M i free
      row i = inner-put F K (M i) z y free 1 k l h (e ∙ sym (ap (λ v. v ⊕ 1) (Z.off free away) ∙ zero-⊕ 1))
          ∙ ap (λ v. inner F (M i) z k ⊕ v) (mul-one F K _ (small i))

      zero-sums : Ker F M m k y
      zero-sums i li = elim (dec_lt i r) [
        | yes b ↦ row i ∙ ap (λ v. v ⊕ M i free) (Z.done i li b) ∙ ⊕-self _
        | no nb ↦ row i ∙ ap₂ ◌⊕◌ (Z.todo i li (omega arith)) (R.low i (omega arith) li free l) ∙ ⊕-zero 0
      ]

  pub dependent-no : (M : Matrix) (m k : ℕ) (at : ℕ → ℕ) (r : ℕ) (z : ℕ → ℕ) → Form M m at r k → Free at r k None → Dependence F M m k false z
  dependent-no M m k at r z R (full, at-t) = record { dependency = λ e. absurd (false≢true e); none = λ _. only_zero }
    where
      only_zero : (y : ℕ → ℕ) → ((j : ℕ) → j < k → y j < size F) → Ker F M m k y → (j : ℕ) → j < k → y j ≡ 0
      only_zero y small h j l =
          sym (K.unit (y j) (small j l)) ∙ ap (λ v. mul F v (y j)) (sym one) ∙ sym (inner-one F K (M j) y j k l other) ∙ h j (omega (arith, R.rows))
        where
          one : M j j ≡ 1
          one = ap (M j) (sym (at-t j (omega arith))) ∙ R.unit j (omega arith)

          other : (x : ℕ) → x < k → x ≢ j → mul F (M j x) (y x) ≡ 0
          other x lx ne =
              ap (λ v. mul F v (y x)) (ap (M j) (sym (at-t x (omega arith))) ∙ R.gone x (omega arith) j (omega (arith, R.rows)) (omega arith))
              ∙ zero-mul F K _

  -- ---- and so of the matrix before: both speak of the vectors that give 0

  inner_last : (f x : ℕ → ℕ) (k b : ℕ) → inner F f (put x k b) (k + 1) ≡ inner F f x k ⊕ mul F (f k) b
  inner_last f x k b =
      sym (inner-more F f (put x k b) k)
      ∙ ap₂ ◌⊕◌ (inner-same F f (put x k b) f x k (λ j l. ap (mul F (f j)) (put_other x k b j (omega arith)))) (ap (mul F (f k)) (put_same x k b))

  module _ (M N : Matrix) (m k : ℕ) (carry : (z : ℕ → ℕ) → Ker F M m (k + 1) z → Ker F N m (k + 1) z) where
    ker-carry : (z : ℕ → ℕ) → Ker F M m k z → Ker F N m k z
    ker-carry z h i l = sym (last N i) ∙ carry (put z k 0) (λ x b. last M x ∙ h x b) i l
      where
        last : (L : Matrix) (x : ℕ) → inner F (L x) (put z k 0) (k + 1) ≡ inner F (L x) z k
        last L x = inner_last (L x) z k 0 ∙ drop-zero _ _ _ refl

    solves-carry : ((i : ℕ) → M i k < size F) → ((i : ℕ) → N i k < size F) → (x : ℕ → ℕ) → Solves F M m k x → Solves F N m k x
    solves-carry small-M small-N x h i l =
        ⊕-cancel _ _ (sym (last N small-N i) ∙ carry (put x k 1) (λ y b. last M small-M y ∙ ap (λ v. v ⊕ M y k) (h y b) ∙ ⊕-self _) i l)
      where
        last : (L : Matrix) → ((y : ℕ) → L y k < size F) → (y : ℕ) → inner F (L y) (put x k 1) (k + 1) ≡ inner F (L y) x k ⊕ L y k
        last L small y = inner_last (L y) x k 1 ∙ ap (λ v. inner F (L y) x k ⊕ v) (mul-one F K _ (small y))

  module _ (M N : Matrix) (m k : ℕ) (S : Same F M N m (k + 1)) where
    pub same-consistency : (answer : Bool) (x : ℕ → ℕ) → ((i : ℕ) → M i k < size F) → ((i : ℕ) → N i k < size F)
        → Consistency F N m k answer x → Consistency F M m k answer x
    same-consistency answer x small-M small-N C = record {
      solution = λ e. let s = C.solution e in (s.0, solves-carry N M m k (λ z. (S z).1) small-N small-M x s.1);
      none = λ e y h. C.none e y (solves-carry M N m k (λ z. (S z).0) small-M small-N y h);
    }

    pub same-dependence : (answer : Bool) (z : ℕ → ℕ) → Dependence F N m k answer z → Dependence F M m k answer z
    same-dependence answer z D = record {
      dependency = λ e. let s = D.dependency e in (s.0, s.1, ker-carry N M m k (λ z. (S z).1) z s.2);
      none = λ e y small h. D.none e y small (ker-carry M N m k (λ z. (S z).0) y h);
    }

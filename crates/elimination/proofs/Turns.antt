-- The loops of elimination, each as a record of what holds at its head, with its start, its turn and its end. Assumes nothing.
use Prim.Native.Nat.{ℕ, ◌+◌, ◌*◌, ◌≤◌, ◌<◌}
use mathlib.Core.Path.{◌≡◌, refl, sym, ap, ap₂, ◌∙◌}
use mathlib.Core.Logic.{◌≢◌, ◌⊎◌, inl, inr, ⊎_elim}
use mathlib.Core.List.{List}
use native.Mathlib.Decide.{ℕ_discrete}
use native.Mathlib.Omega.{arith}
use borrow.Author.Count.{below_more}
use lib.ListN.{length, get_or, set}
use lib.Seq.{get_or-set_same, get_or-set_other}
use Rattle.std.proofs.Common.{Option, Some, None, MatchOption}
use Rattle.field.specs.Field.{Field, ◌⊕◌, mul}
use Rattle.field.proofs.Laws.{IsField}
use Rattle.equations.specs.System.{vec, Matrix, ent, Elements}
use Rattle.elimination.specs.Steps.{Same, Found, Added, Pivoted, Form, Free, ReadOff}
use Rattle.equations.proofs.Rows.{rows_apart}
use Rattle.equations.proofs.Elements.{set-elements}
use Rattle.elimination.proofs.Elimination.{form-start, form-skip, form-step, free-start, free-skip, free_step, drop-zero, add_none, read_step}

-- ---- `find_row`

pub found-is : (M : Matrix) (m r c : ℕ) (found : Option ℕ)
    → MatchOption found ((x : ℕ) → r ≤ x → x < m → M x c ≡ 0) (λ i. (r ≤ i) × (i < m) × (M i c ≢ 0) × ((x : ℕ) → r ≤ x → x < i → M x c ≡ 0))
    → Found M m r c found
found-is M m r c None h = h
found-is M m r c (Some i) h = record { least = h.0; most = h.1; nonzero = h.2; skipped = h.3 }

-- ---- `add_row`, at column j

pub record Adding (F : Field) (a₀ a : List ℕ) (w i p f j : ℕ) : Type 0 where
  pub done : (x : ℕ) → x < j → ent a w i x ≡ ent a₀ w i x ⊕ mul F f (ent a₀ w p x)
  pub rest : (x : ℕ) → (x < i * w) ⊎ (i * w + j ≤ x) → get_or a x 0 ≡ get_or a₀ x 0
  pub elements : Elements F (vec a)

module _ (F : Field) (K : IsField F) where
  pub adding-start : (a : List ℕ) (w i p c f : ℕ) → Elements F (vec a) → ((j : ℕ) → j < c → ent a w p j ≡ 0) → Adding F a a w i p f c
  adding-start a w i p c f h z = record {
    done = λ x b. sym (drop-zero F K _ _ f (z x b));
    rest = λ x _. refl;
    elements = h;
  }

  pub adding-turn : (a₀ a : List ℕ) (w i p f j r : ℕ) → Adding F a₀ a w i p f j → j < w → i * w + w ≤ length a → r ≡ mul F f (ent a w p j)
      → Adding F a₀ (set a (i * w + j) (ent a w i j ⊕ r)) w i p f (j + 1)
  adding-turn a₀ a w i p f j r A l fit e = record {
    done = below_more _ _ (λ x b. get_or-set_other a _ _ _ 0 (omega arith) ∙ A.done x b)
        (get_or-set_same a _ _ 0 (omega arith) ∙ ap₂ ◌⊕◌ (A.rest _ (inr (omega arith))) (e ∙ ap (mul F f) source));
    rest = λ x s. get_or-set_other a _ _ _ 0 (⊎_elim (λ b. omega arith) (λ b. omega arith) s)
        ∙ A.rest x (⊎_elim (λ b. inl b) (λ b. inr (omega arith)) s);
    elements = set-elements F a _ _ (K.sum_lt _ _ (A.elements _) (rw e (K.product_lt _ _))) (omega arith) A.elements;
  }
    where
      source : ent a w p j ≡ ent a₀ w p j
      source = A.rest (p * w + j) (elim (ℕ_discrete i p)
          [ yes g ↦ inr (rw g (omega arith)) | no ne ↦ ⊎_elim (λ b. inr (omega arith)) (λ b. inl (omega arith)) (rows_apart w i p ne) ])

  pub adding-end : (a₀ a : List ℕ) (w i p f j : ℕ) → Adding F a₀ a w i p f j → j ≡ w → Added F (ent a₀ w) (ent a w) w i p f
  adding-end a₀ a w i p f j A e = record {
    hit = λ x b. A.done x (omega arith);
    miss = λ y ne x b. A.rest (y * w + x) (⊎_elim (λ s. inl (omega arith)) (λ s. inr (omega arith)) (rows_apart w y i ne));
  }

  -- a factor of 0 adds nothing
  pub added_none : (M : Matrix) (w i p f : ℕ) → f ≡ 0 → Added F M M w i p f
  added_none M w i p f e = record {
    hit = λ j _. rw e (add_none F K _ _);
    miss = λ x _ j _. refl;
  }

-- ---- `clear_column`, at row i

pub record Clearing (F : Field) (a₀ a : List ℕ) (w p c i : ℕ) : Type 0 where
  pub elements : Elements F (vec a)
  pub kept : (j : ℕ) → j < w → ent a w p j ≡ ent a₀ w p j
  pub changed : (x : ℕ) → x < i → x ≢ p → (j : ℕ) → j < w → ent a w x j ≡ ent a₀ w x j ⊕ mul F (ent a₀ w x c) (ent a₀ w p j)
  pub rest : (x : ℕ) → i ≤ x → (j : ℕ) → j < w → ent a w x j ≡ ent a₀ w x j

-- ---- `reduce`, at column c

pub record Reducing (F : Field) (a₀ a at : List ℕ) (m w r : ℕ) (free : Option ℕ) (c : ℕ) : Type 0 where
  pub elements : Elements F (vec a)
  pub form : Form (ent a w) m (vec at) r c
  pub column : Free (vec at) r c free
  pub same : Same F (ent a₀ w) (ent a w) m w

module _ (F : Field) where
  pub reducing-start : (a at : List ℕ) (m w : ℕ) → Elements F (vec a) → Reducing F a a at m w 0 None 0
  reducing-start a at m w h = record {
    elements = h;
    form = form-start _ _ _;
    column = free-start _;
    same = λ z. ((λ h. h), (λ h. h));
  }

  pub reducing-skip : (a₀ a at : List ℕ) (m w r : ℕ) (free : Option ℕ) (c : ℕ) → Reducing F a₀ a at m w r free c
      → Found (ent a w) m r c None → Reducing F a₀ a at m w r (Some c) (c + 1)
  reducing-skip a₀ a at m w r free c R none = record {
    elements = R.elements;
    form = form-skip _ _ _ _ _ R.form none;
    column = free-skip _ _ _ _ _ R.form;
    same = R.same;
  }

  pub reducing-turn : (a₀ a b at : List ℕ) (m w r : ℕ) (free : Option ℕ) (c : ℕ) → Reducing F a₀ a at m w r free c → r < m → m ≤ length at
      → Pivoted F (ent a w) (ent b w) m w r c → Elements F (vec b) → Reducing F a₀ b (set at r c) m w (r + 1) free (c + 1)
  reducing-turn a₀ a b at m w r free c R lr fit P h = record {
    elements = h;
    form = form-step (vec at) _ _ _ old new F _ _ _ _ R.form P lr;
    column = free_step (vec at) _ _ _ old new free R.column;
    same = λ z. ((λ h. (P.same z).0 ((R.same z).0 h)), (λ h. (R.same z).1 ((P.same z).1 h)));
  }
    where
      old : (t : ℕ) → t < r → vec (set at r c) t ≡ vec at t
      old t b = get_or-set_other at r t c 0 (omega arith)

      new : vec (set at r c) r ≡ c
      new = get_or-set_same at r c 0 (omega arith)

-- ---- `read_off`, at row t

pub reading-turn : (F : Field) (K : IsField F) (a at : List ℕ) (w m k r u : ℕ) → Elements F (vec a) → Form (ent a w) m (vec at) r k
    → (z : List ℕ) (t : ℕ) → vec at t < length z → t < r → ReadOff F (ent a w) m k (vec at) u t (vec z)
    → ReadOff F (ent a w) m k (vec at) u (t + 1) (vec (set z (vec at t) (ent a w t u)))
reading-turn F K a at w m k r u h R z t fit l Z =
    read_step F K (ent a w) m k (vec at) r u t (vec z) _ R l (h _) Z
    (λ j ne. get_or-set_other z (vec at t) j _ 0 ne) (get_or-set_same z (vec at t) _ 0 fit)

-- Words and locations, which are lists of numbers: bounds and distinctness, with tests that settle concrete lists. Assumes nothing.
use mathlib.Core.Path.{subst}
use mathlib.Core.Bool.{Bool, true, not, ◌&&◌}
use mathlib.Core.List.{List, [], ◌∷◌, map}
use mathlib.Core.Logic.{◌≢◌}
use Prim.Native.Nat.{ℕ, zero, suc, ◌<◌, ◌≤◌}
use native.Mathlib.Nat.{not-suc-le-zero, le_of_suc-le-suc, le_trans}
use native.Mathlib.Omega.{arith}
use lib.Dec.{T, T_not, eqb, eqb_refl, ltb, ltb→lt}
use lib.ListN.{length, get_or}
use Rattle.field.proofs.Test.{both_left, both_right}

-- every member of the list has the property
abbrev pub Each : {A : Type 0} → (A → Type 0) → List A → Type 0
Each P [] = Unit {0}
Each P (x ∷ xs) = P x × Each P xs

-- a proof for each member: `a & b & c & tt`
infixr 10 ◌&◌
abbrev pub ◌&◌ : {A B : Type 0} → A → B → A × B
a & b = (a, b)

-- every number is below q
abbrev pub EachBelow : ℕ → List ℕ → Type 0
EachBelow q = Each (λ x. x < q)

-- none is a
abbrev pub Apart : ℕ → List ℕ → Type 0
Apart a = Each (λ x. x ≢ a)

-- no two are equal
abbrev pub Distinct : List ℕ → Type 0
Distinct [] = Unit {0}
Distinct (x ∷ xs) = Apart x xs × Distinct xs

-- ---- every member

-- at each place, where what stands for those past the end has it too
pub each-get_or : {A : Type 0} (P : A → Type 0) (d : A) → P d → (xs : List A) → Each P xs → (i : ℕ) → P (get_or xs i d)
each-get_or P d e [] h i = e
each-get_or P d e (x ∷ xs) h zero = h.0
each-get_or P d e (x ∷ xs) h (suc i) = each-get_or P d e xs h.1 i

pub each_map : {A B : Type 0} (P : A → Type 0) (f : B → A) → ((x : B) → P (f x)) → (l : List B) → Each P (map f l)
each_map P f h [] = tt
each_map P f h (x ∷ l) = (h x, each_map P f h l)

module _ (P : ℕ → Type 0) where
  pub each-imp : (Q : ℕ → Type 0) → ((x : ℕ) → P x → Q x) → (xs : List ℕ) → Each P xs → Each Q xs
  each-imp Q f [] h = tt
  each-imp Q f (x ∷ xs) h = (f x h.0, each-imp Q f xs h.1)

  -- at each place
  pub each_at : (xs : List ℕ) → Each P xs → (i : ℕ) → i < length xs → P (get_or xs i 0)
  each_at [] h i l = absurd (not-suc-le-zero l)
  each_at (x ∷ xs) h zero l = h.0
  each_at (x ∷ xs) h (suc i) l = each_at xs h.1 i (le_of_suc-le-suc l)

  pub at_each : (xs : List ℕ) → ((i : ℕ) → i < length xs → P (get_or xs i 0)) → Each P xs
  at_each [] h = tt
  at_each (x ∷ xs) h = (h 0 (omega arith), at_each xs (λ i l. h (suc i) (omega arith)))

pub fit-le : (q r : ℕ) → q ≤ r → (xs : List ℕ) → EachBelow q xs → EachBelow r xs
fit-le q r l = each-imp (λ x. x < q) (λ x. x < r) (λ x h. le_trans h l)

-- ---- tests

abbrev pub each : (ℕ → Bool) → List ℕ → Bool
each f [] = true
each f (x ∷ xs) = f x && each f xs

abbrev pub fit : ℕ → List ℕ → Bool
fit q = each (λ x. ltb x q)

abbrev pub apart : ℕ → List ℕ → Bool
apart a = each (λ x. not (eqb x a))

abbrev pub distinct : List ℕ → Bool
distinct [] = true
distinct (x ∷ xs) = apart x xs && distinct xs

pub are-each : (P : ℕ → Type 0) (f : ℕ → Bool) → ((x : ℕ) → T (f x) → P x) → (xs : List ℕ) → T (each f xs) → Each P xs
are-each P f shows [] t = tt
are-each P f shows (x ∷ xs) t = (shows x (both_left (f x) (each f xs) t), are-each P f shows xs (both_right (f x) (each f xs) t))

pub are-fit : (q : ℕ) (xs : List ℕ) → T (fit q xs) → EachBelow q xs
are-fit q = are-each (λ x. x < q) (λ x. ltb x q) (λ x. ltb→lt x q)

pub are-apart : (a : ℕ) (xs : List ℕ) → T (apart a xs) → Apart a xs
are-apart a = are-each (λ x. x ≢ a) (λ x. not (eqb x a)) (λ x t e. T_not (eqb x a) t (subst (λ y. T (eqb x y)) e (eqb_refl x)))

pub are-distinct : (xs : List ℕ) → T (distinct xs) → Distinct xs
are-distinct [] t = tt
are-distinct (x ∷ xs) t = (are-apart x xs (both_left (apart x xs) (distinct xs) t), are-distinct xs (both_right (apart x xs) (distinct xs) t))

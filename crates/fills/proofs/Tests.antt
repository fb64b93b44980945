-- Tests over lists, and what they say of a list's members. Assumes nothing.
use mathlib.Core.Path.{◌≡◌, refl, sym, ap₂, subst}
use mathlib.Core.Logic.{◌⊎◌, inl, inr}
use mathlib.Core.Bool.{Bool, true, false, not, ◌||◌}
use mathlib.Core.List.Memᴰ
use mathlib.Core.List.{List, [], ◌∷◌, ◌++◌, Memᴰ}
use Prim.Native.Nat.{ℕ, zero, suc, ◌+◌, ◌<◌, ◌≤◌}
use native.Mathlib.Nat.{eq-or-lt_of_le}
use native.Mathlib.Omega.{arith}
use lib.Dec.{T, eqb, eqb→eq, eqb_refl}
use Rattle.field.specs.Lists.{when◌then◌else◌, up_from}
use Rattle.field.proofs.Test.{both_left, both_right, both}
use Rattle.fills.specs.Lists.{any, all, only, same, zeros, vanish, first, rest}

-- ---- one test

pub either : (b : Bool) → T b ⊎ T (not b)
either true = inl tt
either false = inr tt

pub is_true : (b : Bool) → T b → b ≡ true
is_true true t = refl
is_true false t = absurd t

pub is_false : (b : Bool) → T (not b) → b ≡ false
is_false true t = absurd t
is_false false t = refl

pub or_cases : (a b : Bool) → T (a || b) → T a ⊎ T b
or_cases true b t = inl tt
or_cases false b t = inr t

pub or_left : (a b : Bool) → T a → T (a || b)
or_left true b t = tt
or_left false b t = absurd t

pub or_right : (a b : Bool) → T b → T (a || b)
or_right true b t = tt
or_right false b t = t

-- what is x where the test passes and y where it fails
pub if-cases : {A : Type 0} (b : Bool) {r x y : A} → (T b → r ≡ x) → (T (not b) → r ≡ y) → r ≡ (when b then x else y)
unfolding when◌then◌else◌
if-cases true f g = f tt
if-cases false f g = g tt

-- ---- members

abbrev pub In : {A : Type 0} → A → List A → Type 0
In a l = Memᴰ a l

-- a member of a list that x may stand before
if-in : {A : Type 0} (b : Bool) {w x : A} {l : List A} → In w (when b then x ∷ l else l) → (T b × (w ≡ x)) ⊎ In w l
unfolding when◌then◌else◌
if-in true m = elim (Memᴰ.cases_cons m) [ inl e ↦ inl (tt, e) | inr h ↦ inr h ]
if-in false m = inr m

in-if : {A : Type 0} (b : Bool) {w x : A} {l : List A} → (T b × (w ≡ x)) ⊎ In w l → In w (when b then x ∷ l else l)
unfolding when◌then◌else◌
in-if true (inl h) = Memᴰ.head h.1
in-if true (inr m) = Memᴰ.tail m
in-if false (inl h) = absurd h.0
in-if false (inr m) = m

module _ {A : Type 0} (p : A → Bool) where
  pub any-in : (l : List A) → T (any p l) → (w : A) × In w l × T (p w)
  unfolding any
  any-in [] t = absurd t
  any-in (x ∷ xs) t =
      elim (or_cases (p x) (any p xs) t) [
        | inl h ↦ (x, Memᴰ.head refl, h)
        | inr h ↦ let r = any-in xs h in (r.0, Memᴰ.tail r.1, r.2)
      ]

  pub in-any : {w : A} (l : List A) → In w l → T (p w) → T (any p l)
  unfolding any
  in-any [] m t = absurd (Memᴰ.not-nil m)
  in-any (x ∷ xs) m t =
      elim (Memᴰ.cases_cons m) [
        | inl e ↦ or_left (p x) (any p xs) (subst (λ y. T (p y)) e t)
        | inr h ↦ or_right (p x) (any p xs) (in-any xs h t)
      ]

  pub all_in : {w : A} (l : List A) → T (all p l) → In w l → T (p w)
  unfolding all
  all_in [] t m = absurd (Memᴰ.not-nil m)
  all_in (x ∷ xs) t m =
      elim (Memᴰ.cases_cons m) [
        | inl e ↦ subst (λ y. T (p y)) (sym e) (both_left (p x) (all p xs) t)
        | inr h ↦ all_in xs (both_right (p x) (all p xs) t) h
      ]

  pub in_all : (l : List A) → ((w : A) → In w l → T (p w)) → T (all p l)
  unfolding all
  in_all [] h = tt
  in_all (x ∷ xs) h = both (p x) (all p xs) (h x (Memᴰ.head refl)) (in_all xs (λ w m. h w (Memᴰ.tail m)))

  pub all_left : (a b : List A) → T (all p (a ++ b)) → T (all p a)
  unfolding all
  all_left [] b t = tt
  all_left (x ∷ xs) b t =
      both (p x) (all p xs) (both_left (p x) (all p (xs ++ b)) t) (all_left xs b (both_right (p x) (all p (xs ++ b)) t))

  pub all_right : (a b : List A) → T (all p (a ++ b)) → T (all p b)
  unfolding all
  all_right [] b t = t
  all_right (x ∷ xs) b t = all_right xs b (both_right (p x) (all p (xs ++ b)) t)

  pub all_append : (a b : List A) → T (all p a) → T (all p b) → T (all p (a ++ b))
  unfolding all
  all_append [] b s t = t
  all_append (x ∷ xs) b s t =
      both (p x) (all p (xs ++ b)) (both_left (p x) (all p xs) s) (all_append xs b (both_right (p x) (all p xs) s) t)

  pub only-in : {w : A} (l : List A) → In w (only p l) → In w l × T (p w)
  unfolding only
  only-in [] m = absurd (Memᴰ.not-nil m)
  only-in (x ∷ xs) m =
      elim (if-in (p x) m) [
        | inl h ↦ (Memᴰ.head h.1, subst (λ y. T (p y)) (sym h.1) h.0)
        | inr h ↦ let r = only-in xs h in (Memᴰ.tail r.0, r.1)
      ]

  pub in-only : {w : A} (l : List A) → In w l → T (p w) → In w (only p l)
  unfolding only
  in-only [] m t = m
  in-only (x ∷ xs) m t =
      in-if (p x) (elim (Memᴰ.cases_cons m) [ inl e ↦ inl (subst (λ y. T (p y)) e t, e) | inr h ↦ inr (in-only xs h t) ])

pub up_in : (k n : ℕ) {y : ℕ} → In y (up_from k n) → (k ≤ y) × (y < k + n)
unfolding up_from
up_in k zero m = absurd (Memᴰ.not-nil m)
up_in k (suc n) {y} m =
    elim (Memᴰ.cases_cons m) [
      | inl e ↦ (omega arith, omega arith)
      | inr h ↦ let r = up_in (suc k) n h in (omega arith, omega arith)
    ]

pub in-up : (k n y : ℕ) → k ≤ y → y < k + n → In y (up_from k n)
unfolding up_from
in-up k zero y h l = absurd (omega arith)
in-up k (suc n) y h l =
    elim (eq-or-lt_of_le h) [ inl e ↦ Memᴰ.head (sym e) | inr g ↦ Memᴰ.tail (in-up (suc k) n y g (omega arith)) ]

-- ---- vectors

pub all_first : (p : ℕ → Bool) → T (p 0) → (v : List ℕ) → T (all p v) → T (p (first v))
unfolding all first
all_first p z [] t = z
all_first p z (x ∷ xs) t = both_left (p x) (all p xs) t

pub all_rest : (p : ℕ → Bool) (v : List ℕ) → T (all p v) → T (all p (rest v))
unfolding all rest
all_rest p [] t = tt
all_rest p (x ∷ xs) t = both_right (p x) (all p xs) t

pub same→eq : (a b : List ℕ) → T (same a b) → a ≡ b
unfolding same
same→eq [] [] t = refl
same→eq [] (y ∷ ys) t = absurd t
same→eq (x ∷ xs) [] t = absurd t
same→eq (x ∷ xs) (y ∷ ys) t =
    ap₂ ◌∷◌ (eqb→eq x y (both_left (eqb x y) (same xs ys) t)) (same→eq xs ys (both_right (eqb x y) (same xs ys) t))

pub same_refl : (a : List ℕ) → T (same a a)
unfolding same
same_refl [] = tt
same_refl (x ∷ xs) = both (eqb x x) (same xs xs) (eqb_refl x) (same_refl xs)

pub vanish→zeros : (l : List ℕ) → T (vanish l) → l ≡ zeros l
unfolding vanish all zeros
vanish→zeros [] t = refl
vanish→zeros (x ∷ xs) t =
    ap₂ ◌∷◌ (eqb→eq x 0 (both_left (eqb x 0) (vanish xs) t)) (vanish→zeros xs (both_right (eqb x 0) (vanish xs) t))

pub zeros-vanish : {A : Type 0} (l : List A) → T (vanish (zeros l))
unfolding vanish all zeros
zeros-vanish [] = tt
zeros-vanish (x ∷ xs) = zeros-vanish xs

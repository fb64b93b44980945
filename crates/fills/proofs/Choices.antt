-- What `choices` lists: exactly the vectors that agree. Assumes nothing.
use mathlib.Core.Path.{◌≡◌, refl, sym, ap, ◌∙◌, subst}
use mathlib.Core.Logic.{inl, inr}
use mathlib.Core.Bool.{Bool, true, false}
use mathlib.Core.List.Memᴰ
use mathlib.Core.List.{List, [], ◌∷◌, map}
use Prim.Native.Nat.{ℕ, zero, suc, ◌<◌}
use native.Mathlib.Nat.{suc_inj}
use native.Mathlib.Omega.{arith}
use lib.Dec.{T, ltb, ltb→lt}
use lib.ListN.{length, get_or}
use Rattle.field.specs.Field.{Field, size}
use Rattle.field.proofs.Test.{both_left, both_right}
use Rattle.field.proofs.Ring.{size-pos}
use Rattle.fills.specs.Lists.{all, zeros, first, rest, beside}
use Rattle.fills.specs.Fill.{options, before, one_of_each, choices}
use Rattle.fills.proofs.Tests.{In, up_in, in-up}

-- ---- how vectors and marks compare

-- y may stand at a place that holds x: any symbol where it is marked, x where not
abbrev pub Allowed : Field → Bool → ℕ → ℕ → Type 0
Allowed F true x y = y < size F
Allowed F false x y = y ≡ x

-- w is as long as the marks, has v's entries where unmarked and holds symbols where marked
abbrev pub Agrees : Field → List Bool → List ℕ → List ℕ → Type 0
Agrees F [] v w = w ≡ []
Agrees F (m ∷ ms) v [] = ⊥
Agrees F (m ∷ ms) v (y ∷ ys) = Allowed F m (first v) y × Agrees F ms (rest v) ys

abbrev pub are_symbols : Field → List ℕ → Bool
are_symbols F v = all (λ y. ltb y (size F)) v

-- the two vectors have the same entries where unmarked
abbrev pub Alike : List Bool → List ℕ → List ℕ → Type 0
Alike [] v w = Unit {0}
Alike (true ∷ ms) v w = Alike ms (rest v) (rest w)
Alike (false ∷ ms) v w = (first v ≡ first w) × Alike ms (rest v) (rest w)

-- what the first marks mark, the second mark too
abbrev pub Inside : List Bool → List Bool → Type 0
Inside [] [] = Unit {0}
Inside [] (n ∷ ns) = ⊥
Inside (m ∷ ms) [] = ⊥
Inside (m ∷ ms) (n ∷ ns) = (T m → T n) × Inside ms ns

-- ---- place by place

pub get_or-first : (v : List ℕ) → get_or v 0 0 ≡ first v
unfolding first
get_or-first [] = refl
get_or-first (x ∷ v) = refl

pub get_or-rest : (v : List ℕ) (i : ℕ) → get_or v (suc i) 0 ≡ get_or (rest v) i 0
unfolding rest
get_or-rest [] i = refl
get_or-rest (x ∷ v) i = refl

-- alike vectors have the same entry wherever no mark stands
pub alike_at : (ms : List Bool) (v w : List ℕ) → Alike ms v w → (i : ℕ) → get_or ms i true ≡ false → get_or v i 0 ≡ get_or w i 0
alike_at [] v w a i e = absurd (subst T e tt)
alike_at (true ∷ ms) v w a zero e = absurd (subst T e tt)
alike_at (false ∷ ms) v w a zero e = get_or-first v ∙ a.0 ∙ sym (get_or-first w)
alike_at (true ∷ ms) v w a (suc i) e = get_or-rest v i ∙ alike_at ms (rest v) (rest w) a i e ∙ sym (get_or-rest w i)
alike_at (false ∷ ms) v w a (suc i) e = get_or-rest v i ∙ alike_at ms (rest v) (rest w) a.1 i e ∙ sym (get_or-rest w i)

-- ---- choices

module _ (F : Field) where
  pub agrees-length : (ms : List Bool) (v w : List ℕ) → Agrees F ms v w → length w ≡ length ms
  agrees-length [] v w a = ap length a
  agrees-length (m ∷ ms) v [] a = absurd a
  agrees-length (m ∷ ms) v (y ∷ ys) a = ap suc (agrees-length ms (rest v) ys a.1)

  pub agrees-alike : (ms : List Bool) (v w : List ℕ) → Agrees F ms v w → Alike ms v w
  unfolding first rest
  agrees-alike [] v w a = tt
  agrees-alike (m ∷ ms) v [] a = absurd a
  agrees-alike (true ∷ ms) v (y ∷ ys) a = agrees-alike ms (rest v) ys a.1
  agrees-alike (false ∷ ms) v (y ∷ ys) a = (sym a.0, agrees-alike ms (rest v) ys a.1)

  pub alike-agrees : (ms : List Bool) (v w : List ℕ) → Alike ms v w → length w ≡ length ms → T (are_symbols F w) → Agrees F ms v w
  unfolding all first rest
  alike-agrees [] v [] a l t = refl
  alike-agrees [] v (y ∷ ys) a l t = absurd (omega arith)
  alike-agrees (m ∷ ms) v [] a l t = absurd (omega arith)
  alike-agrees (true ∷ ms) v (y ∷ ys) a l t = (
    ltb→lt y (size F) (both_left (ltb y (size F)) (are_symbols F ys) t),
    alike-agrees ms (rest v) ys a (suc_inj l) (both_right (ltb y (size F)) (are_symbols F ys) t),
  )
  alike-agrees (false ∷ ms) v (y ∷ ys) a l t =
      (sym a.0, alike-agrees ms (rest v) ys a.1 (suc_inj l) (both_right (ltb y (size F)) (are_symbols F ys) t))

  widen : (m n : Bool) (y : ℕ) → (T m → T n) → Allowed F m 0 y → Allowed F n 0 y
  widen true true y i h = h
  widen true false y i h = absurd (i tt)
  widen false true y i h = subst (λ x. x < size F) (sym h) (size-pos F)
  widen false false y i h = h

  -- a vector that is zero where unmarked is so under more marks
  pub inside-agrees : (ms ns : List Bool) (w : List ℕ) → Inside ms ns → Agrees F ms (zeros ms) w → Agrees F ns (zeros ns) w
  unfolding zeros first rest
  inside-agrees [] [] w i a = a
  inside-agrees [] (n ∷ ns) w i a = absurd i
  inside-agrees (m ∷ ms) [] w i a = absurd i
  inside-agrees (m ∷ ms) (n ∷ ns) [] i a = absurd a
  inside-agrees (m ∷ ms) (n ∷ ns) (y ∷ ys) i a = (widen m n y i.0 a.0, inside-agrees ms ns ys i.1 a.1)

-- ---- what is listed

before-in : (xs : List ℕ) (tails : List (List ℕ)) {w : List ℕ} → In w (before xs tails)
    → (x : ℕ) × (t : List ℕ) × In x xs × In t tails × (w ≡ x ∷ t)
unfolding before
before-in [] tails m = absurd (Memᴰ.not-nil m)
before-in (x ∷ xs) tails m =
    elim (Memᴰ.append_cases (map (λ t. x ∷ t) tails) m) [
      | inl h ↦ let r = Memᴰ.of_map (λ t. x ∷ t) tails h in (x, r.0, Memᴰ.head refl, r.1, sym r.2)
      | inr h ↦ let r = before-in xs tails h in (r.0, r.1, Memᴰ.tail r.2, r.3, r.4)
    ]

in-before : (xs : List ℕ) (tails : List (List ℕ)) {x : ℕ} {t : List ℕ} → In x xs → In t tails → In (x ∷ t) (before xs tails)
unfolding before
in-before [] tails m n = absurd (Memᴰ.not-nil m)
in-before (z ∷ xs) tails {x} {t} m n =
    elim (Memᴰ.cases_cons m) [
      | inl e ↦ Memᴰ.append_left (before xs tails) (Memᴰ.cast (ap (λ y. y ∷ t) e) (Memᴰ.map (λ s. z ∷ s) n))
      | inr h ↦ Memᴰ.append_right (map (λ s. z ∷ s) tails) (in-before xs tails h n)
    ]

module _ (F : Field) where
  options-in : (m : Bool) (x y : ℕ) → In y (options F m x) → Allowed F m x y
  unfolding options
  options-in true x y h = let r = up_in 0 (size F) h in omega arith
  options-in false x y h = Memᴰ.eq_of_singleton h

  in-options : (m : Bool) (x y : ℕ) → Allowed F m x y → In y (options F m x)
  unfolding options
  in-options true x y h = in-up 0 (size F) y (omega arith) (omega arith)
  in-options false x y h = Memᴰ.head h

  pub choices-in : (ms : List Bool) (v w : List ℕ) → In w (choices F ms v) → Agrees F ms v w
  unfolding beside one_of_each choices
  choices-in [] v w h = Memᴰ.eq_of_singleton h
  choices-in (m ∷ ms) v w h =
      let r = before-in (options F m (first v)) (choices F ms (rest v)) h in
      subst (Agrees F (m ∷ ms) v) (sym r.4) (options-in m (first v) r.0 r.2, choices-in ms (rest v) r.1 r.3)

  pub in-choices : (ms : List Bool) (v w : List ℕ) → Agrees F ms v w → In w (choices F ms v)
  unfolding beside one_of_each choices
  in-choices [] v w a = Memᴰ.head a
  in-choices (m ∷ ms) v [] a = absurd a
  in-choices (m ∷ ms) v (y ∷ ys) a =
      in-before (options F m (first v)) (choices F ms (rest v)) (in-options m (first v) y a.0) (in-choices ms (rest v) ys a.1)

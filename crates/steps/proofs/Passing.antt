-- A level's checks: how the fills of all of them end the level, and what is known once some of them are passed. Assumes nothing.
use mathlib.Core.Path.{◌≡◌, refl, sym, ap, ap₂, ◌∙◌, subst}
use mathlib.Core.Bool.{Bool, true, false, not}
use mathlib.Core.Logic.{inl, inr}
use mathlib.Core.List.Memᴰ
use mathlib.Core.List.{List, [], ◌∷◌, ◌++◌, map, append_assoc, append-nil}
use Prim.Native.Nat.{ℕ, suc, ◌+◌, ◌-◌, ◌≤◌, ◌<◌}
use native.Mathlib.Numerals.{add-one}
use native.Mathlib.Omega.{arith}
use lib.Dec.{T, T_not, not_T}
use lib.ListN.{length, length-append}
use Rattle.field.specs.Lists.{when◌then◌else◌, up_from}
use Rattle.fills.specs.Lists.{any}
use Rattle.fills.specs.Fill.{Fill, none, tied, one, is_none}
use Rattle.fills.proofs.Tests.{In, is_true, is_false, any-in, in-any}
use Rattle.steps.specs.Steps.{Learned, failing, blocked, learned}

-- the vectors are the fillings, one for each
abbrev pub Ones : {A : Type 0} → (A → Fill) → List A → List (List ℕ) → Type 0
Ones f [] [] = Unit {0}
Ones f [] (v ∷ vs) = ⊥
Ones f (x ∷ xs) [] = ⊥
Ones f (x ∷ xs) (v ∷ vs) = (f x ≡ one v) × Ones f xs vs

-- ---- all checks

none_told : (a : Fill) → T (is_none a) → a ≡ none
unfolding is_none
none_told none t = refl
none_told tied t = absurd t
none_told (one v) t = absurd t

-- the fills f of the checks, whose vectors are g, with weight columns that are dependent or not
module _ {A : Type 0} (f : A → Fill) (g : A → List ℕ) (D : Bool) where
  -- some check has no filling
  abbrev lacks : List A → Bool
  lacks xs = any (λ x. is_none (f x)) xs

  -- the three cases of a level
  abbrev pub ends : List A → Learned
  ends xs = when lacks xs then failing else when D then blocked else learned (map g xs)

  -- each check has a filling
  abbrev pub Each : List A → Type 0
  Each xs = (x : A) → In x xs → f x ≡ none → ⊥

  by : List A → (c d : Bool) → Learned
  by xs c d = when c then failing else when d then blocked else learned (map g xs)

  none-lacks : (xs : List A) → Each xs → lacks xs ≡ false
  none-lacks xs h =
      is_false (lacks xs) (not_T (lacks xs) (λ t. let r = any-in (λ x. is_none (f x)) xs t in h r.0 r.1 (none_told (f r.0) r.2)))

  some-lacks : (xs : List A) (x : A) → In x xs → f x ≡ none → T (lacks xs)
  unfolding is_none
  some-lacks xs x m e = in-any (λ x. is_none (f x)) xs m (subst (λ a. T (is_none a)) (sym e) tt)

  pub ends-failing : (xs : List A) (x : A) → In x xs → f x ≡ none → ends xs ≡ failing
  unfolding when◌then◌else◌ by
  ends-failing xs x m e = ap (λ c. by xs c D) (is_true (lacks xs) (some-lacks xs x m e))

  pub ends-blocked : (xs : List A) → Each xs → T D → ends xs ≡ blocked
  unfolding when◌then◌else◌ by
  ends-blocked xs h t = ap₂ (by xs) (none-lacks xs h) (is_true D t)

  pub ends-learned : (xs : List A) → Each xs → T (not D) → ends xs ≡ learned (map g xs)
  unfolding when◌then◌else◌ by
  ends-learned xs h t = ap₂ (by xs) (none-lacks xs h) (is_false D t)

  -- and what each says
  pub blocked-told : (xs : List A) → ends xs ≡ blocked → T D
  unfolding when◌then◌else◌ by
  blocked-told xs = go (lacks xs) D
    where
      go : (c d : Bool) → by xs c d ≡ blocked → T d
      go c true e = tt
      go true false e = let z : ◌≡◌ {A = ℕ} 0 1 = cc in absurd (omega arith)
      go false false e = let z : ◌≡◌ {A = ℕ} 0 1 = cc in absurd (omega arith)

  pub learned-told : (xs : List A) (vs : List (List ℕ)) → ends xs ≡ learned vs → (map g xs ≡ vs) × T (not D) × Each xs
  unfolding when◌then◌else◌ by
  learned-told xs vs e = let r = go (lacks xs) refl D e in (r.0, r.1, λ x m h. subst T r.2 (some-lacks xs x m h))
    where
      go : (c : Bool) → lacks xs ≡ c → (d : Bool) → by xs c d ≡ learned vs → (map g xs ≡ vs) × T (not d) × (lacks xs ≡ false)
      go true q d e = let z : ◌≡◌ {A = ℕ} 0 1 = cc in absurd (omega arith)
      go false q true e = let z : ◌≡◌ {A = ℕ} 0 1 = cc in absurd (omega arith)
      go false q false e = (cc, tt, q)

  -- independent weight columns leave no check tied: a learned level has its vectors from the fills
  pub ones-told : ((x : A) → f x ≡ tied → T D) → ((x : A) (v : List ℕ) → f x ≡ one v → g x ≡ v)
      → (xs : List A) (vs : List (List ℕ)) → ends xs ≡ learned vs → Ones f xs vs
  ones-told bound own xs vs e = let r = learned-told xs vs e in subst (Ones f xs) r.0 (each xs r.2)
    where
      free : T (not D)
      free = (learned-told xs vs e).1

      one_of : (x : A) → (f x ≡ none → ⊥) → f x ≡ one (g x)
      one_of x h = go (f x) refl
        where
          go : (a : Fill) → f x ≡ a → f x ≡ one (g x)
          go none q = absurd (h q)
          go tied q = absurd (T_not D free (bound x q))
          go (one v) q = q ∙ ap one (sym (own x v q))

      each : (ys : List A) → Each ys → Ones f ys (map g ys)
      each [] h = tt
      each (y ∷ ys) h = (one_of y (h y (Memᴰ.head refl)), each ys (λ x m. h x (Memᴰ.tail m)))

-- the fills of checks that are listed by their numbers
pub ones-map : {A B : Type 0} (f : B → Fill) (h : A → B) (xs : List A) (vs : List (List ℕ)) → Ones (λ x. f (h x)) xs vs → Ones f (map h xs) vs
ones-map f h [] [] o = tt
ones-map f h [] (v ∷ vs) o = absurd o
ones-map f h (x ∷ xs) [] o = absurd o
ones-map f h (x ∷ xs) (v ∷ vs) o = (o.0, ones-map f h xs vs o.1)

-- ---- check by check

-- the checks from k on, of which there are m, are passed up to j, and gave these vectors
pub record Passed (f : ℕ → Fill) (k m : ℕ) (cs : List (List ℕ)) (j : ℕ) : Type 0 where
  pub count : k + length cs ≡ j
  pub within : j ≤ k + m
  pub whole : (ds : List (List ℕ)) → Ones f (up_from j (k + m - j)) ds → Ones f (up_from k m) (cs ++ ds)

module _ (f : ℕ → Fill) (k m : ℕ) where
  pub passed_none : Passed f k m [] k
  passed_none =
      let e : k + m - k ≡ m = omega arith in
      record { count = omega arith; within = omega arith; whole = λ ds o. subst (λ n. Ones f (up_from k n) ds) e o }

  pub passed-one : {cs : List (List ℕ)} {j : ℕ} {c : List ℕ} → j < k + m → f j ≡ one c → Passed f k m cs j → Passed f k m (cs ++ (c ∷ [])) (j + 1)
  unfolding up_from
  passed-one {cs} {j} {c} more e s =
      let g : suc (k + m - suc j) ≡ k + m - j = omega arith in
      record {
        count = omega (arith, s.count, length-append cs (c ∷ []));
        within = omega arith;
        whole = λ ds o.
            subst (Ones f (up_from k m)) (sym (append_assoc cs (c ∷ []) ds))
            (s.whole (c ∷ ds) (subst (λ n. Ones f (up_from j n) (c ∷ ds)) g (e, rw (add-one j) at o)));
      }

  pub passed-all : {cs : List (List ℕ)} {j : ℕ} → k + m ≤ j → Passed f k m cs j → Ones f (up_from k m) cs
  unfolding up_from
  passed-all {cs} {j} all s =
      let e : 0 ≡ k + m - j = omega arith in
      subst (Ones f (up_from k m)) (append-nil cs) (s.whole [] (subst (λ n. Ones f (up_from j n) []) e tt))

-- every check has its filling, and no weight columns are dependent: the level is learned
pub ones-learned : {A : Type 0} (f : A → Fill) (g : A → List ℕ) (D : Bool) → T (not D) → ((x : A) (v : List ℕ) → f x ≡ one v → g x ≡ v)
    → (xs : List A) (vs : List (List ℕ)) → Ones f xs vs → ends f g D xs ≡ learned vs
ones-learned {A} f g D free own xs vs o = ends-learned f g D xs (each xs vs o) free ∙ ap learned (same xs vs o)
  where
    each : (xs : List A) (vs : List (List ℕ)) → Ones f xs vs → Each f g D xs
    each [] [] o x m e = absurd (Memᴰ.not-nil m)
    each [] (v ∷ vs) o x m e = absurd o
    each (y ∷ xs) [] o x m e = absurd o
    each (y ∷ xs) (v ∷ vs) o x m e =
        elim (Memᴰ.cases_cons m) [
          | inl q ↦ let z : ◌≡◌ {A = Fill} none (one v) = sym (ap f (sym q) ∙ e) ∙ o.0 in let z : ◌≡◌ {A = ℕ} 0 1 = cc in absurd (omega arith)
          | inr h ↦ each xs vs o.1 x h e
        ]

    same : (xs : List A) (vs : List (List ℕ)) → Ones f xs vs → map g xs ≡ vs
    same [] [] o = refl
    same [] (v ∷ vs) o = absurd o
    same (y ∷ xs) [] o = absurd o
    same (y ∷ xs) (v ∷ vs) o = ap₂ ◌∷◌ (own y v o.0) (same xs vs o.1)

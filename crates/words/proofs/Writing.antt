-- Buffers written from a place on: runs of stores, and the loops that make them. Assumes nothing.
use mathlib.Core.Path.{◌≡◌, refl, sym, ap, ap₂, ◌∙◌, subst}
use mathlib.Core.List.{List, [], ◌∷◌, ◌++◌, flat_map, append-nil, map-id}
use Prim.Native.Nat.{ℕ, ◌+◌, ◌≤◌, ◌<◌}
use native.Mathlib.Nat.{add-zero, add_assoc}
use native.Mathlib.Numerals.{add-one}
use native.Mathlib.Omega.{arith}
use lib.ListN.{length, get_or, set, take, length-append}
use lib.Seq.{sets, length-sets, length-take-le, take_all, take-suc}
use Rattle.field.specs.Lists.{up_from}
use Rattle.field.proofs.Lists.{length_up, get_or-map-below}
use Rattle.words.specs.Written.{Put}
use Rattle.words.proofs.Stores.{take-sets, sets-append, sets-whole, flat_append}

-- ---- what was put

-- the buffer stays as long as it was
pub put-length : {old new : List ℕ} {at i : ℕ} {xs : List ℕ} → Put old at xs i new → length new ≡ length old
put-length {old} {at = at} {xs = xs} p = ap length p.written ∙ length-sets old at xs

-- what was put behind what was put
pub put_then : {old l k : List ℕ} {at i j : ℕ} {xs ys : List ℕ} → Put old at xs i l → Put l i ys j k → Put old at (xs ++ ys) j k
put_then {old} {at} {xs} {ys} p q = record {
  reached = q.reached ∙ ap (λ n. n + length ys) p.reached ∙ add_assoc at (length xs) (length ys) ∙ ap (λ n. at + n) (sym (length-append xs ys));
  inside = omega (arith, q.inside, put-length p);
  written = q.written ∙ ap₂ (λ l i. sets l i ys) p.written p.reached ∙ sym (sets-append xs ys old at);
}

pub put_is : {old l : List ℕ} {at i : ℕ} {xs ys : List ℕ} → ys ≡ xs → Put old at xs i l → Put old at ys i l
put_is {old} {l} {at} {i} e p = subst (λ zs. Put old at zs i l) (sym e) p

pub put_one : {old l : List ℕ} {at i : ℕ} {xs : List ℕ} → Put old at xs i l → i < length l → (v : ℕ) → Put old at (xs ++ (v ∷ [])) (i + 1) (set l i v)
put_one p h v = put_then {ys = v ∷ []} p record { reached = refl; inside = omega arith; written = refl }

-- what was put over the whole of a buffer
pub put_whole : {old new : List ℕ} {i : ℕ} {xs : List ℕ} → Put old 0 xs i new → length xs ≡ length old → new ≡ xs
put_whole {old} {xs = xs} p e = p.written ∙ sets-whole xs old e

-- what was written at the front is read there
pub front-set : (n : ℕ) (x l : List ℕ) → length x ≡ n → n ≤ length l → take n (sets l 0 x) ≡ x
front-set n x l e h = take-sets n x l 0 ∙ sets-whole x (take n l) (e ∙ sym (length-take-le n l h))

-- ---- a loop that writes a list, one number a turn

-- the first i of xs are written from `at` on
pub record Writing (old : List ℕ) (at : ℕ) (xs : List ℕ) (i : ℕ) (l : List ℕ) : Type 0 where
  pub within : i ≤ length xs
  pub written : l ≡ sets old at (take i xs)

module _ (old : List ℕ) (at : ℕ) (xs : List ℕ) where
  pub writing-starts : Writing old at xs 0 old
  writing-starts = record { within = omega arith; written = refl }

  pub writing-length : {i : ℕ} {l : List ℕ} → Writing old at xs i l → length l ≡ length old
  writing-length {i} h = ap length h.written ∙ length-sets old at (take i xs)

  pub writing-turns : {i : ℕ} {l : List ℕ} {j v : ℕ} → Writing old at xs i l → i < length xs → j ≡ at + i → v ≡ get_or xs i 0
      → Writing old at xs (i + 1) (set l j v)
  writing-turns {i} {l} {j} h more place e = record {
    within = omega arith;
    written = ap₂ (λ k w. set l k w) place e ∙ ap (λ l. set l (at + i) (get_or xs i 0)) h.written ∙ next;
  }
    where
      next : set (sets old at (take i xs)) (at + i) (get_or xs i 0) ≡ sets old at (take (i + 1) xs)
      next =
          ap (λ k. set (sets old at (take i xs)) (at + k) (get_or xs i 0)) (sym (length-take-le i xs (omega arith)))
          ∙ sym (sets-append (take i xs) (get_or xs i 0 ∷ []) old at) ∙ ap (sets old at) (sym (take-suc xs i 0 more))
          ∙ ap (λ k. sets old at (take k xs)) (sym (add-one i))

  pub writing-ends : {i : ℕ} {l : List ℕ} → Writing old at xs i l → length xs ≤ i → l ≡ sets old at xs
  writing-ends {i} h all = h.written ∙ ap (sets old at) (take_all i xs all)

  -- a list that is written over one as long
  pub writing-whole : {i : ℕ} {l : List ℕ} → Writing old at xs i l → at ≡ 0 → length xs ≡ length old → length old ≤ i → l ≡ xs
  writing-whole h front long all = writing-ends h (omega arith) ∙ ap (λ n. sets old n xs) front ∙ sets-whole xs old long

  pub writing-put : {i : ℕ} {l : List ℕ} {next : ℕ} → Writing old at xs i l → length xs ≤ i → next ≡ at + length xs → next ≤ length old
      → Put old at xs next l
  writing-put h all n within = record { reached = n; inside = within; written = writing-ends h all }

-- ---- a loop that writes a list for each number, one a turn

get_or-up : (n i : ℕ) → i < n → get_or (up_from 0 n) i 0 ≡ i
get_or-up n i h = ap (λ l. get_or l i 0) (sym (map-id (up_from 0 n))) ∙ get_or-map-below (λ x. x) n i 0 h

module _ (f : ℕ → List ℕ) where
  -- what f gives for the first i of xs is written from `at` up to `next`
  pub record Joining (old : List ℕ) (at : ℕ) (xs : List ℕ) (i : ℕ) (l : List ℕ) (next : ℕ) : Type 0 where
    pub within : i ≤ length xs
    pub written : l ≡ sets old at (flat_map f (take i xs))
    pub reached : next ≡ at + length (flat_map f (take i xs))

  module _ (old : List ℕ) (at : ℕ) (xs : List ℕ) where
    pub joining-starts : Joining old at xs 0 old at
    unfolding flat_map
    joining-starts = record { within = omega arith; written = refl; reached = sym (add-zero at) }

    pub joining-length : {i : ℕ} {l : List ℕ} {next : ℕ} → Joining old at xs i l next → length l ≡ length old
    joining-length {i} h = ap length h.written ∙ length-sets old at (flat_map f (take i xs))

    pub joining-turns : {i : ℕ} {l : List ℕ} {next : ℕ} {y l' : List ℕ} {next' : ℕ} → Joining old at xs i l next → i < length xs
        → y ≡ f (get_or xs i 0) → l' ≡ sets l next y → next' ≡ next + length y → Joining old at xs (i + 1) l' next'
    unfolding flat_map
    joining-turns {i} {l} {next} {y} h more e w n = record {
      within = omega arith;
      written =
          w ∙ ap₂ (λ l y. sets l next y) h.written e ∙ ap (λ k. sets (sets old at done) k (f (get_or xs i 0))) h.reached
          ∙ sym (sets-append done (f (get_or xs i 0)) old at) ∙ ap (sets old at) grown;
      reached =
          n ∙ ap₂ (λ k y. k + length y) h.reached e ∙ add_assoc at (length done) (length (f (get_or xs i 0)))
          ∙ ap (λ k. at + k) (sym (length-append done (f (get_or xs i 0))) ∙ ap length grown);
    }
      where
        done : List ℕ
        done = flat_map f (take i xs)

        grown : done ++ f (get_or xs i 0) ≡ flat_map f (take (i + 1) xs)
        grown =
            sym (flat_append f (take i xs) (get_or xs i 0 ∷ []) ∙ ap (λ l. done ++ l) (append-nil (f (get_or xs i 0))))
            ∙ ap (flat_map f) (sym (take-suc xs i 0 more)) ∙ ap (λ k. flat_map f (take k xs)) (sym (add-one i))

    pub joining-ends : {i : ℕ} {l : List ℕ} {next : ℕ} → Joining old at xs i l next → length xs ≤ i → next ≤ length old
        → Put old at (flat_map f xs) next l
    joining-ends {i} h all within =
        let e = ap (flat_map f) (take_all i xs all) in
        record { reached = h.reached ∙ ap (λ l. at + length l) e; inside = within; written = h.written ∙ ap (sets old at) e }

  -- the same for the numbers below n
  pub counting-turns : (old : List ℕ) (at n : ℕ) {i : ℕ} {l : List ℕ} {next : ℕ} {y l' : List ℕ} {next' : ℕ}
      → Joining old at (up_from 0 n) i l next → i < n → y ≡ f i → l' ≡ sets l next y → next' ≡ next + length y
      → Joining old at (up_from 0 n) (i + 1) l' next'
  counting-turns old at n {i} h more e =
      joining-turns old at (up_from 0 n) h (omega (arith, length_up 0 n)) (e ∙ ap f (sym (get_or-up n i more)))

  pub counting-ends : (old : List ℕ) (at n : ℕ) {i : ℕ} {l : List ℕ} {next : ℕ} → Joining old at (up_from 0 n) i l next → n ≤ i → next ≤ length old
      → Put old at (flat_map f (up_from 0 n)) next l
  counting-ends old at n h all within = joining-ends old at (up_from 0 n) h (omega (arith, length_up 0 n)) within

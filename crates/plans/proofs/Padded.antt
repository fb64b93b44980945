-- A list copied over zeros, by a loop or at once, for every length. Assumes nothing.
use mathlib.Core.Path.{◌≡◌, refl, sym, ap, subst, ◌∙◌}
use mathlib.Core.List.{List, [], ◌∷◌, ◌++◌}
use Prim.Native.Nat.{ℕ, suc, ◌+◌, ◌-◌, ◌≤◌, ◌<◌}
use native.Mathlib.Nat.{add-sub_of_le, sub-zero, zero-add}
use native.Mathlib.Numerals.{add-one}
use native.Mathlib.Omega.{arith}
use lib.ListN.{length, get_or, set, take, drop, replicate, length-append, length-replicate}
use lib.Seq.{length-take-le, take_all, take-suc, set-append_seam, append_snoc, sets-eq}
use Rattle.std.proofs.lemmas.List.{drop-replicate}
use Rattle.words.specs.Written.{Put}
use Rattle.plans.specs.Tables.{padded}

pub length-padded : (n : ℕ) (xs : List ℕ) → length xs ≤ n → length (padded n xs) ≡ n
unfolding padded
length-padded n xs h =
    length-append xs (replicate (n - length xs) 0) ∙ ap (λ k. length xs + k) (length-replicate (n - length xs) 0) ∙ add-sub_of_le h

-- the first zero gives way to x
put : (n : ℕ) (front : List ℕ) (x : ℕ) (left : ℕ) → n - length front ≡ suc left → n - length (front ++ (x ∷ [])) ≡ left
    → set (padded n front) (length front) x ≡ padded n (front ++ (x ∷ []))
unfolding padded
put n front x left before after =
    ap (λ k. set (front ++ replicate k 0) (length front) x) before
    ∙ set-append_seam front 0 (replicate left 0) x
    ∙ sym (append_snoc front x (replicate left 0))
    ∙ ap (λ k. (front ++ (x ∷ [])) ++ replicate k 0) (sym after)

-- the first i of xs are copied
pub record Padding (n : ℕ) (xs : List ℕ) (i : ℕ) (l : List ℕ) : Type 0 where
  pub within : i ≤ length xs
  pub copied : l ≡ padded n (take i xs)

module _ (n : ℕ) (xs : List ℕ) (fits : length xs ≤ n) where
  pub padding-starts : Padding n xs 0 (replicate n 0)
  unfolding padded
  padding-starts = record { within = omega arith; copied = rw sub-zero }

  pub padding-turns : {i : ℕ} {l : List ℕ} → Padding n xs i l → i < length xs → Padding n xs (i + 1) (set l i (get_or xs i 0))
  padding-turns {i} h more = record { within = omega arith; copied = rw (h.copied, add-one i, take-suc xs i 0) (go (length-take-le i xs h.within)) }
    where
      go : length (take i xs) ≡ i → set (padded n (take i xs)) i (get_or xs i 0) ≡ padded n (take i xs ++ (get_or xs i 0 ∷ []))
      go e =
          subst (λ k. set (padded n (take i xs)) k (get_or xs i 0) ≡ padded n (take i xs ++ (get_or xs i 0 ∷ []))) e
          (put n (take i xs) (get_or xs i 0) (n - suc i) (omega arith) (rw length-append (omega arith)))

  pub padding-ends : {i : ℕ} {l : List ℕ} → Padding n xs i l → length xs ≤ i → l ≡ padded n xs
  padding-ends {i} h all = h.copied ∙ ap (padded n) (take_all i xs all)

-- what was copied over the front of zeros has zeros behind it
pub copied-over : (n : ℕ) (xs : List ℕ) {front : List ℕ} → front ≡ xs → front ++ drop (length xs) (replicate n 0) ≡ padded n xs
unfolding padded
copied-over n xs e = rw (e, drop-replicate {X = ℕ} (length xs) n 0) refl

-- what was put at the front of zeros has zeros behind it
pub put-padded : (n : ℕ) {i : ℕ} {xs l : List ℕ} → Put (replicate n 0) 0 xs i l → l ≡ padded n xs
unfolding padded
put-padded n {i} {xs} p =
    let long = length-replicate {A = ℕ} n 0 in
    p.written ∙ sets-eq xs (replicate n 0) 0 (omega (arith, p.reached, p.inside))
    ∙ ap (λ t. xs ++ t) (ap (λ k. drop {A = ℕ} k (replicate n 0)) (zero-add (length xs)) ∙ drop-replicate (length xs) n 0)

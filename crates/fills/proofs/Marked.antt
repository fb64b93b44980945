-- Marks and vectors, place by place: what `Agrees` and `vanish` say of each entry, for lists and for mark words. Assumes nothing.
use Prim.Native.Nat.{ℕ, zero, suc, ◌<◌}
use mathlib.Core.Path.{◌≡◌, refl, sym, ap, ◌∙◌, subst}
use mathlib.Core.Bool.{Bool, true, false}
use mathlib.Core.Logic.{◌≢◌}
use mathlib.Core.List.{List, [], ◌∷◌}
use native.Mathlib.Nat.{suc_inj, le_of_suc-le-suc}
use native.Mathlib.Decide.{ℕ_discrete}
use native.Mathlib.Omega.{arith}
use borrow.Author.Tests.{eq-eqb, ne_eqb}
use lib.Dec.{T, eqb, eqb→eq, ltb, ltb→lt}
use lib.ListN.{length, get_or, length-map}
use Rattle.field.specs.Lists.{up_from}
use Rattle.field.specs.Field.{Field, size}
use Rattle.field.proofs.Test.{both_left, both_right, both}
use Rattle.field.proofs.Ring.{size-pos}
use Rattle.field.proofs.Lists.{length_up, get_or-map-below}
use Rattle.fills.specs.Lists.{all, zeros, vanish, rest}
use Rattle.equations.specs.System.{vec, Elements}
use Rattle.equations.specs.Words.{bit_at}
use Rattle.fills.specs.Marks.{bits_of}
use Rattle.fills.proofs.Choices.{Allowed, Agrees, are_symbols, get_or-first, get_or-rest, agrees-length}

-- ---- lists

pub zeros-at : {A : Type 0} (l : List A) (c : ℕ) → vec (zeros l) c ≡ 0
unfolding zeros
zeros-at [] c = refl
zeros-at (x ∷ xs) zero = refl
zeros-at (x ∷ xs) (suc c) = zeros-at xs c

pub length-zeros : {A : Type 0} (l : List A) → length (zeros l) ≡ length l
unfolding zeros
length-zeros [] = refl
length-zeros (x ∷ xs) = ap suc (length-zeros xs)

pub vanish-at : (l : List ℕ) → T (vanish l) → (c : ℕ) → vec l c ≡ 0
unfolding vanish all
vanish-at [] t c = refl
vanish-at (x ∷ xs) t zero = eqb→eq x 0 (both_left (eqb x 0) (vanish xs) t)
vanish-at (x ∷ xs) t (suc c) = vanish-at xs (both_right (eqb x 0) (vanish xs) t) c

pub vanish-of : (l : List ℕ) → ((c : ℕ) → c < length l → vec l c ≡ 0) → T (vanish l)
unfolding vanish all
vanish-of [] h = tt
vanish-of (x ∷ xs) h =
    both (eqb x 0) (vanish xs) (subst (λ y. T (eqb y 0)) (sym (h 0 (omega arith))) tt) (vanish-of xs (λ c l. h (suc c) (omega arith)))

-- a list of symbols, which a computed test shows
pub symbols-at : (F : Field) (l : List ℕ) → T (are_symbols F l) → Elements F (vec l)
unfolding all
symbols-at F [] t c = size-pos F
symbols-at F (x ∷ xs) t zero = ltb→lt x (size F) (both_left (ltb x (size F)) (are_symbols F xs) t)
symbols-at F (x ∷ xs) t (suc c) = symbols-at F xs (both_right (ltb x (size F)) (are_symbols F xs) t) c

module _ (F : Field) where
  agrees_at : (ms : List Bool) (v w : List ℕ) → Agrees F ms v w → (c : ℕ) → c < length ms → Allowed F (get_or ms c false) (vec v c) (vec w c)
  agrees_at [] v w a c l = absurd (omega arith)
  agrees_at (m ∷ ms) v [] a c l = absurd a
  agrees_at (m ∷ ms) v (y ∷ ys) a zero l = subst (λ x. Allowed F m x y) (sym (get_or-first v)) a.0
  agrees_at (m ∷ ms) v (y ∷ ys) a (suc c) l =
      subst (λ x. Allowed F (get_or ms c false) x (vec ys c)) (sym (get_or-rest v c)) (agrees_at ms (rest v) ys a.1 c (le_of_suc-le-suc l))

  agrees-of : (ms : List Bool) (v w : List ℕ) → length w ≡ length ms
      → ((c : ℕ) → c < length ms → Allowed F (get_or ms c false) (vec v c) (vec w c)) → Agrees F ms v w
  agrees-of [] v [] e h = refl
  agrees-of [] v (y ∷ ys) e h = absurd (omega arith)
  agrees-of (m ∷ ms) v [] e h = absurd (omega arith)
  agrees-of (m ∷ ms) v (y ∷ ys) e h = (
    subst (λ x. Allowed F m x y) (get_or-first v) (h 0 (omega arith)),
    agrees-of ms (rest v) ys (suc_inj e) (λ c l. subst (λ x. Allowed F (get_or ms c false) x (vec ys c)) (get_or-rest v c) (h (suc c) (omega arith))),
  )

-- ---- mark words

pub length-bits : (n w : ℕ) → length (bits_of n w) ≡ n
unfolding bits_of
length-bits n w = length-map (up_from 0 n) _ ∙ length_up 0 n

pub bits_at : (n w c : ℕ) → c < n → get_or (bits_of n w) c false ≡ eqb (bit_at w c) 1
unfolding bits_of
bits_at n w c l = get_or-map-below (λ c. eqb (bit_at w c) 1) n c false l

bits-marked : (n w c : ℕ) → c < n → bit_at w c ≡ 1 → get_or (bits_of n w) c false ≡ true
bits-marked n w c l e = bits_at n w c l ∙ eq-eqb _ _ e

bits-unmarked : (n w c : ℕ) → c < n → bit_at w c ≢ 1 → get_or (bits_of n w) c false ≡ false
bits-unmarked n w c l ne = bits_at n w c l ∙ ne_eqb _ _ ne

module _ (F : Field) (n marks : ℕ) (v w : List ℕ) where
  module _ (a : Agrees F (bits_of n marks) v w) where
    pub agrees-size : length w ≡ n
    agrees-size = agrees-length F (bits_of n marks) v w a ∙ length-bits n marks

    entry : (c : ℕ) → c < n → Allowed F (get_or (bits_of n marks) c false) (vec v c) (vec w c)
    entry c l = agrees_at F (bits_of n marks) v w a c (rw (length-bits n marks) l)

    pub agrees-marked : (c : ℕ) → c < n → bit_at marks c ≡ 1 → vec w c < size F
    agrees-marked c l e = rw (bits-marked n marks c l e) at (entry c l)

    pub agrees-unmarked : (c : ℕ) → c < n → bit_at marks c ≢ 1 → vec w c ≡ vec v c
    agrees-unmarked c l ne = rw (bits-unmarked n marks c l ne) at (entry c l)

  pub agrees-bits : length w ≡ n → ((c : ℕ) → c < n → bit_at marks c ≡ 1 → vec w c < size F)
      → ((c : ℕ) → c < n → bit_at marks c ≢ 1 → vec w c ≡ vec v c) → Agrees F (bits_of n marks) v w
  agrees-bits e marked unmarked = agrees-of F (bits_of n marks) v w (e ∙ sym (length-bits n marks)) (λ c l. entry_of c (rw (length-bits n marks) at l))
    where
      entry_of : (c : ℕ) → c < n → Allowed F (get_or (bits_of n marks) c false) (vec v c) (vec w c)
      entry_of c l = elim (ℕ_discrete (bit_at marks c) 1) [
        | yes e ↦ rw (bits-marked n marks c l e) (marked c l e)
        | no ne ↦ rw (bits-unmarked n marks c l ne) (unmarked c l ne)
      ]

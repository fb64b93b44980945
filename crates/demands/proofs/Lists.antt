-- Lists: their members and tests, and rows of one length that stand one behind the other. Assumes nothing.
use mathlib.Core.Path.{◌≡◌, sym, ap, ◌∙◌}
use mathlib.Core.Logic.{inl, inr}
use mathlib.Core.Bool.{Bool}
use mathlib.Core.List.Memᴰ
use mathlib.Core.List.{List, [], ◌∷◌, ◌++◌, map, flat_map}
use Prim.Native.Nat.{ℕ, zero, suc, ◌+◌, ◌*◌, ◌<◌}
use native.Mathlib.Nat.{suc-mul, zero-mul}
use native.Mathlib.Omega.{arith}
use lib.Dec.{T}
use lib.ListN.{length, take, drop, get_or}
use lib.Seq.{take_at, drop_at, take-append_seam, drop-append_seam, drop-append-add}
use Rattle.field.specs.Lists.{up_from}
use Rattle.field.proofs.Test.{both}
use Rattle.fills.specs.Lists.{all, first, rest}
use Rattle.fills.proofs.Tests.{In, all_append}

-- ---- members

-- what maps to equal lists agrees on each member
pub map-in : {A : Type 0} (f g : A → ℕ) (l : List A) → map f l ≡ map g l → {x : A} → In x l → f x ≡ g x
unfolding first rest
map-in f g [] e m = absurd (Memᴰ.not-nil m)
map-in f g (y ∷ l) e m = elim (Memᴰ.cases_cons m) [ inl h ↦ ap f h ∙ ap first e ∙ sym (ap g h) | inr n ↦ map-in f g l (ap rest e) n ]

-- ---- tests

pub all_map : {A B : Type 0} (q : B → Bool) (f : A → B) → ((x : A) → T (q (f x))) → (l : List A) → T (all q (map f l))
unfolding all
all_map q f h [] = tt
all_map q f h (x ∷ l) = both (q (f x)) (all q (map f l)) (h x) (all_map q f h l)

-- what passes at every place passes as a whole
pub at_all : {A : Type 0} (q : A → Bool) (d : A) (l : List A) → ((i : ℕ) → i < length l → T (q (get_or l i d))) → T (all q l)
unfolding all
at_all q d [] h = tt
at_all q d (x ∷ l) h = both (q x) (all q l) (h 0 (omega arith)) (at_all q d l (λ i m. h (suc i) (omega arith)))

-- ---- lists in two parts, the first as long

pub append-same : {A : Type 0} {b d : List A} (a c : List A) → a ++ b ≡ c ++ d → length a ≡ length c → (a ≡ c) × (b ≡ d)
append-same {b = b} {d} a c e l = (
  sym (take-append_seam a b) ∙ ap (take (length a)) e ∙ take_at c d (length a) (sym l),
  sym (drop-append_seam a b) ∙ ap (drop (length a)) e ∙ drop_at c d (length a) (sym l),
)

-- ---- n rows from row k on, one behind the other

module _ {A : Type 0} (f : ℕ → List A) where
  pub flat-all : (q : A → Bool) (k n : ℕ) → ((r : ℕ) → r < k + n → T (all q (f r))) → T (all q (flat_map f (up_from k n)))
  unfolding flat_map up_from all
  flat-all q k zero t = tt
  flat-all q k (suc n) t =
      all_append q (f k) (flat_map f (up_from (suc k) n)) (t k (omega arith)) (flat-all q (suc k) n (λ r l. t r (omega arith)))

  module _ (N : ℕ) where
    pub flat-row : (k n : ℕ) → ((r : ℕ) → r < k + n → length (f r) ≡ N) → (j : ℕ) → j < n
        → take N (drop (j * N) (flat_map f (up_from k n))) ≡ f (k + j)
    unfolding flat_map up_from
    flat-row k zero wide j h = absurd (omega arith)
    flat-row k (suc n) wide zero h =
        ap (λ i. take N (drop i (f k ++ flat_map f (up_from (suc k) n)))) (zero-mul N)
        ∙ take_at (f k) (flat_map f (up_from (suc k) n)) N (wide k (omega arith)) ∙ ap f (omega arith)
    flat-row k (suc n) wide (suc j) h =
        let e : suc j * N ≡ length (f k) + j * N = omega (arith, suc-mul j N, wide k (omega arith)) in
        ap (λ i. take N (drop i (f k ++ flat_map f (up_from (suc k) n)))) e
        ∙ ap (take N) (drop-append-add (f k) (flat_map f (up_from (suc k) n)) (j * N))
        ∙ flat-row (suc k) n (λ r l. wide r (omega arith)) j (omega arith) ∙ ap f (omega arith)

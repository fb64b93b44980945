-- The echelon of the first t columns. Its invariant speaks of what the columns give and not of how it was made: each word is what its mask
-- says (`made`), and what the columns give and is 0 at every pivot is 0 (`full`). So it decides what they give, and whether they are
-- independent. Assumes nothing.
use mathlib.Core.Path.{◌≡◌, refl, sym, ap, ap₂, ◌∙◌}
use mathlib.Core.Logic.{◌≢◌, ◌⊎◌, inl, inr, ⊎_elim}
use mathlib.Core.List.{List}
use Prim.Native.Nat.{ℕ, suc, ◌+◌, ◌*◌, ◌%◌, ◌^◌, ◌<◌}
use native.Mathlib.Nat.{zero-mul, one-mul, lt_of_lt_of_le}
use native.Mathlib.Decide.{ℕ_discrete, dec_lt}
use native.Mathlib.Omega.{arith}
use borrow.Author.Count.{below_more}
use lib.Count.{count_trailing_zeros}
use lib.ListN.{length, set}
use lib.Pow.{pow_mono, pow-lt}
use lib.Seq.{get_or-set_same, get_or-set_other}
use Rattle.field.specs.Field.{◌⊕◌}
use Rattle.field.proofs.Sum.{of-bits, bit, ⊕-assoc, ⊕-comm, ⊕-self, ⊕-zero, zero-⊕, ⊕-undo, ⊕-cancel, ⊕-lt}
use Rattle.equations.specs.System.{vec}
use Rattle.equations.specs.Words.{bit_at}
use Rattle.equations.proofs.Bits.{bit-sum, bit-of-none, bit-above, power-own, lowest, lowest-lt}
use Rattle.basis.specs.Span.{column_bits, combined}
use Rattle.basis.specs.Steps.{Ordered, Reduced, kept}
use Rattle.basis.specs.declared.Echelon.{Echelon}
use Rattle.basis.specs.declared.Rest.{Rest}
use Rattle.basis.proofs.Combined.{combined-sum, combined-masks, combined-past, combined-one}

pub record Spanned (f : ℕ → ℕ) (t : ℕ) (e : Echelon) : Type 0 where
  pub ordered : Ordered e
  pub made : (p : ℕ) → combined f (bit_at (vec e.masks p)) t ≡ vec e.words p
  pub within : (p : ℕ) → vec e.masks p < 2 ^ t
  pub full : (x : ℕ → ℕ) → ((i : ℕ) → i < e.count → bit_at (combined f x t) (vec e.order i) ≡ 0) → combined f x t ≡ 0

module _ (f : ℕ → ℕ) (t : ℕ) (e : Echelon) (E : Spanned f t e) where
  -- of a word that some combination gives, nothing is left
  pub span-reduces : (need mask : ℕ) (rest : Rest) (y : ℕ → ℕ) → Reduced e need mask rest → combined f y t ≡ need → rest.word ≡ 0
  span-reduces need mask rest y R g =
      sym same ∙ E.full (λ j. bit_at (mask ⊕ rest.mask) j ⊕ y j) (λ i l. ap (λ w. bit_at w (vec e.order i)) same ∙ R.stuck i l)
    where
      same : combined f (λ j. bit_at (mask ⊕ rest.mask) j ⊕ y j) t ≡ rest.word
      same = combined-sum f (bit_at (mask ⊕ rest.mask)) y t ∙ ap₂ ◌⊕◌ (R.moved.sums f t E.made) g
          ∙ ap (λ w. w ⊕ need) (⊕-comm need rest.word) ∙ ⊕-assoc rest.word need need ∙ ap (λ w. rest.word ⊕ w) (⊕-self need) ∙ ⊕-zero rest.word

  -- word t, reduced
  module _ (rest : Rest) (R : Reduced e (f t) (2 ^ t) rest) where
    others : ℕ
    others = 2 ^ t ⊕ rest.mask

    others-lt : others < 2 ^ t
    unfolding others
    others-lt = R.moved.near t E.within

    made-is : rest.mask ≡ 2 ^ t ⊕ others
    unfolding others
    made-is = sym (⊕-undo (2 ^ t) rest.mask)

    pub made-gives : combined f (bit_at rest.mask) (suc t) ≡ rest.word
    unfolding others
    made-gives = ap (λ a. combined f (bit_at a) (suc t)) made-is ∙ combined-masks f (2 ^ t) others (suc t)
        ∙ ap₂ ◌⊕◌ (combined-one f t) (combined-past f others t others-lt ∙ R.moved.sums f t E.made) ∙ ⊕-undo (f t) rest.word

    pub made-lt : rest.mask < 2 ^ suc t
    made-lt = rw made-is (⊕-lt (suc t) _ _ (pow-lt {i = t} (omega arith)) (lt_of_lt_of_le others-lt (pow_mono {i = t} (omega arith))))

    pub made_some : rest.mask ≢ 0
    made_some g = omega (arith, named, ap (λ a. bit_at a t) g, bit-of-none t)
      where
        named : bit_at rest.mask t ≡ 1
        named = ap (λ a. bit_at a t) made-is ∙ bit-sum (2 ^ t) others t ∙ ap₂ ◌⊕◌ (power-own t) (bit-above t others t others-lt (omega arith)) ∙ ⊕-zero 1

    -- a combination of one word more is one of the words before, with what is left or without it
    pub split : (x : ℕ → ℕ) → ((x t % 2 ≡ 0) × (combined f x (suc t) ≡ combined f x t)) ⊎ ((y : ℕ → ℕ) × (combined f x (suc t) ≡ combined f y t ⊕ rest.word))
    unfolding combined others
    split x = of-bits
        (λ b. x t % 2 ≡ b → ((x t % 2 ≡ 0) × (combined f x (suc t) ≡ combined f x t)) ⊎ ((y : ℕ → ℕ) × (combined f x (suc t) ≡ combined f y t ⊕ rest.word)))
        (λ g. inl (g, ap (λ b. combined f x t ⊕ b * f t) g ∙ ap (λ w. combined f x t ⊕ w) (zero-mul (f t)) ∙ ⊕-zero _))
        (λ g. inr (
          (λ j. x j ⊕ bit_at others j),
          ap (λ b. combined f x t ⊕ b * f t) g ∙ ap (λ w. combined f x t ⊕ w) (one-mul (f t) ∙ whole)
              ∙ sym (⊕-assoc _ _ _) ∙ ap (λ w. w ⊕ rest.word) (sym (combined-sum f x (bit_at others) t)),
        ))
        (x t % 2) (bit (x t)) refl
      where
        whole : f t ≡ combined f (bit_at others) t ⊕ rest.word
        whole = sym (ap (λ w. w ⊕ rest.word) (R.moved.sums f t E.made) ∙ ⊕-assoc (f t) rest.word rest.word
            ∙ ap (λ w. f t ⊕ w) (⊕-self rest.word) ∙ ⊕-zero (f t))

    -- nothing is left of it
    pub spanned-same : rest.word ≡ 0 → Spanned f (suc t) e
    spanned-same none = record {
      ordered = E.ordered;
      made = λ p. combined-past f (vec e.masks p) t (E.within p) ∙ E.made p;
      within = λ p. lt_of_lt_of_le (E.within p) (pow_mono {i = t} (omega arith));
      full = λ x h. ⊎_elim (λ s. s.1 ∙ E.full x (λ i l. ap (λ w. bit_at w (vec e.order i)) (sym s.1) ∙ h i l))
          (λ s. let g = s.1 ∙ ap (λ w. combined f s.0 t ⊕ w) none ∙ ⊕-zero _ in
          g ∙ E.full s.0 (λ i l. ap (λ w. bit_at w (vec e.order i)) (sym g) ∙ h i l))
          (split x);
    }

    -- something is, and is kept at a pivot of its own
    module _ (some : rest.word ≢ 0) (wide : length e.words ≡ column_bits) (deep : length e.masks ≡ column_bits) (long : e.count < length e.order) where
      q : ℕ
      q = count_trailing_zeros column_bits rest.word

      low : q < column_bits
      unfolding q
      low = lowest-lt column_bits rest.word R.small some

      holds : bit_at rest.word q ≡ 1
      unfolding q
      holds = (lowest column_bits rest.word R.small some).holds

      other : (i : ℕ) → i < e.count → vec e.order i ≢ q
      other i l g = omega (arith, R.stuck i l, ap (bit_at rest.word) g, holds)

      words' : List ℕ
      words' = set e.words q rest.word

      order' : List ℕ
      order' = set e.order e.count q

      listed : (i : ℕ) → i < e.count → vec order' i ≡ vec e.order i
      unfolding order'
      listed i l = get_or-set_other e.order e.count i q 0 (omega arith)

      last : vec order' e.count ≡ q
      unfolding order'
      last = get_or-set_same e.order e.count q 0 long

      old : (i : ℕ) → i < e.count → vec words' (vec order' i) ≡ vec e.words (vec e.order i)
      unfolding words'
      old i l = ap (vec words') (listed i l) ∙ get_or-set_other e.words q (vec e.order i) rest.word 0 (other i l)

      own : vec words' q ≡ rest.word
      unfolding words'
      own = get_or-set_same e.words q rest.word 0 (omega (arith, low, wide))

      new : vec words' (vec order' e.count) ≡ rest.word
      new = ap (vec words') last ∙ own

      kept-ordered : Ordered (kept e rest)
      unfolding q words' order'
      kept-ordered = record {
        fits = below_more _ _ (λ i l. rw (listed i l) (E.ordered.fits i l)) (rw last low);
        unit = below_more _ _ (λ i l. ap₂ bit_at (old i l) (listed i l) ∙ E.ordered.unit i l) (ap₂ bit_at new last ∙ holds);
        apart = below_more _ _ (λ i l j b. ap₂ bit_at (old i l) (listed j (omega arith)) ∙ E.ordered.apart i l j b)
            (λ j b. ap₂ bit_at new (listed j b) ∙ R.stuck j b);
      }

      kept-full : (x : ℕ → ℕ) → ((i : ℕ) → i < e.count + 1 → bit_at (combined f x (suc t)) (vec order' i) ≡ 0) → combined f x (suc t) ≡ 0
      kept-full x h = ⊎_elim (λ s. s.1 ∙ E.full x (λ i l. ap (λ w. bit_at w (vec e.order i)) (sym s.1) ∙ was i l))
          (λ s. let g : combined f s.0 t ≡ 0 = E.full s.0 (λ i l. bare _ i l (ap (λ w. bit_at w (vec e.order i)) (sym s.1) ∙ was i l)) in
          let whole : combined f x (suc t) ≡ rest.word = s.1 ∙ ap (λ w. w ⊕ rest.word) g ∙ zero-⊕ rest.word in
          absurd (omega (arith, holds, ap (λ w. bit_at w q) whole, ap (bit_at (combined f x (suc t))) last, h e.count (omega arith))))
          (split x)
        where
          was : (i : ℕ) → i < e.count → bit_at (combined f x (suc t)) (vec e.order i) ≡ 0
          was i l = ap (bit_at (combined f x (suc t))) (sym (listed i l)) ∙ h i (omega arith)

          -- a word that is 0 at the pivots with what is left is 0 there without it
          bare : (s i : ℕ) → i < e.count → bit_at (s ⊕ rest.word) (vec e.order i) ≡ 0 → bit_at s (vec e.order i) ≡ 0
          bare s i l g = ⊕-cancel _ _ (sym (bit-sum s rest.word (vec e.order i)) ∙ g) ∙ R.stuck i l

      pub spanned-more : Spanned f (suc t) (kept e rest)
      unfolding q words' order'
      spanned-more = record {
        ordered = kept-ordered;
        made = λ p. elim (ℕ_discrete p q) [
          | yes g ↦ rw (g, get_or-set_same e.masks q rest.mask 0 (omega (arith, low, deep)), own) made-gives
          | no ne ↦ rw (get_or-set_other e.words q p rest.word 0 ne, get_or-set_other e.masks q p rest.mask 0 ne)
              (combined-past f (vec e.masks p) t (E.within p) ∙ E.made p)
        ];
        within = λ p. elim (ℕ_discrete p q) [
          | yes g ↦ rw (g, get_or-set_same e.masks q rest.mask 0 (omega (arith, low, deep))) made-lt
          | no ne ↦ rw (get_or-set_other e.masks q p rest.mask 0 ne) (lt_of_lt_of_le (E.within p) (pow_mono {i = t} (omega arith)))
        ];
        full = kept-full;
      }

    -- so the words stay independent
    pub free_more : rest.word ≢ 0 → ((y : ℕ → ℕ) → combined f y t ≡ 0 → (j : ℕ) → j < t → y j % 2 ≡ 0)
        → (y : ℕ → ℕ) → combined f y (suc t) ≡ 0 → (j : ℕ) → j < suc t → y j % 2 ≡ 0
    free_more some free y g j l = ⊎_elim
        (λ s. elim (dec_lt j t) [ yes b ↦ free y (sym s.1 ∙ g) j b | no nb ↦ let at : j ≡ t = omega arith in rw at s.0 ])
        (λ s. let left : combined f s.0 t ≡ rest.word = ⊕-cancel _ _ (sym s.1 ∙ g) in
        absurd (some (sym left ∙ E.full s.0 (λ i b. ap (λ w. bit_at w (vec e.order i)) left ∙ R.stuck i b))))
        (split y)

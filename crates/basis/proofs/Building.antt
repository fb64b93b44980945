-- `span`, column by column: the echelon, the dependency that was found last, and what they answer at the end. Assumes nothing.
use mathlib.Core.Path.{◌≡◌, refl, sym, ap, ap₂, ◌∙◌, subst}
use mathlib.Core.Bool.{true}
use mathlib.Core.Logic.{◌≢◌}
use Prim.Native.Nat.{ℕ, ◌+◌, ◌%◌, ◌^◌, ◌≤◌, ◌<◌}
use native.Mathlib.Nat.{lt_of_lt_of_le}
use native.Mathlib.Numerals.{add-one}
use native.Mathlib.Decide.{ℕ_discrete}
use native.Mathlib.Omega.{arith}
use lib.Count.{count_trailing_zeros}
use lib.Dec.{lit<}
use lib.ListN.{length, length-set, replicate}
use lib.Seq.{get_or-set_same, get_or-set_other}
use lib.Pow.{pow_mono}
use Rattle.std.proofs.Common.{Option, Some, None, is_some, if◌then◌else◌, ◌==◌}
use Rattle.std.proofs.lemmas.Bool.Decides.{nat_tests}
use Rattle.field.specs.Field.{◌⊕◌}
use Rattle.field.proofs.Sum.{⊕-zero, zero-⊕}
use Rattle.equations.specs.System.{vec}
use Rattle.equations.specs.Words.{bit_at}
use Rattle.equations.proofs.Elements.{blank}
use Rattle.equations.proofs.Bits.{lowest-lt}
use Rattle.basis.specs.Span.{column_bits, mask_bits, combined, Spans}
use Rattle.basis.specs.Steps.{Reduced, kept, Concluded}
use Rattle.basis.specs.declared.Echelon.{Echelon}
use Rattle.basis.specs.declared.Rest.{Rest}
use Rattle.basis.proofs.Combined.{combined-past, combined-longer, combined-cut}
use Rattle.basis.proofs.Spanned.{Spanned, span-reduces, made-gives, made-lt, made_some, spanned-same, spanned-more, free_more}

-- no column yet
abbrev pub empty : Echelon
empty = record { words = replicate column_bits 0; masks = replicate column_bits 0; order = replicate mask_bits 0; count = 0 }

-- the echelon of t columns, and a dependency of theirs, which is none only where they are independent
pub record Building (f : ℕ → ℕ) (t : ℕ) (e : Echelon) (dependency : Option ℕ) : Type 0 where
  pub few : e.count ≤ t
  pub small : (p : ℕ) → vec e.words p < 2 ^ column_bits
  pub rooms : (length e.words ≡ column_bits) × (length e.masks ≡ column_bits) × (length e.order ≡ mask_bits)
  pub spanned : Spanned f t e
  pub tied : (d : ℕ) → dependency ≡ Some d → (d < 2 ^ t) × (d ≢ 0) × (combined f (bit_at d) t ≡ 0)
  pub free : dependency ≡ None → (y : ℕ → ℕ) → combined f y t ≡ 0 → (j : ℕ) → j < t → y j % 2 ≡ 0

pub building-start : (f : ℕ → ℕ) → Building f 0 empty None
unfolding combined
building-start f = record {
  few = omega arith;
  small = λ p. rw (blank column_bits p) (lit< tt);
  rooms = (refl, refl, refl);
  spanned = record {
    ordered = record { fits = λ i l. absurd (omega arith); unit = λ i l. absurd (omega arith); apart = λ i l. absurd (omega arith) };
    made = λ p. sym (blank column_bits p);
    within = λ p. omega (arith, blank column_bits p);
    full = λ x h. refl;
  };
  tied = λ d g. cc;
  free = λ _ y _ j l. absurd (omega arith);
}

module _ (f : ℕ → ℕ) (t : ℕ) (e : Echelon) (dependency : Option ℕ) (word mask : ℕ) (rest : Rest) (D : Building f t e dependency)
    (R : Reduced e word mask rest) (ew : word ≡ f t) (em : mask ≡ 2 ^ t) where
  own : Reduced e (f t) (2 ^ t) rest
  own = rw (ew, em) at R

  -- nothing is left of column t, whose mask names some column
  pub building-tied : rest.word ≡ 0 → Building f (t + 1) e (Some rest.mask)
  building-tied none = record {
    few = omega (arith, D.few);
    small = D.small;
    rooms = D.rooms;
    spanned = rw (add-one t) (spanned-same f t e D.spanned rest own none);
    tied = λ d g. let same : rest.mask ≡ d = cc in
        rw (← same, add-one t) (made-lt f t e D.spanned rest own, made_some f t e D.spanned rest own, made-gives f t e D.spanned rest own ∙ none);
    free = λ g. cc;
  }

  -- something is left
  pub building-more : rest.word ≢ 0 → t < mask_bits → Building f (t + 1) (kept e rest) dependency
  building-more some room = record {
    few = omega (arith, D.few);
    small = λ p. elim (ℕ_discrete p q) [
      | yes g ↦ rw (g, get_or-set_same e.words q rest.word 0 wide) R.small
      | no n ↦ rw (get_or-set_other e.words q p rest.word 0 n) (D.small p)
    ];
    rooms = (simp length-set D.rooms.0, simp length-set D.rooms.1, simp length-set D.rooms.2);
    spanned = rw (add-one t) (spanned-more f t e D.spanned rest own some D.rooms.0 D.rooms.1 (omega (arith, D.few, D.rooms.2)));
    tied = λ d g. let h = D.tied d g in
        (lt_of_lt_of_le h.0 (pow_mono {i = t} (omega arith)), h.1, rw (add-one t) (combined-past f d t h.0 ∙ h.2));
    free = λ g. rw (add-one t) (free_more f t e D.spanned rest own some (D.free g));
  }
    where
      q : ℕ
      q = count_trailing_zeros column_bits rest.word

      wide : q < length e.words
      wide = omega (arith, lowest-lt column_bits rest.word R.small some, D.rooms.0)

-- of a word of which something is left there is no solution
solving : (left made s : ℕ) → (if left == 0 then Some made else None) ≡ Some s → (left ≡ 0) × (made ≡ s)
solving left made s g = elim (ℕ_discrete left 0) [
  | yes e ↦ (e, grind (arith, nat_tests))
  | no ne ↦ absurd (grind (arith, nat_tests))
]

unsolving : (left made : ℕ) → (if left == 0 then Some made else None) ≡ None → left ≢ 0
unsolving left made g e = grind (arith, nat_tests)

-- what the echelon of all columns concludes is the answer for them
pub building-ends : (f : ℕ → ℕ) (k m need : ℕ) (e : Echelon) (found : Option ℕ) (word : ℕ) (solution dependency : Option ℕ)
    → Building (λ j. f j % 2 ^ m) k e found → Concluded e word found solution dependency
    → word ≡ need % 2 ^ m → Spans f k m need solution dependency
building-ends f k m need e found word solution dependency D C w = record {
  solved = λ s g. let h = solving C.end.word C.end.mask s (sym C.met ∙ g) in
      rw (← h.1) (
        subst (λ a. a < 2 ^ k) (zero-⊕ C.end.mask) (R.moved.near k D.spanned.within),
        combined-cut f (bit_at C.end.mask) m k ∙ ap (λ a. combined cut (bit_at a) k) (sym (zero-⊕ C.end.mask)) ∙ R.moved.sums cut k D.spanned.made
            ∙ ap₂ ◌⊕◌ w h.0 ∙ ⊕-zero _,
      );
  unsolved = λ g y s. unsolving C.end.word C.end.mask (sym C.met ∙ g)
      (span-reduces cut k e D.spanned word 0 C.end y R (sym (combined-cut f y m k) ∙ s ∙ sym w));
  tied = λ d g. let h = D.tied d (sym C.same ∙ g) in (h.0, h.1, combined-cut f (bit_at d) m k ∙ h.2);
  free = λ g y s. D.free (sym C.same ∙ g) y (sym (combined-cut f y m k) ∙ s);
}
  where
    cut : ℕ → ℕ
    cut j = f j % 2 ^ m

    R : Reduced e word 0 C.end
    R = C.reduced

-- what is met, and what is dependent, stays so with more columns
pub spans-longer : (f : ℕ → ℕ) (t k m need : ℕ) (solution dependency : Option ℕ) → t ≤ k → is_some solution ≡ true → is_some dependency ≡ true
    → Spans f t m need solution dependency → Spans f k m need solution dependency
spans-longer f t k m need None dependency le met some S = cc
spans-longer f t k m need (Some s) None le met some S = cc
spans-longer f t k m need (Some s) (Some d) le met some S =
    let h = S.solved s refl in
    let z = S.tied d refl in
    record {
      solved = λ x g. let same : s ≡ x = cc in
          rw (← same) (lt_of_lt_of_le h.0 (pow_mono {i = t} le), ap (λ w. w % 2 ^ m) (combined-longer f s t k h.0 le) ∙ h.1);
      unsolved = λ g. cc;
      tied = λ x g. let same : d ≡ x = cc in
          rw (← same) (lt_of_lt_of_le z.0 (pow_mono {i = t} le), z.1, ap (λ w. w % 2 ^ m) (combined-longer f d t k z.0 le) ∙ z.2);
      free = λ g. cc;
    }

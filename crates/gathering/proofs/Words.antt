-- The marked columns, as the set bits of a mark word: `list_places`, from each to the next. Assumes nothing.
use mathlib.Core.Path.{◌≡◌, sym, ap, ap₂, ◌∙◌}
use mathlib.Core.Logic.{◌≢◌, ◌⊎◌, inl, inr, ⊎_elim}
use Prim.Native.Nat.{ℕ, suc, ◌+◌, ◌-◌, ◌*◌, ◌/◌, ◌%◌, ◌^◌, ◌≤◌, ◌<◌}
use native.Mathlib.Nat.{add-zero, zero-add, zero-mod, add-mul-mod_self_right, lt_of_le_of_lt}
use native.Mathlib.Decide.{ℕ_discrete, dec_lt}
use native.Mathlib.Omega.{arith}
use borrow.Author.Count.{below_more}
use lib.Arith.{le-zero}
use lib.Bits.{bit_and, and_self}
use lib.Count.{ones, ones-le, count_trailing_zeros}
use lib.Pow.{pow_pos, ones_lt}
use Rattle.std.proofs.lemmas.Nat.{and_block, and_le_l, ones_cat, shr_split, shl-shr}
use Rattle.equations.specs.Words.{bit_at}
use Rattle.equations.proofs.Bits.{bit_shifted, bit-half, bit-zero, bit-of-none, bits-low, low-bits-agree, Lowest, lowest}
use Rattle.gathering.specs.Steps.{Places}

no_ones : ones 0 ≡ 0
no_ones = le-zero (ones-le 0 0 (omega arith))

ones-shifted : (x k : ℕ) → ones x ≡ ones (x * 2 ^ k)
ones-shifted x k = sym (ap ones (sym (add-zero (x * 2 ^ k))) ∙ ones_cat k x 0 (pow_pos k) ∙ ap (λ y. ones x + y) no_ones ∙ add-zero _)

-- ---- a word without its lowest bit, at z

pub record Lowered (w z less : ℕ) : Type 0 where
  pub lower : (d : ℕ) → bit_at less d ≡ 1 → z < d
  pub kept : (d : ℕ) → z < d → bit_at less d ≡ bit_at w d
  pub count : ones w ≡ suc (ones less)

module _ (w z : ℕ) (L : Lowest w z) where
  half : ℕ
  half = w / 2 ^ z / 2

  odd : w / 2 ^ z ≡ half * 2 + 1
  unfolding half
  odd = omega (arith, L.holds)

  whole : w ≡ (half * 2 + 1) * 2 ^ z
  whole = sym (shr_split w z) ∙ ap₂ (λ x y. x * 2 ^ z + y) odd (bits-low z w 0 (λ i l. L.below i l ∙ sym (bit-of-none i)) ∙ zero-mod (2 ^ z)) ∙ add-zero _

  less-is : bit_and w (w - 1) ≡ half * 2 * 2 ^ z
  less-is =
      let under : w - 1 ≡ half * 2 * 2 ^ z + (2 ^ z - 1) = omega (arith, whole, pow_pos z) in
      let over : w ≡ (half * 2 + 1) * 2 ^ z + 0 = omega (arith, whole) in
      let low : bit_and (half * 2 + 1) (half * 2) ≡ half * 2 = ap (bit_and (half * 2 + 1)) (sym (add-zero (half * 2)))
      ∙ and_block 1 half half 1 0 (omega arith) (omega arith) ∙ ap (λ x. x * 2 + 0) (and_self half) ∙ add-zero _ in
      ap₂ bit_and over under ∙ and_block z (half * 2 + 1) (half * 2) 0 (2 ^ z - 1) (pow_pos z) (ones_lt z)
      ∙ ap (λ x. x * 2 ^ z + 0) low ∙ add-zero _

  -- bit d of the part from z on
  from-z : (x d : ℕ) → bit_at (x * 2 ^ z) (z + d) ≡ bit_at x d
  from-z x d = sym (bit_shifted (x * 2 ^ z) z d) ∙ ap (λ y. bit_at y d) (shl-shr x z)

  lower : (d : ℕ) → bit_at (half * 2 * 2 ^ z) d ≡ 1 → z < d
  lower d e = elim (dec_lt d z) [
    | yes l ↦ absurd (omega (arith, low-bits-agree z (half * 2 * 2 ^ z) 0 (ap (λ x. x % 2 ^ z) (sym (zero-add (half * 2 * 2 ^ z))) ∙ add-mul-mod_self_right 0 (half * 2) (2 ^ z)) d l, bit-of-none d, e))
    | no nl ↦ elim (ℕ_discrete d z) [
      | yes g ↦ let own : z + 0 ≡ d = omega arith in
          absurd (omega (arith, ap (bit_at (half * 2 * 2 ^ z)) own, from-z (half * 2) 0, bit-zero (half * 2), e))
      | no ng ↦ omega arith
    ]
  ]

  pub lowered : Lowered w z (bit_and w (w - 1))
  unfolding half
  lowered = rw less-is record {
    lower = lower;
    kept = λ d l. let e : z + suc (d - suc z) ≡ d = omega arith in
        rw (← e) (from-z _ _ ∙ sym (bit-half (half * 2) _) ∙ ap (λ x. bit_at x (d - suc z)) (omega arith)
        ∙ bit-half (half * 2 + 1) _ ∙ sym (from-z (half * 2 + 1) _) ∙ ap (λ x. bit_at x (z + suc (d - suc z))) (sym whole));
    count = L.count ∙ ap suc (ones-shifted half 1 ∙ ones-shifted (half * 2) z);
  }

-- ---- `list_places`, when t places are listed

pub record Placing (marks rest k t : ℕ) (at : ℕ → ℕ) : Type 0 where
  pub upto : t ≤ k
  pub small : rest < 2 ^ 64
  pub count : ones rest + t ≡ k
  pub left : (d : ℕ) → bit_at rest d ≡ 1 → bit_at marks d ≡ 1
  pub before : (s : ℕ) → s < t → (d : ℕ) → bit_at rest d ≡ 1 → at s < d
  pub marked : (s : ℕ) → s < t → bit_at marks (at s) ≡ 1
  pub apart : (u : ℕ) → u < t → (s : ℕ) → s < u → at s ≢ at u
  pub every : (d : ℕ) → bit_at marks d ≡ 1 → (bit_at rest d ≡ 1) ⊎ ((s : ℕ) × (s < t) × (at s ≡ d))

pub placing-start : (marks : ℕ) (at : ℕ → ℕ) → marks < 2 ^ 64 → Placing marks marks (ones marks) 0 at
placing-start marks at h = record {
  upto = omega arith;
  small = h;
  count = add-zero _;
  left = λ d e. e;
  before = λ s l. absurd (omega arith);
  marked = λ s l. absurd (omega arith);
  apart = λ u l. absurd (omega arith);
  every = λ d e. inl e;
}

module _ (marks rest k t : ℕ) (at : ℕ → ℕ) (P : Placing marks rest k t at) where
  -- the next place
  pub placing-next : t < k → Lowest rest (count_trailing_zeros 64 rest)
  placing-next l = lowest 64 rest P.small (λ e. omega (arith, P.count, ap ones e, no_ones))

  pub placing-some : t < k → 0 < rest
  placing-some l = elim (ℕ_discrete rest 0) [ yes e ↦ absurd (omega (arith, P.count, ap ones e, no_ones)) | no ne ↦ omega arith ]

  pub placing-turn : (to : ℕ → ℕ) → t < k → ((s : ℕ) → s < t → to s ≡ at s) → to t ≡ count_trailing_zeros 64 rest
      → Placing marks (bit_and rest (rest - 1)) k (t + 1) to
  placing-turn to l old new = record {
    upto = omega arith;
    small = lt_of_le_of_lt (and_le_l rest (rest - 1)) P.small;
    count = omega (arith, P.count, N.count);
    left = λ d e. P.left d (was d e);
    before = below_more _ _ (λ s b d e. rw (old s b) (P.before s b d (was d e))) (λ d e. rw new (N.lower d e));
    marked = below_more _ _ (λ s b. ap (bit_at marks) (old s b) ∙ P.marked s b) (ap (bit_at marks) new ∙ P.left z L.holds);
    apart = below_more _ _ (λ u b s bs e. P.apart u b s bs (sym (old s (omega arith)) ∙ e ∙ old u b))
        (λ s b e. omega (arith, old s b, P.before s b z L.holds, e, new));
    every = λ d e. ⊎_elim (λ r. stays d r) (λ r. inr (r.0, omega (arith, r.1), old r.0 r.1 ∙ r.2)) (P.every d e);
  }
    where
      z : ℕ
      z = count_trailing_zeros 64 rest

      L : Lowest rest z
      L = placing-next l

      N : Lowered rest z (bit_and rest (rest - 1))
      N = lowered rest z L

      was : (d : ℕ) → bit_at (bit_and rest (rest - 1)) d ≡ 1 → bit_at rest d ≡ 1
      was d e = sym (N.kept d (N.lower d e)) ∙ e

      stays : (d : ℕ) → bit_at rest d ≡ 1 → (bit_at (bit_and rest (rest - 1)) d ≡ 1) ⊎ ((s : ℕ) × (s < t + 1) × (to s ≡ d))
      stays d r = elim (dec_lt z d) [
        | yes g ↦ inl (N.kept d g ∙ r)
        | no ng ↦ elim (ℕ_discrete d z) [
          | yes g ↦ inr (t, omega arith, new ∙ sym g)
          | no ne ↦ absurd (omega (arith, L.below d (omega arith), r))
        ]
      ]

  pub placing-end : k ≤ t → Places marks k at
  placing-end h = record {
    marked = λ s b. P.marked s (omega arith);
    apart = λ u b. P.apart u (omega (arith, P.upto));
    every = λ d e. ⊎_elim (λ r. absurd (omega (arith, ap (λ x. bit_at x d) none, bit-of-none d, r))) (λ r. (r.0, omega (arith, r.1), r.2)) (P.every d e);
  }
    where
      none : rest ≡ 0
      none = elim (ℕ_discrete rest 0) [ yes e ↦ e | no ne ↦ absurd (omega (arith, (lowest 64 rest P.small ne).count, P.count)) ]

-- what is listed elsewhere too
pub places-same : (marks k : ℕ) (at to : ℕ → ℕ) → ((t : ℕ) → t < k → to t ≡ at t) → Places marks k at → Places marks k to
places-same marks k at to same P = record {
  marked = λ t l. ap (bit_at marks) (same t l) ∙ P.marked t l;
  apart = λ t l s b e. P.apart t l s b (sym (same s (omega arith)) ∙ e ∙ same t l);
  every = λ c e. let r = P.every c e in (r.0, r.1, same r.0 r.1 ∙ r.2);
}

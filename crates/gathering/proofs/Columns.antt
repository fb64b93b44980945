-- The steps around the solver: showing what is unmarked, gathering the marked columns, writing them back. Assumes nothing.
use Prim.Native.Nat.{ℕ, zero, suc, ◌+◌, ◌*◌, ◌<◌}
use mathlib.Core.Path.{◌≡◌, refl, sym, ap, ◌∙◌}
use mathlib.Core.Logic.{◌≢◌, inl}
use mathlib.Core.List.{List}
use native.Mathlib.Numerals.{add-one}
use native.Mathlib.Decide.{ℕ_discrete}
use native.Mathlib.Omega.{arith}
use borrow.Author.Count.{below_more}
use borrow.Author.Tests.{eq-eqb, ne_eqb}
use lib.ListN.{length, set, length-set}
use lib.Seq.{get_or-set_same, get_or-set_other}
use Rattle.field.specs.Lists.{when◌then◌else◌}
use Rattle.field.specs.Field.{Field, ◌⊕◌}
use Rattle.equations.specs.System.{vec, ent, inner}
use Rattle.equations.specs.Words.{bit_at}
use Rattle.gathering.specs.Steps.{Places, hidden, Copied, Gathered, scattered}
use Rattle.equations.proofs.Rows.{row_fits}

-- ---- `gather`, at row i

pub gathered-turn : (F : Field) (checks target : List ℕ) (b : ℕ → ℕ) (n k : ℕ) (at : ℕ → ℕ) (a₀ a : List ℕ) (i s : ℕ)
    → Gathered F checks target b n k at (ent a₀ (k + 1)) i → Copied checks n i at a₀ a k k → s ≡ inner F (ent checks n i) b n
    → i * (k + 1) + k < length a → Gathered F checks target b n k at (ent (set a (i * (k + 1) + k) (vec target i ⊕ s)) (k + 1)) (i + 1)
gathered-turn F checks target b n k at a₀ a i s G C e fit = record {
  coefficient = below_more _ _ (λ x l t lt. before x l t (omega arith) ∙ G.coefficient x l t lt)
      (λ t lt. get_or-set_other a _ _ _ 0 (omega arith) ∙ C.done t lt);
  remainder = below_more _ _ (λ x l. before x l k (omega arith) ∙ G.remainder x l)
      (get_or-set_same a _ _ 0 fit ∙ ap (λ y. vec target i ⊕ y) e);
}
  where
    before : (x : ℕ) → x < i → (t : ℕ) → t < k + 1 → ent (set a (i * (k + 1) + k) (vec target i ⊕ s)) (k + 1) x t ≡ ent a₀ (k + 1) x t
    before x l t lt =
        let f = row_fits i (k + 1) x l in get_or-set_other a _ _ _ 0 (omega arith) ∙ C.rest (x * (k + 1) + t) (inl (omega arith))

-- ---- `scatter`, at place t

pub scattered-more : (v₀ v : List ℕ) (at x : ℕ → ℕ) (t : ℕ) → v ≡ scattered v₀ at x t → set v (at t) (x t) ≡ scattered v₀ at x (t + 1)
unfolding scattered
scattered-more v₀ v at x t e = rw (add-one t) (ap (λ l. set l (at t) (x t)) e)

pub length-scattered : (v : List ℕ) (at x : ℕ → ℕ) (t : ℕ) → length (scattered v at x t) ≡ length v
unfolding scattered
length-scattered v at x zero = refl
length-scattered v at x (suc t) = length-set (scattered v at x t) (at t) (x t) ∙ length-scattered v at x t

-- what stands at a place, and elsewhere
pub scattered-at : (v : List ℕ) (at x : ℕ → ℕ) (k : ℕ) → ((t : ℕ) → t < k → at t < length v) → ((t : ℕ) → t < k → (s : ℕ) → s < t → at s ≢ at t)
    → (t : ℕ) → t < k → vec (scattered v at x k) (at t) ≡ x t
unfolding scattered
scattered-at v at x zero within apart t l = absurd (omega arith)
scattered-at v at x (suc k) within apart t l =
    elim (ℕ_discrete t k) [
      | yes e ↦ rw e (get_or-set_same (scattered v at x k) (at k) (x k) 0 (omega (arith, length-scattered v at x k, within k (omega arith))))
      | no ne ↦ get_or-set_other (scattered v at x k) (at k) (at t) (x k) 0 (apart k (omega arith) t (omega arith))
          ∙ scattered-at v at x k (λ s b. within s (omega arith)) (λ s b. apart s (omega arith)) t (omega arith)
    ]

pub scattered-off : (v : List ℕ) (at x : ℕ → ℕ) (k c : ℕ) → ((t : ℕ) → t < k → at t ≢ c) → vec (scattered v at x k) c ≡ vec v c
unfolding scattered
scattered-off v at x zero c off = refl
scattered-off v at x (suc k) c off =
    get_or-set_other (scattered v at x k) (at k) c (x k) 0 (λ e. off k (omega arith) (sym e)) ∙ scattered-off v at x k c (λ t b. off t (omega arith))

-- ---- `show`: zeros at the marked places hide what is marked

pub hidden-marked : (marks : ℕ) (v : List ℕ) (c : ℕ) → bit_at marks c ≡ 1 → hidden marks v c ≡ 0
unfolding hidden when◌then◌else◌
hidden-marked marks v c e = ap (λ b. when b then 0 else vec v c) (eq-eqb _ _ e)

pub hidden-unmarked : (marks : ℕ) (v : List ℕ) (c : ℕ) → bit_at marks c ≢ 1 → hidden marks v c ≡ vec v c
unfolding hidden when◌then◌else◌
hidden-unmarked marks v c ne = ap (λ b. when b then 0 else vec v c) (ne_eqb _ _ ne)

pub scattered-hides : (marks k : ℕ) (v : List ℕ) (at : ℕ → ℕ) → Places marks k at → ((t : ℕ) → t < k → at t < length v)
    → (c : ℕ) → vec (scattered v at (λ _. 0) k) c ≡ hidden marks v c
scattered-hides marks k v at P within c = elim (ℕ_discrete (bit_at marks c) 1) [
  | yes g ↦
      let r = P.every c g in
      rw (← r.2) (scattered-at v at (λ _. 0) k within P.apart r.0 r.1 ∙ sym (hidden-marked marks v (at r.0) (P.marked r.0 r.1)))
  | no ne ↦ scattered-off v at (λ _. 0) k c (λ t l g. ne (ap (bit_at marks) (sym g) ∙ P.marked t l)) ∙ sym (hidden-unmarked marks v c ne)
]

-- Sums of rows: their power sums, and that each code of words is linear. Assumes nothing.
use mathlib.Core.Path.{◌≡◌, sym, ap, ap₂, ◌∙◌, subst}
use mathlib.Core.Bool.{Bool}
use mathlib.Core.List.{List, [], ◌∷◌, map}
use Prim.Native.Nat.{ℕ, suc}
use lib.Dec.{T, eqb, eqb→eq}
use Rattle.field.specs.Lists.{up_from}
use Rattle.field.specs.Field.{◌⊕◌, mul, dot, gf16}
use Rattle.field.specs.Power.{power, power_sum}
use Rattle.field.proofs.Sum.{⊕-self}
use Rattle.field.proofs.Test.{both_left, both_right}
use Rattle.field.proofs.Laws.{mul-zero, dot-lt}
use Rattle.field.proofs.Fields.{gf16-field}
use Rattle.fills.specs.Lists.{all, plus}
use Rattle.fills.proofs.Tests.{all_in, in_all}
use Rattle.fills.proofs.Vectors.{dot-comm, dot-plus}
use Rattle.codewords.proofs.Totals.{dot-times}
use Rattle.interleaved.specs.Interleaved.{locations, in_code, sum}

-- ---- the sum of a sum under a check

-- the plain sum has the plain total of the sums
pub dot-plain : (c : List ℕ) (f : ℕ → List ℕ) (rs : List ℕ)
    → dot gf16 c (sum (map f rs)) ≡ dot gf16 (map (λ r. 1) rs) (map (λ r. dot gf16 c (f r)) rs)
unfolding dot sum
dot-plain c f [] = dot-comm gf16 c []
dot-plain c f (r ∷ rs) =
    dot-plus gf16 c (f r) (sum (map f rs))
    ∙ ap₂ ◌⊕◌ (sym (gf16-field.unit (dot gf16 c (f r)) (dot-lt gf16 gf16-field c (f r)))) (dot-plain c f rs)

-- the weighted sum has the weighted total of the sums
pub dot-weighted : (c : List ℕ) (w : ℕ → ℕ) (f : ℕ → List ℕ) (rs : List ℕ)
    → dot gf16 c (sum (map (λ r. map (mul gf16 (w r)) (f r)) rs)) ≡ dot gf16 (map w rs) (map (λ r. dot gf16 c (f r)) rs)
unfolding dot sum
dot-weighted c w f [] = dot-comm gf16 c []
dot-weighted c w f (r ∷ rs) =
    dot-plus gf16 c (map (mul gf16 (w r)) (f r)) _ ∙ ap₂ ◌⊕◌ (dot-times gf16 gf16-field c (w r) (f r)) (dot-weighted c w f rs)

-- ---- a code is linear

-- power sum p is 0
abbrev zero_at : List ℕ → ℕ → Bool
zero_at word p = eqb (power_sum gf16 locations word p) 0

zero-at : (word : List ℕ) (p : ℕ) → power_sum gf16 locations word p ≡ 0 → T (zero_at word p)
zero-at word p e = subst (λ x. T (eqb x 0)) (sym e) tt

module _ (last : ℕ) where
  nothing-in : T (in_code last [])
  unfolding power_sum dot in_code
  nothing-in = in_all (zero_at []) (up_from 0 (suc last)) (λ p _. zero-at [] p (dot-comm gf16 (map (λ x. power gf16 x p) locations) []))

  plus-in : (u v : List ℕ) → T (in_code last u) → T (in_code last v) → T (in_code last (plus u v))
  unfolding power_sum in_code
  plus-in u v s t =
      let ps : List ℕ = up_from 0 (suc last) in
      in_all (zero_at (plus u v)) ps
      (λ p m. zero-at (plus u v) p
      (dot-plus gf16 _ u v ∙ ap₂ ◌⊕◌ (eqb→eq _ 0 (all_in (zero_at u) ps s m)) (eqb→eq _ 0 (all_in (zero_at v) ps t m)) ∙ ⊕-self 0))

  times-in : (w : ℕ) (u : List ℕ) → T (in_code last u) → T (in_code last (map (mul gf16 w) u))
  unfolding power_sum in_code
  times-in w u t =
      let ps : List ℕ = up_from 0 (suc last) in
      in_all (zero_at (map (mul gf16 w) u)) ps
      (λ p m. zero-at (map (mul gf16 w) u) p
      (dot-times gf16 gf16-field _ w u ∙ ap (mul gf16 w) (eqb→eq _ 0 (all_in (zero_at u) ps t m)) ∙ mul-zero gf16 gf16-field w))

  -- the plain sum of words in a code is in it
  pub sum-in : (f : ℕ → List ℕ) (rs : List ℕ) → T (all (λ r. in_code last (f r)) rs) → T (in_code last (sum (map f rs)))
  unfolding all sum
  sum-in f [] t = nothing-in
  sum-in f (r ∷ rs) t = plus-in (f r) (sum (map f rs)) (both_left (in_code last (f r)) _ t) (sum-in f rs (both_right (in_code last (f r)) _ t))

  -- and so is the weighted sum
  pub weighted-in : (w : ℕ → ℕ) (f : ℕ → List ℕ) (rs : List ℕ) → T (all (λ r. in_code last (f r)) rs)
      → T (in_code last (sum (map (λ r. map (mul gf16 (w r)) (f r)) rs)))
  weighted-in w f rs t =
      let g : ℕ → List ℕ = λ r. map (mul gf16 (w r)) (f r) in
      sum-in g rs (in_all (λ r. in_code last (g r)) rs (λ r m. times-in (w r) (f r) (all_in (λ r. in_code last (f r)) rs t m)))

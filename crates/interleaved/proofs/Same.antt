-- The interleaved form accepts what plan 3's rule accepts. Power sums 0 and 1 of both sums of the rows are 0 where the rows' are; the others
-- are the weighted totals that the levels name. Assumes nothing.
use mathlib.Core.Path.{◌≡◌, refl, sym, ap, ap₂, ◌∙◌, fun_ext}
use mathlib.Core.Bool.{Bool, true, false, ◌&&◌, and-true, and-false}
use mathlib.Core.List.{List, map, map-map}
use Prim.Native.Nat.{ℕ, suc}
use lib.Dec.{T, eqb}
use lib.ListN.{drop}
use Rattle.std.specs.Prelude.{Ok, Err}
use Rattle.field.specs.Lists.{when◌then◌else◌, up_from}
use Rattle.field.specs.Field.{size, dot, gf16}
use Rattle.field.specs.Power.{power, power_sum}
use Rattle.fills.specs.Lists.{all, vanish}
use Rattle.fills.specs.Fill.{sums_of}
use Rattle.plans.specs.Plan.{Level, all_ones, locations3, powers3, plan3, known, plan_of, level_of, row_at, across}
use Rattle.plans.specs.Refusal.{first_failed, stripe_fits}
use Rattle.codewords.specs.Codeword.{rows_hold, totals_hold, is_codeword, test_refusal, tested}
use Rattle.codewords.proofs.Walk.{all_map}
use Rattle.codewords.proofs.Holding.{vanish-turned}
use Rattle.interleaved.specs.Interleaved.{rows, a^, row, locations, in_code, plain_sum, weighted_sum}
use Rattle.interleaved.specs.Interleaved.{is_interleaved, interleaved_refusal, interleaved}
use Rattle.interleaved.specs.Same.{SameCode, SameVerdict}
use Rattle.interleaved.proofs.Linear.{dot-plain, dot-weighted, sum-in, weighted-in}

-- ---- checks and power sums

-- a word's m power sums from k on are 0
unfoldable pub zero_from : (k m : ℕ) → List ℕ → Bool
zero_from k m word = all (λ p. eqb (power_sum gf16 locations word p) 0) (up_from k m)

-- where f is power sum p of a word at check p of plan 3
vanish-powers : (f : List ℕ → ℕ) (word : List ℕ) → ((p : ℕ) → f (powers3 p) ≡ power_sum gf16 locations word p) → (k m : ℕ)
    → vanish (map f (map powers3 (up_from k m))) ≡ zero_from k m word
unfolding vanish zero_from
vanish-powers f word e k m =
    ap vanish (map-map f powers3 (up_from k m)) ∙ all_map (λ x. eqb x 0) (λ p. f (powers3 p)) (up_from k m)
    ∙ ap (λ g. all g (up_from k m)) (fun_ext (λ p. ap (λ x. eqb x 0) (e p)))

-- the checks of plan 3 give power sums
pub power-check : (word : List ℕ) (p : ℕ) → dot gf16 (powers3 p) word ≡ power_sum gf16 locations word p
unfolding power_sum locations3 powers3 a^ locations
power-check word p = refl

pub in-sums : (k m : ℕ) (word : List ℕ) → vanish (sums_of gf16 (map powers3 (up_from k m)) word) ≡ zero_from k m word
unfolding sums_of
in-sums k m word = vanish-powers (λ c. dot gf16 c word) word (power-check word) k m

in-code : (last : ℕ) (word : List ℕ) → vanish (sums_of gf16 (map powers3 (up_from 0 (suc last))) word) ≡ in_code last word
unfolding zero_from in_code
in-code last word = in-sums 0 (suc last) word

-- ---- rows

pub rows_same : (stripe : List ℕ) → rows_hold plan3 stripe ≡ all (λ r. in_code 1 (row stripe r)) (up_from 0 rows)
unfolding plan3 level_of row_at rows_hold row
rows_same stripe = ap (λ f. all f (up_from 0 rows)) (fun_ext (λ r. in-code 1 (row stripe r)))

-- ---- totals

pub its-ones : all_ones rows ≡ map (λ r. 1) (up_from 0 rows)
unfolding up_from all_ones
its-ones = refl

plain-total : (stripe : List ℕ) (p : ℕ) → dot gf16 (all_ones rows) (across plan3 stripe (powers3 p)) ≡ power_sum gf16 locations (plain_sum stripe) p
unfolding plan3 row_at across row plain_sum
plain-total stripe p =
    ap (λ w. dot gf16 w (across plan3 stripe (powers3 p))) its-ones
    ∙ sym (dot-plain (powers3 p) (row stripe) (up_from 0 rows)) ∙ power-check (plain_sum stripe) p

weighted-total : (stripe : List ℕ) (p : ℕ)
    → dot gf16 (map (power gf16 2) (up_from 0 rows)) (across plan3 stripe (powers3 p)) ≡ power_sum gf16 locations (weighted_sum stripe) p
unfolding plan3 row_at across a^ row weighted_sum
weighted-total stripe p = sym (dot-weighted (powers3 p) a^ (row stripe) (up_from 0 rows)) ∙ power-check (weighted_sum stripe) p

-- a level's totals are zero, weights by weights
by_weights : (stripe : List ℕ) (L : Level)
    → totals_hold plan3 stripe L ≡ all (λ w. vanish (map (λ c. dot gf16 w (across plan3 stripe c)) L.checks)) L.weights
unfolding sums_of plan3 totals_hold
by_weights stripe L = vanish-turned (λ c w. dot gf16 w (across plan3 stripe c)) L.checks L.weights

-- the totals of levels 2 and 3: power sum 2 of both sums of the rows, and 3 to 6 of the plain one
totals-same : (stripe : List ℕ)
    → all (totals_hold plan3 stripe) (drop 1 plan3.levels)
    ≡ zero_from 2 1 (plain_sum stripe) && (zero_from 2 1 (weighted_sum stripe) && true) && (zero_from 3 4 (plain_sum stripe) && true && true)
unfolding up_from all plan3
totals-same stripe =
    let plain : List ℕ → ℕ = λ c. dot gf16 (all_ones rows) (across plan3 stripe c) in
    let weighted : List ℕ → ℕ = λ c. dot gf16 (map (power gf16 2) (up_from 0 rows)) (across plan3 stripe c) in
    ap₂ (λ a b. a && (b && true)) (by_weights stripe _) (by_weights stripe _)
    ∙ ap₂ (λ a b. a && b && (vanish (map plain (map powers3 (up_from 3 4))) && true && true))
    (vanish-powers plain (plain_sum stripe) (plain-total stripe) 2 1)
    (ap (λ b. b && true) (vanish-powers weighted (weighted_sum stripe) (weighted-total stripe) 2 1))
    ∙ ap (λ a. zero_from 2 1 (plain_sum stripe) && (zero_from 2 1 (weighted_sum stripe) && true) && (a && true && true))
    (vanish-powers plain (plain_sum stripe) (plain-total stripe) 3 4)

-- ---- both

-- power sums 0 and 1 of both sums of the rows are 0 where the rows' are
module _ (stripe : List ℕ) (held : T (all (λ r. in_code 1 (row stripe r)) (up_from 0 rows))) where
  pub plain_in : T (in_code 1 (plain_sum stripe))
  unfolding plain_sum
  plain_in = sum-in 1 (row stripe) (up_from 0 rows) held

  pub weighted-sum-in : T (in_code 1 (weighted_sum stripe))
  unfolding weighted_sum
  weighted-sum-in = weighted-in 1 a^ (row stripe) (up_from 0 rows) held

-- where power sums 0 and 1 are 0 if the rows hold, only the others count
others-count : (r s0 s1 w0 w1 s2 w2 more : Bool) → (T r → T (s0 && (s1 && true))) → (T r → T (w0 && (w1 && true)))
    → r && (s0 && (s1 && (s2 && more)) && (w0 && (w1 && (w2 && true)))) ≡ r && (s2 && true && (w2 && true && true) && (more && true && true))
others-count false s0 s1 w0 w1 s2 w2 more s w = refl
others-count true false s1 w0 w1 s2 w2 more s w = absurd (s tt)
others-count true true false w0 w1 s2 w2 more s w = absurd (s tt)
others-count true true true false w1 s2 w2 more s w = absurd (w tt)
others-count true true true true false s2 w2 more s w = absurd (w tt)
others-count true true true true true false w2 more s w = refl
others-count true true true true true true false more s w = and-false more
others-count true true true true true true true more s w = sym (and-true (more && true))

pub same_code : SameCode
unfolding up_from all in_code zero_from is_codeword is_interleaved
same_code stripe =
    let held : Bool = all (λ r. in_code 1 (row stripe r)) (up_from 0 rows) in
    let plain : ℕ → Bool = λ p. eqb (power_sum gf16 locations (plain_sum stripe) p) 0 in
    let weighted : ℕ → Bool = λ p. eqb (power_sum gf16 locations (weighted_sum stripe) p) 0 in
    others-count held (plain 0) (plain 1) (weighted 0) (weighted 1) (plain 2) (weighted 2) (zero_from 3 4 (plain_sum stripe))
    (plain_in stripe) (weighted-sum-in stripe)
    ∙ sym (ap₂ ◌&&◌ (rows_same stripe) (totals-same stripe))

pub same-verdict : SameVerdict
unfolding when◌then◌else◌ size gf16 plan3 known plan_of first_failed stripe_fits test_refusal tested interleaved_refusal interleaved
same-verdict stripe =
    let n : ℕ = interleaved_refusal stripe in
    ap (λ b. when eqb n 0 then Ok b else Err n) (same_code stripe)

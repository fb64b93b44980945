-- What the code of the test says, as the definition has it. Assumes nothing.
use mathlib.Core.Path.{◌≡◌, refl, sym, ap, ap₂, ◌∙◌, subst, fun_ext}
use mathlib.Core.Bool.{Bool, true, false, ◌&&◌, and-true}
use mathlib.Core.List.{List, ◌∷◌, ◌++◌, map, map-map, flat_map}
use mathlib.Core.Logic.{◌⊎◌, inl, inr}
use Prim.Native.Nat.{ℕ, ◌*◌, ◌/◌, ◌<◌}
use lib.Dec.{T, eqb, lit≤, lit<}
use lib.ListN.{length, take, drop}
use Rattle.field.specs.Lists.{up_from}
use Rattle.field.specs.Field.{◌⊕◌, mul, dot, gf16}
use Rattle.field.specs.Ours.{field_of}
use Rattle.field.specs.Power.{power_sum}
use Rattle.field.specs.declared.Gf.TheVariants.{Sixteen}
use Rattle.field.proofs.Fields.{gf16-field}
use Rattle.field.proofs.Summing.{Summing, summing-starts, summing-turns, summing-ends}
use Rattle.fills.specs.Lists.{all, vanish}
use Rattle.fills.specs.Marks.{rows_of}
use Rattle.fills.specs.Fill.{sums_of}
use Rattle.plans.specs.Plan.{all_ones, locations3, powers3, plan3, plan_of, level_of, checks_to}
use Rattle.plans.specs.Tables.{check_table, weight_table}
use Rattle.plans.proofs.Flat.{row_in}
use Rattle.plans.proofs.Parts.{rows-of}
use Rattle.codewords.specs.Codeword.{rows_hold}
use Rattle.codewords.specs.Asked.{all_rows, total_row}
use Rattle.codewords.proofs.Walk.{rows-more, rows-none}
use Rattle.codewords.proofs.Totals.{dot-total}
use Rattle.interleaved.specs.Interleaved.{rows, columns, a^, row, locations, in_code, plain_sum, weighted_sum, is_interleaved}
use Rattle.interleaved.specs.Asked.{Weighted, sums_under}
use Rattle.interleaved.proofs.Linear.{dot-plain, dot-weighted}
use Rattle.interleaved.proofs.Same.{its-ones, power-check, zero_from, in-sums, rows_same, plain_in, weighted-sum-in}

-- ---- the plain sum of the rows

-- its sums are those of the description's plain sum
plain-sums : (stripe c : List ℕ) → dot gf16 c (total_row gf16 (all_ones rows) columns stripe) ≡ dot gf16 c (plain_sum stripe)
unfolding up_from all_ones row plain_sum
plain-sums stripe c =
    dot-total gf16 gf16-field c (all_ones rows) rows columns stripe (lit≤ tt)
    ∙ ap₂ (λ ws words. dot gf16 ws (map (dot gf16 c) words)) its-ones (rows-of rows columns stripe)
    ∙ ap (dot gf16 (map (λ r. 1) (up_from 0 rows))) (map-map (dot gf16 c) (row_in columns stripe) (up_from 0 rows))
    ∙ sym (dot-plain c (row stripe) (up_from 0 rows))

-- ---- the weighted total of the rows' sums

-- the rows passed and those to come make the whole total: weights and rows are cut off side by side
abbrev pub Weighing : (check weights stripe ws left : List ℕ) → (total : ℕ) → Type 0
Weighing check weights stripe ws left total = Summing gf16 weights (sums_under check stripe) ws (map (dot gf16 check) (all_rows columns left)) total

-- the rows of a whole stripe
rows-whole : (check stripe : List ℕ) → length stripe ≡ rows * columns → map (dot gf16 check) (all_rows columns stripe) ≡ sums_under check stripe
unfolding row all_rows sums_under
rows-whole check stripe e =
    ap (λ n. map (dot gf16 check) (rows_of (n / columns) columns stripe)) e ∙ ap (map (dot gf16 check)) (rows-of rows columns stripe)
    ∙ map-map (dot gf16 check) (row_in columns stripe) (up_from 0 rows)

module _ (check weights stripe : List ℕ) where
  pub weighing-starts : {ws left : List ℕ} → ws ≡ weights → left ≡ stripe → Weighted check weights stripe → Weighing check weights stripe ws left 0
  unfolding up_from sums_under
  weighing-starts ew el ask =
      summing-starts gf16 weights (sums_under check stripe) ew
      (ap (λ l. map (dot gf16 check) (all_rows columns l)) el ∙ rows-whole check stripe ask.long) ask.high

  pub weighing-turns : {w s p total : ℕ} {ws next left : List ℕ} (chunk rest : List ℕ) → ws ≡ w ∷ next → left ≡ chunk ++ rest → length chunk ≡ columns
      → s ≡ dot gf16 check chunk → p ≡ mul gf16 w s → Weighing check weights stripe ws left total → Weighing check weights stripe next rest (total ⊕ p)
  weighing-turns {w} chunk rest ew el long es ep t =
      summing-turns gf16 weights (sums_under check stripe) ew
      (ap (λ l. map (dot gf16 check) (all_rows columns l)) el ∙ ap (map (dot gf16 check)) (rows-more (lit< tt) chunk rest long)) (ep ∙ ap (mul gf16 w) es) t

  pub weighing-ends : {total : ℕ} {ws : List ℕ} (left : List ℕ) → (length ws ≡ 0) ⊎ (length left < columns) → Weighing check weights stripe ws left total
      → total ≡ dot gf16 weights (sums_under check stripe)
  weighing-ends left (inl none) t = summing-ends gf16 weights (sums_under check stripe) none t
  weighing-ends left (inr few) t =
      let none : length (map (dot gf16 check) (all_rows columns left)) ≡ 0 = ap (λ cut. length (map (dot gf16 check) cut)) (rows-none (lit< tt) left few) in
      summing-ends gf16 weights (sums_under check stripe) (t.paired ∙ none) t

-- ---- the sums are the description's

-- where power sums 0 and 1 are 0, those from 2 on decide
both-pass : (a b c : Bool) → T (a && (b && true)) → c ≡ a && (b && c)
both-pass true true c t = refl
both-pass true false c t = absurd t
both-pass false b c t = absurd t

from-2 : (word : List ℕ) → T (in_code 1 word) → (zero_from 2 5 word ≡ in_code 6 word) × (zero_from 2 1 word ≡ in_code 2 word)
unfolding up_from all in_code zero_from
from-2 word t =
    let zero : ℕ → Bool = λ p. eqb (power_sum gf16 locations word p) 0 in
    (both-pass (zero 0) (zero 1) (zero_from 2 5 word) t, both-pass (zero 0) (zero 1) (zero_from 2 1 word) t)

-- the checks of power sums 2 to 6, behind those of 0 and 1
abbrev pub later : List ℕ → List ℕ
later checks = take (5 * columns) (drop (2 * columns) checks)

-- the check of power sum 2
abbrev pub third : List ℕ → List ℕ
third checks = take columns (drop (2 * columns) checks)

-- the second weights, behind the first
abbrev pub second : List ℕ → List ℕ
second weights = take rows (drop rows weights)

-- the plan's checks from the third on, and its weights, by computation
checks-are : (all_rows columns (later (check_table (plan_of 3))) ≡ map powers3 (up_from 2 5)) × (third (check_table (plan_of 3)) ≡ powers3 2)
unfolding up_from flat_map rows_of all_rows locations3 powers3 plan3 plan_of checks_to check_table
checks-are = (refl, refl)

pub checks-length : length (check_table (plan_of 3)) ≡ 7 * columns
unfolding up_from flat_map locations3 powers3 plan3 plan_of checks_to check_table
checks-length = refl

pub weights-length : length (weight_table (plan_of 3) 2) ≡ 2 * rows
unfolding up_from flat_map all_ones plan3 plan_of level_of weight_table
weights-length = refl

weights-are : second (weight_table (plan_of 3) 2) ≡ map a^ (up_from 0 rows)
unfolding up_from flat_map all_ones plan3 plan_of level_of weight_table a^
weights-are = refl

module _ (stripe : List ℕ) {checks : List ℕ} (lent : checks ≡ check_table (plan_of 3)) where
  pub weighted-tested : {weights : List ℕ} → weights ≡ weight_table (plan_of 3) 2 → {s : ℕ}
      → s ≡ dot gf16 (second weights) (sums_under (third checks) stripe) → eqb s 0 ≡ zero_from 2 1 (weighted_sum stripe)
  unfolding up_from all weighted_sum zero_from sums_under
  weighted-tested weigh e =
      ap (λ s. eqb s 0)
      (e ∙ ap₂ (λ ws c. dot gf16 ws (sums_under c stripe)) (ap second weigh ∙ weights-are) (ap third lent ∙ checks-are.1)
      ∙ sym (dot-weighted (powers3 2) a^ (row stripe) (up_from 0 rows)) ∙ power-check (weighted_sum stripe) 2)
      ∙ sym (and-true _)

  pub plain-tested : {sum : List ℕ} → sum ≡ total_row gf16 (all_ones rows) columns stripe → length sum ≡ columns
      → {b : Bool} → b ≡ vanish (sums_of (field_of Sixteen) (all_rows (length sum) (later checks)) sum) → b ≡ zero_from 2 5 (plain_sum stripe)
  unfolding field_of sums_of
  plain-tested {sum} made long e =
      e ∙ ap (λ k. vanish (sums_of gf16 (all_rows k (later checks)) sum)) long
      ∙ ap₂ (λ cs sum. vanish (sums_of gf16 cs sum)) (ap (λ l. all_rows columns (later l)) lent ∙ checks-are.0) made
      ∙ ap (λ f. vanish (map f (map powers3 (up_from 2 5)))) (fun_ext (plain-sums stripe)) ∙ in-sums 2 5 (plain_sum stripe)

-- ---- the test

module _ (stripe : List ℕ) {a : Bool} (held : a ≡ rows_hold (plan_of 3) stripe) where
  rows-tested : a ≡ all (λ r. in_code 1 (row stripe r)) (up_from 0 rows)
  unfolding plan_of
  rows-tested = held ∙ rows_same stripe

  pub rows-not : a ≡ false → false ≡ is_interleaved stripe
  unfolding is_interleaved
  rows-not f = ap (λ a. a && (in_code 6 (plain_sum stripe) && in_code 2 (weighted_sum stripe))) (sym f ∙ rows-tested)

  module _ (t : a ≡ true) {b : Bool} (tested : b ≡ zero_from 2 5 (plain_sum stripe)) where
    rows_in : T (all (λ r. in_code 1 (row stripe r)) (up_from 0 rows))
    rows_in = subst T (sym t ∙ rows-tested) tt

    plain : b ≡ in_code 6 (plain_sum stripe)
    plain = tested ∙ (from-2 (plain_sum stripe) (plain_in stripe rows_in)).0

    pub plain-not : b ≡ false → false ≡ is_interleaved stripe
    unfolding is_interleaved
    plain-not f = ap₂ (λ a b. a && (b && in_code 2 (weighted_sum stripe))) (sym t ∙ rows-tested) (sym f ∙ plain)

    pub holds_by : b ≡ true → {c : Bool} → c ≡ zero_from 2 1 (weighted_sum stripe) → c ≡ is_interleaved stripe
    unfolding is_interleaved
    holds_by t' e = e ∙ (from-2 (weighted_sum stripe) (weighted-sum-in stripe rows_in)).1 ∙ ap₂ (λ a b. a && (b && in_code 2 (weighted_sum stripe))) (sym t ∙ rows-tested) (sym t' ∙ plain)

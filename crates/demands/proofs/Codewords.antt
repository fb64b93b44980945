-- What a codeword is, row by row and level by level. Assumes nothing.
use mathlib.Core.Path.{◌≡◌, refl, sym, ap, ap₂, ◌∙◌, subst}
use mathlib.Core.List.{List, [], ◌∷◌, map}
use Prim.Native.Nat.{ℕ, zero, suc, ◌*◌, ◌<◌}
use native.Mathlib.Numerals.{one-add}
use native.Mathlib.Omega.{arith}
use lib.Dec.{T, ltb, lt→ltb}
use lib.ListN.{length, drop, get_or, length-drop}
use lib.Seq.{get_or-drop, ext_get_or}
use Rattle.field.specs.Field.{Field, size, dot}
use Rattle.field.proofs.Test.{both_left, both_right, both}
use Rattle.field.proofs.Lists.{get_or-map-below}
use Rattle.field.proofs.Laws.{IsField, dot-lt}
use Rattle.fills.specs.Lists.{all, zeros, vanish}
use Rattle.fills.specs.Fill.{sums_of}
use Rattle.fills.proofs.Tests.{In, all_in, vanish→zeros}
use Rattle.fills.proofs.Marked.{zeros-at, length-zeros}
use Rattle.plans.specs.Plan.{Plan, no_level, plan_of, level_of, row_at, across}
use Rattle.fills.proofs.Vectors.{sums-count}
use Rattle.plans.specs.Refusal.{all_below}
use Rattle.steps.specs.Steps.{new_sums}
use Rattle.codewords.specs.Codeword.{rows_hold, totals_hold, is_codeword}
use Rattle.plans.proofs.Flat.{all-at}
use Rattle.plans.proofs.Rows.{row-end, row-length}
use Rattle.steps.proofs.Fit.{all-rows, all_take, all_drop}
use Rattle.demands.specs.Words.{Codeword}

-- ---- lists of zeros

zeros-same : {A B : Type 0} (a : List A) (b : List B) → length a ≡ length b → zeros a ≡ zeros b
zeros-same a b l = ext_get_or 0 (zeros a) (zeros b) (length-zeros a ∙ l ∙ sym (length-zeros b)) (λ i h. zeros-at a i ∙ sym (zeros-at b i))

-- zeros as many as zeros
pub vanish-same : (a b : List ℕ) → length a ≡ length b → T (vanish a) → T (vanish b) → a ≡ b
vanish-same a b l s t = vanish→zeros a s ∙ zeros-same a b l ∙ sym (vanish→zeros b t)

-- ---- sums of rows

module _ (F : Field) where
  pub sums-below : IsField F → (cs : List (List ℕ)) (v : List ℕ) → T (all_below (size F) (sums_of F cs v))
  unfolding sums_of all_below all
  sums-below K [] v = tt
  sums-below K (c ∷ cs) v =
      both (ltb (dot F c v) (size F)) (all_below (size F) (sums_of F cs v)) (lt→ltb (dot F c v) (size F) (dot-lt F K c v)) (sums-below K cs v)

-- row r's share of the rows' sums under checks is its own sums
pub across-row : (P : Plan) (X : List ℕ) (cs : List (List ℕ)) (r : ℕ) → r < P.rows
    → new_sums (map (across P X) cs) r ≡ sums_of P.field cs (row_at P X r)
unfolding across sums_of
across-row P X [] r h = refl
across-row P X (c ∷ cs) r h = ap₂ ◌∷◌ (get_or-map-below (λ r. dot P.field c (row_at P X r)) P.rows r 0 h) (across-row P X cs r h)

-- ---- codewords

module _ (p : ℕ) (X : List ℕ) (word : Codeword p X) where
  abbrev P : Plan
  P = plan_of p

  pub word_row : (r : ℕ) → r < P.rows → length (row_at P X r) ≡ P.columns
  word_row r h = row-length P X r (omega (arith, row-end P.columns h, word.long))

  pub word_below : (r : ℕ) → r < P.rows → T (all_below (size P.field) (row_at P X r))
  unfolding row_at all_below
  word_below r h =
      all_take (λ x. ltb x (size P.field)) P.columns (drop (r * P.columns) X)
      (all_drop (λ x. ltb x (size P.field)) (r * P.columns) X word.symbols)

  -- level-1 sums are zero
  pub word-sums : (r : ℕ) → r < P.rows → T (vanish (sums_of P.field (level_of P 1).checks (row_at P X r)))
  unfolding is_codeword rows_hold
  word-sums =
      all-rows (λ r. vanish (sums_of P.field (level_of P 1).checks (row_at P X r))) P.rows
      (both_left (rows_hold P X) (all (totals_hold P X) (drop 1 P.levels)) word.holds)

  -- and so are the totals of each level from 2 on
  word-level : (t : ℕ) → suc t < length P.levels → T (totals_hold P X (level_of P (suc (suc t))))
  unfolding is_codeword level_of
  word-level t h =
      subst (λ L. T (totals_hold P X L)) (get_or-drop 1 P.levels t no_level ∙ ap (λ i. get_or P.levels i no_level) (one-add t))
      (all-at (totals_hold P X) no_level (drop 1 P.levels)
      (both_right (rows_hold P X) (all (totals_hold P X) (drop 1 P.levels)) word.holds) t (simp length-drop (omega arith)))

  pub word-totals : (t : ℕ) → 0 < t → t < length P.levels → {c : List ℕ} → In c (level_of P (suc t)).checks
      → sums_of P.field (level_of P (suc t)).weights (across P X c) ≡ zeros (level_of P (suc t)).weights
  unfolding totals_hold sums_of
  word-totals zero z h m = absurd (omega arith)
  word-totals (suc t) z h {c} m =
      let L = level_of P (suc (suc t)) in
      vanish→zeros (sums_of P.field L.weights (across P X c))
      (all_in (λ c. vanish (sums_of P.field L.weights (across P X c))) L.checks (word-level t h) m)
      ∙ zeros-same (sums_of P.field L.weights (across P X c)) L.weights (sums-count P.field L.weights (across P X c))

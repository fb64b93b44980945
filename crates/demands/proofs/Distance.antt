-- No codeword but zero is lighter than d: the codeword and zero agree outside its support, and mending there gives either. Assumes nothing.
use mathlib.Core.Path.{◌≡◌, refl, sym, ap, ap₂, ◌∙◌, subst}
use mathlib.Core.List.{List, [], ◌∷◌, ◌++◌, map}
use Prim.Native.Nat.{ℕ, zero, suc, ◌+◌, ◌*◌, ◌^◌, ◌<◌}
use native.Mathlib.Nat.{zero-add, zero-mul, suc-mul, le_of_eq}
use native.Mathlib.Omega.{arith}
use lib.Count.{ones}
use lib.Dec.{T, eqb, ltb, lt→ltb}
use lib.ListN.{length, take, drop, get_or, replicate, length-map, length-replicate, take-append-drop, drop_of_length-le}
use lib.Seq.{drop-drop}
use Rattle.field.specs.Lists.{up_from, weight}
use Rattle.field.specs.Field.{Field, size, dot}
use Rattle.field.proofs.Test.{both}
use Rattle.field.proofs.Lists.{length_up, get_or-map-below}
use Rattle.field.proofs.Laws.{IsField, size-pos}
use Rattle.fills.specs.Lists.{all, zeros, vanish}
use Rattle.fills.specs.Marks.{bits_of}
use Rattle.fills.specs.Fill.{sums_of}
use Rattle.fills.proofs.Tests.{in_all, zeros-vanish}
use Rattle.fills.proofs.Choices.{agrees-alike}
use Rattle.fills.proofs.Marked.{length-zeros}
use Rattle.fills.proofs.Weights.{marked, marked-bits}
use Rattle.fills.proofs.Picked.{dot-vanish, sums-vanish}
use Rattle.fills.proofs.Spread.{symbols-fit}
use Rattle.plans.specs.Plan.{Plan, Level, known, plan_of, level_of, row_at, marks_at, across}
use Rattle.plans.specs.Refusal.{all_below}
use Rattle.codewords.specs.Codeword.{rows_hold, totals_hold, is_codeword}
use Rattle.repair.specs.Mending.{mend_stripe}
use Rattle.plans.proofs.Spread.{fields}
use Rattle.steps.proofs.Fit.{rows_all, all-zeros, all_take, all_drop, fit-lent}
use Rattle.plans.proofs.Refusals.{unmarked-below}
use Rattle.demands.specs.Published.{distance}
use Rattle.demands.specs.Words.{Codeword, Agree, Fit, total}
use Rattle.demands.specs.Parameters.{Distance}
use Rattle.demands.proofs.Lists.{all_map}
use Rattle.demands.proofs.Marked.{word_with, word_lt, word-bits, support, support-length, support-marked, support-agrees}
use Rattle.demands.proofs.Alike.{rows_agree}
use Rattle.demands.proofs.Codewords.{vanish-same, word_row, word_below}
use Rattle.demands.proofs.Counts.{distance-suffices}
use Rattle.demands.proofs.Parameters.{known-by-distance}

-- ---- weights by rows

weight-append : (a b : List ℕ) → weight (a ++ b) ≡ weight a + weight b
unfolding weight
weight-append [] b = omega arith
weight-append (zero ∷ a) b = weight-append a b
weight-append (suc x ∷ a) b = omega (arith, weight-append a b)

-- as many marks in each row as the row weighs are as many in all as the rest of the stripe weighs
rows-total : (N : ℕ) (X : List ℕ) (f : ℕ → ℕ) (n k : ℕ) → length X ≡ (k + n) * N
    → ((r : ℕ) → r < k + n → ones (f r) ≡ weight (take N (drop (r * N) X))) → total (map f (up_from k n)) ≡ weight (drop (k * N) X)
unfolding up_from total weight
rows-total N X f zero k l h = ap weight (sym (drop_of_length-le X {i = k * N} (le_of_eq (l ∙ ap (λ i. i * N) (omega arith)))))
rows-total N X f (suc n) k l h =
    ap₂ ◌+◌ (h k (omega arith)) (rows-total N X f n (suc k) (l ∙ ap (λ i. i * N) (omega arith)) (λ r m. h r (omega arith)))
    ∙ ap (λ d. weight (take N (drop (k * N) X)) + weight d) (ap (λ i. drop i X) (suc-mul k N) ∙ sym (drop-drop N (k * N) X))
    ∙ sym (weight-append (take N (drop (k * N) X)) (drop N (drop (k * N) X)))
    ∙ ap weight (take-append-drop N (drop (k * N) X))

-- ---- zero is a codeword

unfoldable pub blank_of : Plan → List ℕ
blank_of P = replicate (P.rows * P.columns) 0

module _ (p : ℕ) where
  K : IsField (plan_of p).field
  K = fields p

  abbrev P : Plan
  P = plan_of p

  abbrev blank : List ℕ
  blank = blank_of P

  blank-row : (r : ℕ) → T (vanish (row_at P blank r))
  unfolding row_at vanish blank_of
  blank-row r =
      all_take (λ x. eqb x 0) P.columns (drop (r * P.columns) blank)
      (all_drop (λ x. eqb x 0) (r * P.columns) blank (all-zeros (λ x. eqb x 0) tt (P.rows * P.columns)))

  blank-level : (L : Level) → T (totals_hold P blank L)
  unfolding totals_hold across vanish
  blank-level L =
      in_all (λ c. vanish (sums_of P.field L.weights (across P blank c))) L.checks (λ c m.
      sums-vanish P.field K L.weights (across P blank c)
      (all_map (λ x. eqb x 0) (λ r. dot P.field c (row_at P blank r)) (λ r. rw (dot-vanish P.field K c (row_at P blank r) (blank-row r)) tt)
      (up_from 0 P.rows)))

  pub blank-codeword : Codeword p blank
  unfolding is_codeword rows_hold all_below blank_of
  blank-codeword = record {
    long = length-replicate (P.rows * P.columns) 0;
    symbols = all-zeros (λ x. ltb x (size P.field)) (lt→ltb 0 (size P.field) (size-pos P.field K)) (P.rows * P.columns);
    holds =
        both (rows_hold P blank) (all (totals_hold P blank) (drop 1 P.levels))
        (rows_all (λ r. vanish (sums_of P.field (level_of P 1).checks (row_at P blank r))) P.rows
        (λ r h. sums-vanish P.field K (level_of P 1).checks (row_at P blank r) (blank-row r)))
        (in_all (totals_hold P blank) (drop 1 P.levels) (λ L m. blank-level L));
  }

-- ---- a light codeword, its support marked

module _ (p : ℕ) (kn : T (known p)) (X : List ℕ) (word : Codeword p X) where
  abbrev Q : Plan
  Q = plan_of p

  abbrev F : Field
  F = Q.field

  -- the mark word of row r's support
  mark_word : ℕ → ℕ
  mark_word r = word_with (support (row_at Q X r))

  marks : List ℕ
  marks = map mark_word (up_from 0 Q.rows)

  support-wide : (r : ℕ) → r < Q.rows → length (support (row_at Q X r)) ≡ Q.columns
  support-wide r h = support-length (row_at Q X r) ∙ word_row p X word r h

  word_at : (r : ℕ) → r < Q.rows → get_or marks r 0 ≡ mark_word r
  unfolding marks
  word_at r h = get_or-map-below mark_word Q.rows r 0 h

  word_low : (r : ℕ) → r < Q.rows → mark_word r < 2 ^ Q.columns
  unfolding mark_word
  word_low r h = subst (λ n. word_with (support (row_at Q X r)) < 2 ^ n) (support-wide r h) (word_lt (support (row_at Q X r)))

  word-has : (r : ℕ) → r < Q.rows → bits_of Q.columns (mark_word r) ≡ support (row_at Q X r)
  unfolding mark_word
  word-has r h = ap (λ n. bits_of n (mark_word r)) (sym (support-wide r h)) ∙ word-bits (support (row_at Q X r))

  marks-total : total marks ≡ weight X
  unfolding marks row_at
  marks-total =
      rows-total Q.columns X mark_word Q.rows 0 (word.long ∙ ap (λ i. i * Q.columns) (sym (zero-add Q.rows))) (λ r l.
      let h : r < Q.rows = omega arith in
      sym (marked-bits Q.columns (mark_word r) (word_low r h)) ∙ ap marked (word-has r h) ∙ support-marked (row_at Q X r))
      ∙ ap (λ i. weight (drop i X)) (zero-mul Q.columns)

  fit : Fit p X marks
  unfolding marks
  fit = fit-lent p X marks record {
    plan-known = kn;
    long = word.long;
    words = length-map (up_from 0 Q.rows) mark_word ∙ length_up 0 Q.rows;
    mark-lt = λ r h. rw (word_at r h) (word_low r h);
    row_fits = λ r h. unmarked-below F (marks_at Q marks r) (row_at Q X r) (word_below p X word r h);
  }

  blank-agrees : Agree p marks (blank_of Q) X
  unfolding marks_at all_below
  blank-agrees = rows_agree p marks (blank_of Q) X (λ r h.
      let x = row_at Q X r in
      let same : zeros (support x) ≡ row_at Q (blank_of Q) r =
      vanish-same (zeros (support x)) (row_at Q (blank_of Q) r)
      (length-zeros (support x) ∙ support-wide r h ∙ sym (word_row p (blank_of Q) (blank-codeword p) r h))
      (zeros-vanish (support x)) (blank-row p r) in
      rw (word_at r h, word-has r h, ← same)
      (agrees-alike F (support x) (zeros (support x)) x (support-agrees F x (symbols-fit F x (word_below p X word r h)))))

pub no-lighter : Distance
unfolding blank_of vanish
no-lighter p X word light =
    let kn : T (known p) = known-by-distance p (omega arith) in
    let few : total (marks p kn X word) < distance p = rw (marks-total p kn X word) light in
    let mended : (Y : List ℕ) → Codeword p Y → Agree p (marks p kn X word) Y X → mend_stripe p X (marks p kn X word) ≡ Y =
    λ Y w a. (distance-suffices p Y X (marks p kn X word) w (fit p kn X word) a few).1 in
    let zero_word : X ≡ blank_of (plan_of p) =
    sym (mended X word (λ i e. refl)) ∙ mended (blank_of (plan_of p)) (blank-codeword p) (blank-agrees p kn X word) in
    rw zero_word (all-zeros (λ x. eqb x 0) tt ((plan_of p).rows * (plan_of p).columns))

-- A codeword for any data: its rows are filled level by level, as encoding mends them. Assumes nothing.
use mathlib.Core.Path.{◌≡◌, sym, ap, ap₂, ◌∙◌, subst, fun_ext}
use mathlib.Core.Logic.{◌⊎◌, inl, inr}
use mathlib.Core.Bool.{Bool, true, not, ◌&&◌}
use mathlib.Core.List.{List, [], ◌++◌, map, flat_map}
use Prim.Native.Nat.{ℕ, zero, suc, pred, ◌+◌, ◌<◌, ◌≤◌}
use native.Mathlib.Nat.{eq-or-lt_of_le, zero-add}
use native.Mathlib.Omega.{arith}
use borrow.Author.Tests.{le-ltb}
use lib.Dec.{T, T_not, ltb, leb, ltb→lt, leb→le, lt→ltb, le→leb}
use lib.ListN.{length, get_or, length-append, length-map, drop, length-drop}
use lib.Seq.{ext_get_or, get_or-drop}
use Rattle.field.specs.Lists.{up_from}
use Rattle.field.specs.Field.{Field, size, dot}
use Rattle.field.proofs.Test.{both_left, both_right, both}
use Rattle.field.proofs.Lists.{length_up, get_or-map-below, map-up-same}
use Rattle.field.proofs.Laws.{IsField, size-pos, dot-lt}
use Rattle.fills.specs.Lists.{zeros, vanish, all}
use Rattle.fills.specs.Fill.{sums_of}
use Rattle.fills.proofs.Tests.{In, either, all_append, zeros-vanish, in_all}
use Rattle.fills.proofs.Choices.{are_symbols, agrees-alike, agrees-length, alike_at}
use Rattle.fills.proofs.Vectors.{sums-append, sums-count}
use Rattle.fills.proofs.Filling.{Filling}
use Rattle.fills.proofs.Marked.{length-zeros}
use Rattle.fills.proofs.Spread.{zeros-symbols}
use Rattle.plans.specs.Plan.{Plan, Level, known, plan_of, level_of, checks_to, marks_at, no_level, row_at, across}
use Rattle.plans.specs.Refusal.{all_below}
use Rattle.steps.proofs.Levels.{checks-suc, checks-first}
use Rattle.steps.proofs.Sound.{agrees-below}
use Rattle.plans.proofs.Flat.{all_get_d, flat-length}
use Rattle.plans.proofs.Spread.{fields}
use Rattle.plans.proofs.Refusals.{unmarked-below}
use native.Mathlib.Numerals.{one-add}
use Rattle.codewords.specs.Codeword.{rows_hold, totals_hold, is_codeword}
use Rattle.plans.proofs.Plans.{shape}
use Rattle.steps.proofs.Fit.{LentFit, lent-fit, rows_all}
use Rattle.plans.proofs.Rows.{marks-length}
use Rattle.demands.proofs.Lists.{map-in, all_map, append-same, at_all, flat-all, flat-row}
use Rattle.demands.proofs.Square.{Square, met}
use Rattle.demands.proofs.Few.{mend_level, pending, row-square, level-square, mend-level-bounds}
use Rattle.demands.specs.Words.{Codeword, Agree, Fit}
use Rattle.demands.proofs.Alike.{alike-sym, rows_agree}

-- what is there for each number that passes a test, as a function
choose : (b : ℕ → Bool) (Q : ℕ → List ℕ → Type 0) → ((r : ℕ) → T (b r) → (x : List ℕ) × Q r x)
    → (X : ℕ → List ℕ) × ((r : ℕ) → T (b r) → Q r (X r))
choose b Q f = (λ r. (go r (either (b r))).0, λ r. (go r (either (b r))).1)
  where
    go : (r : ℕ) → T (b r) ⊎ T (not (b r)) → (x : List ℕ) × (T (b r) → Q r x)
    go r (inl t) = ((f r t).0, λ s. (f r t).1)
    go r (inr n) = ([], λ t. absurd (T_not (b r) n t))

module _ (p : ℕ) (kn : T (known p)) (D : ℕ → List ℕ) where
  abbrev P : Plan
  P = plan_of p

  abbrev F : Field
  F = P.field

  K : IsField F
  K = fields p

  abbrev symbol : ℕ → Bool
  symbol x = ltb x (size F)

  abbrev places : ℕ → List Bool
  places r = marks_at P P.check_places r

  -- x is row r's data with its check places filled, and its sums of levels 1 to t are s
  abbrev RowFilled : (t r : ℕ) (s x : List ℕ) → Type 0
  RowFilled t r s x = Filling F (checks_to P t) s (places r) (D r) x

  -- sums of levels 1 to t for every row, and the rows that are mended by then, which have them
  record Stage (t : ℕ) (S : ℕ → List ℕ) : Type 0 where
    long : (r : ℕ) → r < P.rows → length (S r) ≡ length (checks_to P t)
    symbols : (r : ℕ) → r < P.rows → T (are_symbols F (S r))
    word : ℕ → List ℕ
    done : (r : ℕ) → r < P.rows → mend_level p kn r ≤ t → RowFilled t r (S r) (word r)

  -- with the rows mended before, those mended at level t
  stage : (t : ℕ) (S : ℕ → List ℕ) → ((r : ℕ) → r < P.rows → length (S r) ≡ length (checks_to P t))
      → ((r : ℕ) → r < P.rows → T (are_symbols F (S r)))
      → ((r : ℕ) → r < P.rows → mend_level p kn r < t → (x : List ℕ) × RowFilled t r (S r) x) → Stage t S
  stage t S long symbols before = record {
    long = long;
    symbols = symbols;
    word = chosen.0;
    done = λ r h l. chosen.1 r (both (inside r) (due r) (lt→ltb r P.rows h) (le→leb (mend_level p kn r) t l));
  }
    where
      inside : ℕ → Bool
      inside r = ltb r P.rows

      due : ℕ → Bool
      due r = leb (mend_level p kn r) t

      row : (r : ℕ) → r < P.rows → mend_level p kn r ≤ t → (x : List ℕ) × RowFilled t r (S r) x
      row r h l =
          elim (eq-or-lt_of_le l) [
            | inl e ↦ met F K _ _ (subst (λ u. Square F (checks_to P u) (places r)) e (row-square p kn r h)) (S r) (D r) (long r h) (symbols r h)
            | inr k ↦ before r h k
          ]

      chosen : (X : ℕ → List ℕ) × ((r : ℕ) → T (inside r && due r) → RowFilled t r (S r) (X r))
      chosen =
          choose (λ r. inside r && due r) (λ r. RowFilled t r (S r)) (λ r m.
          row r (ltb→lt r P.rows (both_left (inside r) (due r) m)) (leb→le (mend_level p kn r) t (both_right (inside r) (due r) m)))

  -- the rows' sums under a check
  abbrev row_sums : (ℕ → List ℕ) → List ℕ → List ℕ
  row_sums X c = map (λ r. dot F c (X r)) (up_from 0 P.rows)

  rows-count : (X : ℕ → List ℕ) (c : List ℕ) → length (row_sums X c) ≡ P.rows
  rows-count X c = length-map (up_from 0 P.rows) (λ r. dot F c (X r)) ∙ length_up 0 P.rows

  -- all rows, with the sums S of levels 1 to t and zero totals at the levels above
  pub record Built (t : ℕ) (S : ℕ → List ℕ) : Type 0 where
    pub word : ℕ → List ℕ
    pub rows : (r : ℕ) → r < P.rows → RowFilled t r (S r) (word r)
    pub totals : (u : ℕ) → t ≤ u → u < length P.levels → {c : List ℕ} → In c (level_of P (suc u)).checks
        → T (vanish (sums_of F (level_of P (suc u)).weights (row_sums word c)))

  -- ---- a level is learned

  module _ (i : ℕ) (low : suc i < length P.levels) (S : ℕ → List ℕ) (s : Stage (suc i) S) where
    abbrev t : ℕ
    t = suc i

    abbrev L : Level
    L = level_of P (suc t)

    sums-more : (x : List ℕ) → sums_of F (checks_to P (suc t)) x ≡ sums_of F (checks_to P t) x ++ sums_of F L.checks x
    sums-more x = ap (λ cs. sums_of F cs x) (checks-suc P t low) ∙ sums-append F (checks_to P t) L.checks x

    -- the rows' sums under a check, filled so that the totals are zero
    filled : (c : List ℕ) → (y : List ℕ) × Filling F L.weights (zeros L.weights) (pending p kn t) (row_sums s.word c) y
    filled c =
        met F K _ _ (level-square p kn i low) (zeros L.weights) (row_sums s.word c) (length-zeros L.weights) (zeros-symbols F K L.weights)

    abbrev learn : List ℕ → List ℕ
    learn c = (filled c).0

    learned-length : (c : List ℕ) → length (learn c) ≡ P.rows
    learned-length c =
        agrees-length F (pending p kn t) (row_sums s.word c) (learn c) (filled c).1.agrees
        ∙ length-map (up_from 0 P.rows) (λ r. ltb t (mend_level p kn r)) ∙ length_up 0 P.rows

    -- a mended row's sums are its own
    learned-own : (c : List ℕ) (r : ℕ) → r < P.rows → mend_level p kn r ≤ t → dot F c (s.word r) ≡ get_or (learn c) r 0
    learned-own c r h l =
        sym (get_or-map-below (λ r. dot F c (s.word r)) P.rows r 0 h)
        ∙ alike_at (pending p kn t) (row_sums s.word c) (learn c) (agrees-alike F (pending p kn t) (row_sums s.word c) (learn c) (filled c).1.agrees) r
        (get_or-map-below (λ r. ltb t (mend_level p kn r)) P.rows r true h ∙ le-ltb t (mend_level p kn r) l)

    learned-symbol : (c : List ℕ) (r : ℕ) → T (symbol (get_or (learn c) r 0))
    unfolding all_below
    learned-symbol c r =
        all_get_d symbol 0 (lt→ltb 0 (size F) (size-pos F K)) (learn c)
        (agrees-below F (pending p kn t) (row_sums s.word c) (learn c)
        (unmarked-below F (pending p kn t) (row_sums s.word c)
        (all_map symbol (λ r. dot F c (s.word r)) (λ r. lt→ltb (dot F c (s.word r)) (size F) (dot-lt F K c (s.word r))) (up_from 0 P.rows)))
        (filled c).1.agrees) r

    -- row r's new sums, and all its sums
    abbrev new : ℕ → List ℕ
    new r = map (λ c. get_or (learn c) r 0) L.checks

    abbrev more : ℕ → List ℕ
    more r = S r ++ new r

    next : Stage (suc t) more
    unfolding sums_of
    next =
        stage (suc t) more
        (λ r h.
        length-append (S r) (new r) ∙ ap₂ ◌+◌ (s.long r h) (length-map L.checks (λ c. get_or (learn c) r 0))
        ∙ sym (ap length (checks-suc P t low) ∙ length-append (checks_to P t) L.checks))
        (λ r h. all_append symbol (S r) (new r) (s.symbols r h) (all_map symbol (λ c. get_or (learn c) r 0) (λ c. learned-symbol c r) L.checks))
        (λ r h l.
        let k : mend_level p kn r ≤ t = omega arith in (
          s.word r,
          record {
            agrees = (s.done r h k).agrees;
            meets =
                sums-more (s.word r)
                ∙ ap₂ ◌++◌ (s.done r h k).meets (ap (λ f. map f L.checks) (fun_ext (λ c. learned-own c r h k)));
          },
        ))

    -- rows that have the learned sums have zero totals at the level
    back : Built (suc t) more → Built t S
    unfolding sums_of
    back b = record { word = b.word; rows = λ r h. record { agrees = (b.rows r h).agrees; meets = (split r h).0 }; totals = totals }
      where
        split : (r : ℕ) → r < P.rows → (sums_of F (checks_to P t) (b.word r) ≡ S r) × (sums_of F L.checks (b.word r) ≡ new r)
        split r h =
            append-same (sums_of F (checks_to P t) (b.word r)) (S r) (sym (sums-more (b.word r)) ∙ (b.rows r h).meets)
            (sums-count F (checks_to P t) (b.word r) ∙ sym (s.long r h))

        own : {c : List ℕ} → In c L.checks → row_sums b.word c ≡ learn c
        own {c} m =
            ext_get_or 0 (row_sums b.word c) (learn c) (rows-count b.word c ∙ sym (learned-length c)) (λ r l.
            let h : r < P.rows = omega (arith, rows-count b.word c) in
            get_or-map-below (λ r. dot F c (b.word r)) P.rows r 0 h
            ∙ map-in (λ c. dot F c (b.word r)) (λ c. get_or (learn c) r 0) L.checks (split r h).1 m)

        totals : (u : ℕ) → t ≤ u → u < length P.levels → {c : List ℕ} → In c (level_of P (suc u)).checks
            → T (vanish (sums_of F (level_of P (suc u)).weights (row_sums b.word c)))
        totals u l h {c} m =
            elim (eq-or-lt_of_le l) [
              | inl e ↦
                  subst (λ u. T (vanish (sums_of F (level_of P (suc u)).weights (row_sums b.word c)))) e
                  (rw (own (subst (λ u. In c (level_of P (suc u)).checks) (sym e) m), (filled c).1.meets) (zeros-vanish L.weights))
              | inr k ↦ b.totals u k h m
            ]

  -- ---- level by level

  build : (k i : ℕ) → suc i + k ≡ length P.levels → (S : ℕ → List ℕ) → Stage (suc i) S → Built (suc i) S
  build zero i e S s = record {
    word = s.word;
    rows = λ r h. s.done r h (omega (arith, (mend-level-bounds p kn r h).1));
    totals = λ u l h m. absurd (omega arith);
  }
  build (suc k) i e S s =
      let low : suc i < length P.levels = omega arith in back i low S s (build k (suc i) (omega arith) (more i low S s) (next i low S s))

  -- from zero sums at level 1
  pub built : 0 < length P.levels → Built 1 (λ r. zeros (checks_to P 1))
  built h =
      build (pred (length P.levels)) 0 (omega arith) (λ r. zeros (checks_to P 1))
      (stage 1 (λ r. zeros (checks_to P 1)) (λ r l. length-zeros (checks_to P 1)) (λ r l. zeros-symbols F K (checks_to P 1))
      (λ r l m. absurd (omega (arith, (mend-level-bounds p kn r l).0))))

-- ---- the stripe of those rows

module _ (p : ℕ) (stripe : List ℕ) (fit : Fit p stripe (plan_of p).check_places) where
  abbrev Q : Plan
  Q = plan_of p

  abbrev G : Field
  G = Q.field

  abbrev check_marks : ℕ → List Bool
  check_marks r = marks_at Q Q.check_places r

  lent : LentFit p stripe Q.check_places
  lent = lent-fit p stripe Q.check_places fit

  some_level : 0 < length Q.levels
  some_level = (shape p lent.plan-known).levels-pos

  -- its rows
  made : Built p lent.plan-known (row_at Q stripe) 1 (λ r. zeros (checks_to Q 1))
  made = built p lent.plan-known (row_at Q stripe) some_level

  X : List ℕ
  X = flat_map made.word (up_from 0 Q.rows)

  wide : (r : ℕ) → r < Q.rows → length (made.word r) ≡ Q.columns
  wide r h = agrees-length G (check_marks r) (row_at Q stripe r) (made.word r) (made.rows r h).agrees ∙ marks-length Q Q.check_places r

  X-row : (r : ℕ) → r < Q.rows → row_at Q X r ≡ made.word r
  unfolding row_at X
  X-row r h = flat-row made.word Q.columns 0 Q.rows (λ r l. wide r (omega arith)) r h ∙ ap made.word (zero-add r)

  X-across : (c : List ℕ) → across Q X c ≡ map (λ r. dot G c (made.word r)) (up_from 0 Q.rows)
  unfolding across
  X-across c =
      map-up-same (λ r. dot G c (row_at Q X r)) (λ r. dot G c (made.word r)) 0 Q.rows
      (λ r h. ap (dot G c) (X-row (0 + r) (subst (λ k. k < Q.rows) (sym (zero-add r)) h)))

  rows-hold : T (rows_hold Q X)
  unfolding rows_hold
  rows-hold =
      rows_all (λ r. vanish (sums_of G (level_of Q 1).checks (row_at Q X r))) Q.rows
      (λ r h. rw (X-row r h, ← checks-first Q some_level, (made.rows r h).meets) (zeros-vanish (checks_to Q 1)))

  totals-hold : T (all (totals_hold Q X) (drop 1 Q.levels))
  unfolding totals_hold level_of
  totals-hold =
      at_all (totals_hold Q X) no_level (drop 1 Q.levels) (λ i l.
      let h : suc i < length Q.levels = omega (arith, length-drop 1 Q.levels) in
      subst (λ L. T (totals_hold Q X L)) (sym (get_or-drop 1 Q.levels i no_level ∙ ap (λ k. get_or Q.levels k no_level) (one-add i)))
      (in_all (λ c. vanish (sums_of G (level_of Q (suc (suc i))).weights (across Q X c))) (level_of Q (suc (suc i))).checks
      (λ c m. rw (X-across c) (made.totals (suc i) (omega arith) h m))))

  X-codeword : Codeword p X
  unfolding is_codeword all_below X
  X-codeword = record {
    long = flat-length made.word Q.columns 0 Q.rows (λ r l. wide r (omega arith));
    symbols =
        flat-all made.word (λ x. ltb x (size G)) 0 Q.rows (λ r l.
        let h : r < Q.rows = omega arith in
        agrees-below G (check_marks r) (row_at Q stripe r) (made.word r) (lent.row_fits r h) (made.rows r h).agrees);
    holds = both (rows_hold Q X) (all (totals_hold Q X) (drop 1 Q.levels)) rows-hold totals-hold;
  }

  X-agrees : Agree p Q.check_places X stripe
  X-agrees =
      rows_agree p Q.check_places X stripe (λ r h.
      rw (X-row r h)
      (alike-sym (check_marks r) (row_at Q stripe r) (made.word r) (agrees-alike G (check_marks r) (row_at Q stripe r) (made.word r) (made.rows r h).agrees)))

  -- a codeword that agrees with the stripe outside the check check_marks
  pub codeword-holds : (X : List ℕ) × Codeword p X × Agree p Q.check_places X stripe
  codeword-holds = (X, X-codeword, X-agrees)

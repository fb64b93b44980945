-- Rows without marks and the sums learned for them: what a row step finds of such a row; a row has them once it is filled, and so has every
-- row without marks once a level is learned. Assumes nothing.
use mathlib.Core.Path.{◌≡◌, refl, sym, ap, ap₂, ◌∙◌, subst}
use mathlib.Core.Logic.{◌≢◌}
use mathlib.Core.Bool.{true, not}
use mathlib.Core.List.{List, [], ◌∷◌, ◌++◌}
use Prim.Native.Nat.{ℕ, suc, ◌+◌, ◌*◌, ◌<◌, ◌≤◌}
use borrow.Author.Tests.{eq-eqb}
use lib.Dec.{eqb}
use lib.ListN.{length, get_or, set}
use lib.Seq.{set-get_or}
use Rattle.field.specs.Field.{dot}
use Rattle.field.proofs.Lists.{get_or-map-below}
use Rattle.fills.specs.Lists.{zeros}
use Rattle.fills.specs.Marks.{bits_of}
use Rattle.fills.specs.Fill.{sums_of, tied, none, one}
use Rattle.fills.proofs.Choices.{agrees-alike, alike_at}
use Rattle.fills.proofs.Filling.{Means, fill-means}
use Rattle.fills.proofs.Vectors.{sums-append}
use Rattle.plans.specs.Plan.{Plan, Level, plan_of, level_of, checks_to, row_at, marks_at, across}
use Rattle.plans.specs.Refusal.{sums_at}
use Rattle.steps.specs.Steps.{row_fill, put_row, lossy, check_fill, learned, level_fill, new_sums, raise}
use Rattle.steps.specs.Parts.{bench_of}
use Rattle.walks.specs.Walk.{HasSums, Settled}
use Rattle.plans.specs.declared.Bench.{Bench}
use Rattle.plans.proofs.Rows.{row-length, row-again, marks-length}
use Rattle.steps.proofs.Unmarked.{Clear, bits-clear, clear-untied, clear_filled, clear-one, clear_none}
use Rattle.steps.proofs.Levels.{checks-suc}
use Rattle.steps.proofs.Passing.{Ones}
use Rattle.steps.proofs.Sound.{Sound, filled_row, row-place, put-row, put-row-other, learned-ones, learned-length, raise-sums}

module _ (b : Bench) where
  abbrev P : Plan
  P = plan_of b.plan

  -- ---- a row without marks

  module _ (s : Sound b) (r : ℕ) (inside : r < P.rows) (z : get_or b.marks r 0 ≡ 0) where
    place : r * P.columns + P.columns ≤ length b.symbols
    place = row-place b s.fit r inside s.room

    long : length (row_at P b.symbols r) ≡ P.columns
    long = row-length P b.symbols r place

    wide : length (row_at P b.symbols r) ≡ length (marks_at P b.marks r)
    wide = long ∙ sym (marks-length P b.marks r)

    clear : Clear (marks_at P b.marks r)
    unfolding marks_at
    clear = subst (λ w. Clear (bits_of P.columns w)) (sym z) (bits-clear P.columns)

    pub whole-untied : row_fill b r ≡ tied → ⊥
    unfolding row_fill
    whole-untied = clear-untied _ _ _ _ _ clear

    -- its fill is the row itself
    pub whole_row : (v : List ℕ) → row_fill b r ≡ one v → v ≡ row_at P b.symbols r
    unfolding row_fill
    whole_row v e = clear_filled _ _ _ _ _ clear wide v e

    pub whole-fill : HasSums b r → row_fill b r ≡ one (row_at P b.symbols r)
    unfolding row_fill
    whole-fill h = clear-one _ _ _ _ _ clear wide h

    -- or nothing, where it has not its sums
    pub whole-none : (HasSums b r → ⊥) → row_fill b r ≡ none
    unfolding row_fill
    whole-none ne = clear_none _ _ _ _ _ clear wide ne

    -- and putting it changes nothing
    pub put_whole : put_row b r (row_at P b.symbols r) ≡ b
    unfolding put_row
    put_whole =
        ap₂ (λ x m. bench_of b.plan b.level x m b.sums) (row-again P r (row_at P b.symbols r) b.symbols long place refl)
        (ap (set b.marks r) (sym z) ∙ set-get_or b.marks r 0)

  -- ---- a filled row

  module _ (s : Sound b) (r : ℕ) (inside : r < P.rows) (v : List ℕ) (e : row_fill b r ≡ one v) where
    filled-wide : length v ≡ P.columns
    filled-wide = (filled_row b s.fit r inside v e).0

    pub put_has : HasSums (put_row b r v) r
    unfolding row_fill put_row
    put_has =
        let C = checks_to P b.level in
        let target = sums_at P b.level b.sums r in
        let ms = marks_at P b.marks r in
        let row = row_at P b.symbols r in
        ap (sums_of P.field C) (put-row b s.fit r inside s.room v filled-wide)
        ∙ (subst (Means P.field C target ms row) e (fill-means P.field C target ms row)).1.meets

    pub put-has-other : (k : ℕ) → k ≢ r → HasSums b k → HasSums (put_row b r v) k
    unfolding put_row
    put-has-other k ne h = ap (sums_of P.field (checks_to P b.level)) (put-row-other b s.fit r inside s.room v filled-wide k ne) ∙ h

  -- ---- a learned level

  module _ (s : Sound b) (low : b.level < length P.levels) (cs : List (List ℕ)) (e : level_fill b ≡ learned cs) where
    abbrev L : Level
    L = level_of P (suc b.level)

    module _ (r : ℕ) (inside : r < P.rows) (z : get_or b.marks r 0 ≡ 0) where
      -- a row without marks learns its own sum
      own-sum : (c v : List ℕ) → check_fill b c ≡ one v → get_or v r 0 ≡ dot P.field c (row_at P b.symbols r)
      unfolding lossy across check_fill
      own-sum c v q =
          let W = L.weights in
          let ms = lossy P b.marks in
          let own = across P b.symbols c in
          let filled = (subst (Means P.field W (zeros W) ms own) q (fill-means P.field W (zeros W) ms own)).1 in
          sym (alike_at ms own v (agrees-alike P.field ms own v filled.agrees) r
          (get_or-map-below (λ r. not (eqb (get_or b.marks r 0) 0)) P.rows r true inside ∙ ap not (eq-eqb (get_or b.marks r 0) 0 z)))
          ∙ get_or-map-below (λ r. dot P.field c (row_at P b.symbols r)) P.rows r 0 inside

      own-sums : (C vs : List (List ℕ)) → Ones (check_fill b) C vs → new_sums vs r ≡ sums_of P.field C (row_at P b.symbols r)
      unfolding sums_of
      own-sums [] [] o = refl
      own-sums [] (v ∷ vs) o = absurd o
      own-sums (c ∷ C) [] o = absurd o
      own-sums (c ∷ C) (v ∷ vs) o = ap₂ ◌∷◌ (own-sum c v o.0) (own-sums C vs o.1)

    pub settled-raise : Settled b → Settled (raise b cs)
    unfolding raise
    settled-raise settled r inside z =
        let row = row_at P b.symbols r in
        ap (λ C. sums_of P.field C row) (checks-suc P b.level low) ∙ sums-append P.field (checks_to P b.level) L.checks row
        ∙ ap₂ ◌++◌ (settled r inside z) (sym (own-sums r inside z L.checks cs (learned-ones b s.fit cs e)))
        ∙ sym (raise-sums b s.fit s.room low cs (learned-length b s.fit cs e) r inside)

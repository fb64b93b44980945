-- A row as it is lent to `fill`: the checks of levels 1 to t, its learned sums and its symbols are parts of what the code was lent. Assumes nothing.
use mathlib.Core.Path.{◌≡◌, refl, sym, ap, ap₂, ◌∙◌}
use mathlib.Core.Logic.{◌≢◌}
use mathlib.Core.Bool.{Bool, true, false, not}
use mathlib.Core.List.{List, ◌++◌, map}
use Prim.Native.Nat.{ℕ, ◌+◌, ◌*◌, ◌-◌, ◌<◌, ◌≤◌}
use native.Mathlib.Nat.{le_trans}
use native.Mathlib.Omega.{arith}
use denote.Enum.Bare.{sameb}
use lib.Count.{ones}
use lib.ListN.{length, take, drop}
use lib.Seq.{sets, length-take-le}
use Rattle.field.specs.Lists.{up_from}
use Rattle.field.specs.Field.{size, gf2, gf16, gf256}
use Rattle.field.specs.Ours.{field_of}
use Rattle.field.specs.declared.Gf.{Gf}
use Rattle.field.specs.contracts.Gf.{the_type}
use Rattle.field.specs.declared.Gf.TheVariants.{Two, Sixteen, Bytes}
use Rattle.field.proofs.Ring.{size-pos}
use Rattle.fills.specs.Marks.{rows_of, bits_of}
use Rattle.linear.specs.Answer.{Fillable, fill_of, answer_of, vector_of}
use Rattle.linear.specs.declared.FillAnswer.{FillAnswer}
use Rattle.linear.specs.declared.FillAnswer.TheVariants.{Tied}
use Rattle.fills.proofs.Marked.{symbols-at, length-bits}
use Rattle.fills.proofs.Weights.{marked-bits}
use Rattle.fills.specs.Fill.{fill}
use Rattle.plans.specs.Plan.{Plan, plan_of, checks_to, row_at}
use Rattle.plans.specs.Refusal.{sums_at, all_below}
use Rattle.plans.specs.Rooms.{sum_room}
use Rattle.plans.specs.Tables.{check_table}
use Rattle.tables.specs.Tables.{FactsOf}
use Rattle.tables.specs.declared.Facts.{Facts}
use Rattle.plans.proofs.Flat.{row_in}
use Rattle.plans.proofs.Plans.{columns-most}
use Rattle.plans.proofs.Tables.{sums-most, checks-in, checks-lt}
use Rattle.plans.proofs.Rows.{row-end as end-of-row, row-length, row-again}
use Rattle.plans.proofs.Spread.{sums-tied}
use Rattle.steps.proofs.Fit.{take-lt, sums-fit}
use Rattle.plans.proofs.Sizes.{checks-room}
use Rattle.rows.specs.Filled.{fill_at, RowReady}
use Rattle.plans.proofs.Parts.{part, part_of, part_length, part-back, rows-of, rows-front}

-- ---- the field of bits is known by the code's test, and by its size

pub is-two : (q : Gf) {b : Bool} → b ≡ sameb the_type q Two → b ≡ true → q ≡ Two
is-two Two e t = refl
is-two Sixteen e t = absurd cc
is-two Bytes e t = absurd cc

pub not-two : (q : Gf) {b : Bool} → b ≡ sameb the_type q Two → b ≡ false → q ≢ Two
not-two Two e f z = absurd cc
not-two Sixteen e f z = absurd cc
not-two Bytes e f z = absurd cc

-- told by `!=`
pub differs : (q : Gf) {b : Bool} → b ≡ not (sameb the_type q Two) → b ≡ true → q ≢ Two
differs Two e t z = absurd cc
differs Sixteen e t z = absurd cc
differs Bytes e t z = absurd cc

pub two-sized : (q : Gf) → size (field_of q) ≡ 2 → q ≡ Two
unfolding field_of size gf2 gf16 gf256
two-sized Two e = refl
two-sized Sixteen e = absurd (omega (arith, e))
two-sized Bytes e = absurd (omega (arith, e))

-- ---- what is lent

-- what the code knows where it lends row r, m being the number of its sums
pub record Lending (p t : ℕ) (f : Facts) (m : ℕ) (checks symbols sums : List ℕ) (word r : ℕ) : Type 0 where
  pub facts : FactsOf (plan_of p) f
  pub count : m ≡ length (checks_to (plan_of p) t)
  pub table : checks ≡ check_table (plan_of p)
  pub asked : RowReady p t symbols sums word r

module _ {p t : ℕ} {f : Facts} {m : ℕ} {checks symbols sums : List ℕ} {word r : ℕ} (l : Lending p t f m checks symbols sums word r) where
  open l use {facts as is, count, table, asked}

  abbrev P : Plan
  P = plan_of p

  abbrev lent_checks : List ℕ
  lent_checks = take (m * f.columns) checks

  abbrev lent_sums : List ℕ
  lent_sums = part (r * sum_room) m sums

  abbrev lent_row : List ℕ
  lent_row = part (r * f.columns) f.columns symbols

  few : m ≤ sum_room
  few = rw count (sums-most p t)

  pub checks-end : m * f.columns ≤ length checks
  checks-end = rw (count, is.columns, table) (checks-room p t)

  pub sums-end : r * sum_room + m ≤ length sums
  sums-end = omega (arith, few, asked.inside, asked.sums)

  pub row-end : r * f.columns + f.columns ≤ length symbols
  row-end = le_trans (end-of-row f.columns asked.inside) (rw is.columns asked.symbols)

  sums-are : lent_sums ≡ sums_at P t sums r
  unfolding sums_at
  sums-are = part_of (r * sum_room) m sums ∙ ap (λ n. take n (drop (r * sum_room) sums)) count

  row_is : lent_row ≡ row_at P symbols r
  unfolding row_at
  row_is = part_of (r * f.columns) f.columns symbols ∙ ap (λ n. take n (drop (r * n) symbols)) is.columns

  sums-count : length lent_sums ≡ m
  sums-count = part_length (r * sum_room) m sums sums-end

  row_count : length lent_row ≡ f.columns
  row_count = part_length (r * f.columns) f.columns symbols row-end

  pub checks-long : length lent_checks ≡ m * f.columns
  checks-long = length-take-le (m * f.columns) checks checks-end

  -- the code's fill is the row's
  fill_is : fill_of f.field lent_checks lent_sums lent_row word ≡ fill_at P t sums word symbols r
  unfolding fill_of
  fill_is =
      ap₂ (λ a b. fill (field_of f.field) (rows_of a b lent_checks) lent_sums (bits_of b word) lent_row) sums-count row_count
      ∙ ap (λ l. fill (field_of f.field) l lent_sums (bits_of f.columns word) lent_row) (rows-front m f.columns checks ∙ rows-of m f.columns checks)
      ∙ ap₂ (λ s v. fill (field_of f.field) (map (row_in f.columns checks) (up_from 0 m)) s (bits_of f.columns word) v) sums-are row_is
      ∙ rw (is.columns, is.field.names, count, table) (ap (λ l. fill P.field l (sums_at P t sums r) (bits_of P.columns word) (row_at P symbols r)) (checks-in p t))

  -- what `fill` asks
  pub fits : Fillable f.field lent_checks lent_sums lent_row word
  unfolding all_below
  fits = record {
    few = omega (arith, sums-count, few);
    narrow = rw (row_count, is.columns) (columns-most p);
    shape = checks-long ∙ sym (ap₂ ◌*◌ sums-count row_count);
    within = rw (row_count, is.columns) asked.marks;
    coefficients = rw is.field.names (take-lt _ (m * f.columns) checks (size-pos P.field) (λ j. rw table (checks-lt p j)));
    sums = rw (is.field.names, sums-are) (symbols-at P.field (sums_at P t sums r) (sums-fit P t sums asked.small r asked.inside));
  }

  -- what filling the row answers, and what it leaves in the symbols
  abbrev Fills : FillAnswer → List ℕ → Type 0
  Fills a after =
      let row = fill_at P t sums word symbols r in (a ≡ answer_of row) × (after ≡ sets symbols (r * P.columns) (vector_of row (row_at P symbols r)))

  -- the lent row is filled, and stands in its place
  pub row-filled : (v : List ℕ) {a : FillAnswer} → length v ≡ length lent_row
      → (a ≡ answer_of (fill_of f.field lent_checks lent_sums lent_row word)) × (v ≡ vector_of (fill_of f.field lent_checks lent_sums lent_row word) lent_row)
      → Fills a (take (r * f.columns) symbols ++ (v ++ drop (r * f.columns + f.columns - r * f.columns) (drop (r * f.columns) symbols)))
  row-filled v long told = (
    told.0 ∙ ap answer_of fill_is,
    part-back (r * f.columns) (r * f.columns + f.columns - r * f.columns) symbols v (omega (arith, row-end)) (omega (arith, long, row_count))
        ∙ ap₂ (λ j w. sets symbols (r * j) w) is.columns (told.1 ∙ ap₂ vector_of fill_is row_is),
  )

  -- in a row of power sums: with more marks than sums it is tied, and the symbols are as they were
  pub too_many : f.field ≢ Two → m < ones word → Fills Tied symbols
  unfolding answer_of vector_of all_below
  too_many ne more =
      let place : r * P.columns + P.columns ≤ length symbols = rw (← is.columns) row-end in
      let e = sums-tied p t (λ two. ne (two-sized f.field (ap size is.field.names ∙ two))) (bits_of P.columns word) (sums_at P t sums r) (row_at P symbols r)
      (length-bits P.columns word) (sym (ap length sums-are) ∙ sums-count ∙ count) (sums-fit P t sums asked.small r asked.inside)
      (rw (marked-bits P.columns word asked.marks, ← count) more) in
      rw e (refl, sym (row-again P r (row_at P symbols r) symbols (row-length P symbols r place) place refl))

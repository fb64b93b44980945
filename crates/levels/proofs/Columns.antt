-- One check's sums as they are lent to `fill`: the weights of the next level and a target of zeros. Assumes nothing.
use mathlib.Core.Path.{◌≡◌, refl, sym, ap, ap₂, ◌∙◌}
use mathlib.Core.List.{List, [], ◌∷◌, map}
use Prim.Native.Nat.{ℕ, zero, suc, ◌+◌, ◌*◌, ◌≤◌}
use native.Mathlib.Omega.{arith}
use lib.Dec.{ltb, lt→ltb}
use lib.ListN.{length, take, drop, replicate}
use lib.Seq.{length-take-le}
use Rattle.field.specs.Lists.{up_from}
use Rattle.field.specs.Field.{size, dot}
use Rattle.field.specs.Ours.{field_of}
use Rattle.field.specs.declared.Gf.{Gf}
use Rattle.field.proofs.Ring.{size-pos}
use Rattle.fills.specs.Lists.{zeros}
use Rattle.fills.specs.Marks.{rows_of, bits_of}
use Rattle.linear.specs.Answer.{Fillable, fill_of, answer_of, vector_of}
use Rattle.linear.specs.declared.FillAnswer.{FillAnswer}
use Rattle.fills.specs.Fill.{fill}
use Rattle.plans.specs.Plan.{plan_of, level_of, row_at, across}
use Rattle.plans.specs.Rooms.{total_room}
use Rattle.plans.specs.Tables.{check_table, row_sums}
use Rattle.plans.specs.declared.Bench.{Bench}
use Rattle.levels.specs.Learned.{column_of, column_fill, ColumnReady}
use Rattle.plans.proofs.Parts.{part}
use Rattle.plans.proofs.Plans.{rows-most}
use Rattle.plans.proofs.Sizes.{totals-most, weights-length}
use Rattle.plans.proofs.Tables.{weights-lt}
use Rattle.plans.proofs.Summing.{row-sums-length}
use Rattle.steps.proofs.Fit.{take-lt, all-zeros}
use Rattle.fills.proofs.Marked.{symbols-at}
use Rattle.tables.proofs.Numbers.{Weighing, check-within, check-length, check-part, weights-are}

-- ---- a target of zeros, a total to each

abbrev pub lent_zeros : List ℕ
lent_zeros = replicate total_room 0

zeros-few : (l : List (List ℕ)) (n : ℕ) → length l ≤ n → take (length l) (replicate n 0) ≡ zeros l
unfolding zeros
zeros-few [] n h = refl
zeros-few (a ∷ l) zero h = absurd (omega arith)
zeros-few (a ∷ l) (suc n) h = ap (λ xs. 0 ∷ xs) (zeros-few l n (omega arith))

module _ (b : Bench) {q : Gf} {rows n totals : ℕ} {weights : List ℕ} (w : Weighing b.plan b.level q rows n weights totals) where
  pub few-totals : totals ≤ total_room
  few-totals = rw w.count (totals-most b.plan (suc b.level))

  weights-long : length weights ≡ totals * rows
  weights-long = ap length w.weighs ∙ weights-length b.plan (suc b.level) ∙ sym (ap₂ ◌*◌ w.count w.is.high)

  pub target-length : length (take totals lent_zeros) ≡ totals
  target-length = length-take-le totals lent_zeros few-totals

  -- ---- what is filled is the definition's

  module _ {checks : List ℕ} (table : checks ≡ check_table (plan_of b.plan)) {column : List ℕ} {lossy j : ℕ} (asked : ColumnReady b lossy j column) where
    -- check j stands in the table, as long as a row
    pub check-place : j * n + n ≤ length checks
    check-place = check-within w.is table (suc b.level) asked.check

    wide : length (part (j * n) n checks) ≡ (plan_of b.plan).columns
    wide = check-length w.is table (suc b.level) asked.check ∙ w.is.wide

    -- what has room for the plan's symbols has it for the rows that are summed
    pub across-fits : {room : ℕ} → (plan_of b.plan).rows * (plan_of b.plan).columns ≤ room → length column * length (part (j * n) n checks) ≤ room
    across-fits fits = rw (asked.places, wide) fits

    module _ {made : List ℕ} (e : made ≡ row_sums (field_of q) (length column) b.symbols (part (j * n) n checks)) where
      made-is : made ≡ column_of b j
      unfolding column_of across row_at row_sums
      made-is =
          let check = part (j * n) n checks in
          e ∙ ap₂ (λ F k. map (λ r. dot F check (take (length check) (drop (r * length check) b.symbols))) (up_from 0 k)) w.is.field asked.places
          ∙ ap₂ (λ c k. map (λ r. dot (plan_of b.plan).field c (take k (drop (r * k) b.symbols))) (up_from 0 (plan_of b.plan).rows))
          (check-part w.is table (suc b.level) asked.check) wide

      long : length made ≡ rows
      long = ap length e ∙ row-sums-length (field_of q) (length column) b.symbols (part (j * n) n checks) ∙ asked.places ∙ sym w.is.high

      -- the weights as they are lent are the level's
      lent-are : rows_of (length (take totals lent_zeros)) (length made) weights ≡ (level_of (plan_of b.plan) (suc b.level)).weights
      lent-are =
          ap₂ (λ m k. rows_of m k weights) target-length long
          ∙ ap₂ (λ m l. rows_of m rows l) w.count w.weighs ∙ weights-are w.is (suc b.level)

      filled_is : fill_of q weights (take totals lent_zeros) made lossy ≡ column_fill b (bits_of (plan_of b.plan).rows lossy) j
      unfolding fill_of column_fill
      filled_is =
          let P = plan_of b.plan in
          let W = (level_of P (suc b.level)).weights in
          ap₂ (λ cs k. fill (field_of q) cs (take totals lent_zeros) (bits_of k lossy) made) lent-are long
          ∙ ap₂ (λ z k. fill (field_of q) W z (bits_of k lossy) made)
          (ap (λ m. take m lent_zeros) w.count ∙ zeros-few W total_room (totals-most b.plan (suc b.level))) w.is.high
          ∙ ap₂ (λ F v. fill F W (zeros W) (bits_of P.rows lossy) v) w.is.field made-is

      -- what `fill` asks
      pub column_fits : Fillable q weights (take totals lent_zeros) made lossy
      column_fits =
          record {
            few = rw target-length (omega (arith, few-totals));
            narrow = rw (long, w.is.high) (omega (arith, rows-most b.plan));
            shape = weights-long ∙ sym (ap₂ ◌*◌ target-length long);
            within = rw (long, w.is.high) asked.rows;
            coefficients = λ i. rw (w.weighs, w.is.field) (weights-lt b.plan (suc b.level) i);
            sums = take-lt (size (field_of q)) totals lent_zeros (size-pos (field_of q))
                (symbols-at (field_of q) lent_zeros (all-zeros (λ x. ltb x (size (field_of q))) (lt→ltb 0 (size (field_of q)) (size-pos (field_of q))) total_room));
          }

      -- what it answers and leaves
      pub column-filled : {a : FillAnswer} {after : List ℕ} → let f = fill_of q weights (take totals lent_zeros) made lossy in
          (a ≡ answer_of f) × (after ≡ vector_of f made) → let g = column_fill b (bits_of (plan_of b.plan).rows lossy) j in
          (a ≡ answer_of g) × (after ≡ vector_of g (column_of b j))
      column-filled told = (told.0 ∙ ap answer_of filled_is, told.1 ∙ ap₂ vector_of filled_is made-is)

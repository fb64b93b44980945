-- A plan's numbers as the code has them, and what its rows, checks and weights are by them. Assumes nothing.
use mathlib.Core.Path.{◌≡◌, ap, ap₂, ◌∙◌}
use mathlib.Core.List.{List}
use Prim.Native.Nat.{ℕ, suc, ◌+◌, ◌*◌, ◌≤◌, ◌<◌}
use native.Mathlib.Nat.{le_refl, le_trans}
use native.Mathlib.Numerals.{add-one}
use lib.ListN.{length, take, drop}
use Rattle.field.specs.Field.{size}
use Rattle.field.specs.Ours.{field_of}
use Rattle.field.specs.declared.Gf.{Gf}
use Rattle.fills.specs.Marks.{rows_of}
use Rattle.plans.specs.Plan.{Plan, plan_of, level_of, checks_to}
use Rattle.plans.specs.Tables.{check_table, weight_table}
use Rattle.tables.specs.Tables.{FactsOf}
use Rattle.tables.specs.declared.Facts.{Facts}
use Rattle.plans.proofs.Rows.{row-end}
use Rattle.plans.proofs.Sizes.{checks-room, weights-length}
use Rattle.plans.proofs.Flat.{row_in}
use Rattle.plans.proofs.Tables.{weights-in}
use Rattle.plans.proofs.Parts.{part, part_of, part_length, rows-of}

-- the size of the code's field is that of the plan's
pub size-is : {P : Plan} {f : Facts} {q : ℕ} → FactsOf P f → q ≡ size (field_of f.field) → q ≡ size P.field
size-is is e = e ∙ ap size is.field.names

pub record Numbers (p : ℕ) (q : Gf) (rows n : ℕ) : Type 0 where
  pub field : field_of q ≡ (plan_of p).field
  pub high : rows ≡ (plan_of p).rows
  pub wide : n ≡ (plan_of p).columns

pub numbers : (p : ℕ) {f : Facts} → FactsOf (plan_of p) f → Numbers p f.field f.rows f.columns
numbers p is = record { field = is.field.names; high = is.rows; wide = is.columns }

module _ {p : ℕ} {q : Gf} {rows n : ℕ} (is : Numbers p q rows n) where
  -- row r of a stripe stands in it
  pub row_within : {stripe : ℕ} → (plan_of p).rows * (plan_of p).columns ≤ stripe → {r : ℕ} → r < rows → r * n + n ≤ stripe
  row_within long more = le_trans (row-end n more) (rw (is.high, is.wide) long)

  -- ---- check j

  module _ {checks : List ℕ} (lent : checks ≡ check_table (plan_of p)) (t : ℕ) {j : ℕ} (more : j < length (checks_to (plan_of p) t)) where
    pub check-within : j * n + n ≤ length checks
    check-within = rw lent (le_trans (row-end n more) (rw is.wide (checks-room p t)))

    pub check-length : length (part (j * n) n checks) ≡ n
    check-length = part_length (j * n) n checks check-within

    pub check-part : part (j * n) n checks ≡ row_in (plan_of p).columns (check_table (plan_of p)) j
    check-part = part_of (j * n) n checks ∙ ap₂ (λ k l. take k (drop (j * k) l)) is.wide lent

  -- ---- weights

  pub weights-are : (t : ℕ) → rows_of (length (level_of (plan_of p) t).weights) rows (weight_table (plan_of p) t) ≡ (level_of (plan_of p) t).weights
  weights-are t = ap (λ k. rows_of (length (level_of (plan_of p) t).weights) k (weight_table (plan_of p) t)) is.high ∙ rows-of _ _ _ ∙ weights-in p t

  pub weights-suffice : (t : ℕ) → length (level_of (plan_of p) t).weights * rows ≤ length (weight_table (plan_of p) t)
  weights-suffice t = rw (weights-length p t, is.high) (le_refl _)

-- the weights of level t + 1, and how many totals they give
pub record Weighing (p t : ℕ) (q : Gf) (rows n : ℕ) (weights : List ℕ) (totals : ℕ) : Type 0 where
  pub is : Numbers p q rows n
  pub weighs : weights ≡ weight_table (plan_of p) (suc t)
  pub count : totals ≡ length (level_of (plan_of p) (suc t)).weights

pub weighing : (p t : ℕ) {f : Facts} {weights : List ℕ} {totals : ℕ} → FactsOf (plan_of p) f → weights ≡ weight_table (plan_of p) (t + 1)
    → totals ≡ length (level_of (plan_of p) (t + 1)).weights → Weighing p t f.field f.rows f.columns weights totals
weighing p t is weighs count = record {
  is = numbers p is;
  weighs = weighs ∙ ap (weight_table (plan_of p)) (add-one t);
  count = count ∙ ap (λ u. length (level_of (plan_of p) u).weights) (add-one t);
}

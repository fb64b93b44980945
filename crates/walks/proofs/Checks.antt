-- A row's sum under one check, as it stands in the table of checks, and where both stand. Assumes nothing.
use mathlib.Core.Path.{◌≡◌, sym, ap, ◌∙◌}
use mathlib.Core.List.{List, []}
use Prim.Native.Nat.{ℕ, ◌+◌, ◌*◌, ◌<◌, ◌≤◌}
use lib.ListN.{length, take, drop, get_or, get_or-map}
use Rattle.field.specs.Field.{dot}
use Rattle.field.specs.Ours.{field_of}
use Rattle.field.proofs.Lists.{get_or-map-below}
use Rattle.fills.specs.Fill.{sums_of}
use Rattle.plans.specs.Plan.{plan_of, checks_to, row_at}
use Rattle.plans.specs.Tables.{check_table}
use Rattle.tables.specs.Tables.{FactsOf}
use Rattle.tables.specs.declared.Facts.{Facts}
use Rattle.plans.proofs.Flat.{row_in}
use Rattle.plans.proofs.Tables.{checks-in}
use Rattle.tables.proofs.Numbers.{numbers, row_within, check-within}
use Rattle.plans.proofs.Parts.{part, part_of}

module _ (p t j : ℕ) (h : j < length (checks_to (plan_of p) t)) where
  pub check-at : get_or (checks_to (plan_of p) t) j [] ≡ take (plan_of p).columns (drop (j * (plan_of p).columns) (check_table (plan_of p)))
  check-at =
      ap (λ l. get_or l j []) (sym (checks-in p t))
      ∙ get_or-map-below (row_in (plan_of p).columns (check_table (plan_of p))) (length (checks_to (plan_of p) t)) j [] h

  pub sum-under : (v : List ℕ)
      → dot (plan_of p).field (take (plan_of p).columns (drop (j * (plan_of p).columns) (check_table (plan_of p)))) v
      ≡ get_or (sums_of (plan_of p).field (checks_to (plan_of p) t) v) j 0
  unfolding sums_of dot
  sum-under v =
      ap (λ c. dot (plan_of p).field c v) (sym check-at) ∙ sym (get_or-map (λ c. dot (plan_of p).field c v) (checks_to (plan_of p) t) j [])

-- ---- by the code's numbers

module _ (p t : ℕ) {f : Facts} (is : FactsOf (plan_of p) f) {checks : List ℕ} (table : checks ≡ check_table (plan_of p)) where
  -- the check stands in the table
  pub check-place : {j : ℕ} → j < length (checks_to (plan_of p) t) → j * f.columns + f.columns ≤ length checks
  check-place = check-within (numbers p is) table t

  module _ (symbols : List ℕ) where
    -- and the row among the symbols
    pub row-place : {r : ℕ} → (plan_of p).rows * (plan_of p).columns ≤ length symbols → r < (plan_of p).rows → r * f.columns + f.columns ≤ length symbols
    row-place room inside = row_within (numbers p is) room (rw is.rows inside)

    -- the sum of the two parts, as the code takes them
    pub sum-of-parts : (r : ℕ) {j : ℕ} → j < length (checks_to (plan_of p) t)
        → dot (field_of f.field) (part (j * f.columns) f.columns checks) (part (r * f.columns) f.columns symbols)
        ≡ get_or (sums_of (plan_of p).field (checks_to (plan_of p) t) (row_at (plan_of p) symbols r)) j 0
    unfolding row_at
    sum-of-parts r {j} below =
        rw (part_of (j * f.columns) f.columns checks, part_of (r * f.columns) f.columns symbols, is.field.names, is.columns, table)
        (sum-under p t j below (row_at (plan_of p) symbols r))

-- The sums of the rows under a check: how many, and each. Assumes nothing.
use mathlib.Core.Path.{◌≡◌, ◌∙◌}
use mathlib.Core.List.{List}
use Prim.Native.Nat.{ℕ, ◌*◌, ◌<◌}
use lib.ListN.{length, get_or, take, drop, length-map}
use Rattle.field.specs.Field.{Field, dot}
use Rattle.field.specs.Lists.{up_from}
use Rattle.field.proofs.Lists.{length_up, get_or-map-below}
use Rattle.plans.specs.Tables.{row_sums}

module _ (F : Field) (rows : ℕ) (symbols check : List ℕ) where
  pub row-sums-length : length (row_sums F rows symbols check) ≡ rows
  unfolding row_sums
  row-sums-length = length-map (up_from 0 rows) _ ∙ length_up 0 rows

  pub row-sums-at : (r : ℕ) → r < rows
      → get_or (row_sums F rows symbols check) r 0 ≡ dot F check (take (length check) (drop (r * length check) symbols))
  unfolding row_sums
  row-sums-at r h = get_or-map-below _ rows r 0 h

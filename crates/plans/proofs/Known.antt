-- What is known of a plan: one record, which the plan's own file shows by computed tests and by the laws of its kinds of checks.
use Prim.Native.Nat.{◌*◌, ◌<◌, ◌≤◌}
use mathlib.Core.Logic.{◌≢◌}
use lib.Dec.{ltb, leb}
use lib.ListN.{length, get_or}
use Rattle.field.proofs.Laws.{IsField}
use Rattle.field.proofs.Words.{Each}
use Rattle.plans.specs.Rooms.{sum_room, row_room, column_room, symbol_room, total_room}
use Rattle.plans.specs.Plan.{Plan, Level}
-- and what a plan's file says it with
pub use Prim.Native.Nat.{ℕ, suc}
pub use mathlib.Core.Path.{refl, subst}
pub use mathlib.Core.List.{List, [], ◌∷◌, ◌++◌, map}
unfoldable pub use mathlib.Core.List.{flat_map}
pub use native.Mathlib.Omega.{arith}
pub use lib.Dec.{T, lit<}
unfoldable pub use Rattle.field.specs.Lists.{up_from}
unfoldable pub use Rattle.field.specs.Field.{◌⊕◌, size, double, times, mul, gf2, gf8, gf16, gf32, gf64, gf256}
unfoldable pub use Rattle.field.specs.Power.{power}
pub use Rattle.field.proofs.Fields.{gf2-field, gf8-field, gf16-field, gf32-field, gf64-field, gf256-field}
pub use Rattle.field.proofs.Words.{◌&◌}
unfoldable pub use Rattle.fills.specs.Lists.{all}
unfoldable pub use Rattle.plans.specs.Plan.{all_ones, bit_checks, level_of, checks_to}
unfoldable pub use Rattle.plans.specs.Tables.{tied_by_count}
pub use Rattle.plans.proofs.Columns.{Columns, no_rows, plain-total, are_locations, first-powers, power-sums, binary-sums}

-- it fits a bench, and the code's tables
pub record Shape (P : Plan) : Type 0 where
  pub rows-le : P.rows ≤ row_room
  pub columns-le : P.columns ≤ column_room
  pub symbols-le : P.rows * P.columns ≤ symbol_room
  pub levels-pos : 0 < length P.levels
  pub levels-le : length P.levels ≤ 3
  pub second : 1 < length P.levels
  pub second-few : length (level_of P 2).weights < P.rows
  pub sums-le : length (checks_to P (length P.levels)) ≤ sum_room
  pub some-checks : T (all (λ (L : Level). ltb 0 (length L.checks)) P.levels)
  pub few-totals : T (all (λ (L : Level). leb (length L.weights) total_room) P.levels)

-- with the distance of a row's code, level by level: any fewer columns are independent
pub record Known (P : Plan) (distances : List ℕ) : Type 0 where
  pub shape : Shape P
  pub field : IsField P.field
  pub checks : Each (λ i. Columns P.field P.columns (get_or distances i 0) (checks_to P (suc i))) (up_from 0 (length P.levels))
  -- the distance is above the number of sums where the field is not GF(2), and at level 1 where the number of marks tells
  pub wide : size P.field ≢ 2 → Each (λ i. length (checks_to P (suc i)) < get_or distances i 0) (up_from 0 (length P.levels))
  pub tells : T (tied_by_count P) → length (checks_to P 1) < get_or distances 0 0
  -- of the weights any columns are independent that are no more than the totals
  pub weights : Each (λ (L : Level). Columns P.field P.rows (suc (length L.weights)) L.weights) P.levels

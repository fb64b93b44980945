-- A bench has room for every plan. Assumes nothing.
use mathlib.Core.Path.{◌≡◌}
use mathlib.Core.List.{List}
use Prim.Native.Nat.{ℕ}
use native.Mathlib.Omega.{arith}
use lib.ListN.{length}
use Rattle.plans.specs.Plan.{plan_of}
use Rattle.plans.specs.Rooms.{row_room, symbol_room, learned_room}
use Rattle.plans.specs.Tables.{HoldsBench}
use Rattle.plans.proofs.Plans.{rows-most, symbols-most}

pub bench-holds : (p : ℕ) {symbols marks sums : List ℕ} → length symbols ≡ symbol_room → length marks ≡ row_room → length sums ≡ learned_room
    → HoldsBench (plan_of p) symbols marks sums
bench-holds p es em el = record {
  stripe = record { rows = omega (arith, em, rows-most p); size = omega (arith, es, symbols-most p) };
  learned = omega (arith, el, rows-most p);
}

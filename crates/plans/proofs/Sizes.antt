-- How long the tables of checks and weights are, and how many totals a level has, for every plan number. Assumes nothing.
use mathlib.Core.Path.{◌≡◌, ap, ◌∙◌}
use mathlib.Core.Bool.{Bool}
use Prim.Native.Nat.{ℕ, pred, ◌*◌, ◌≤◌}
use native.Mathlib.Nat.{mul-le-mul, le_refl}
use native.Mathlib.Omega.{arith}
use lib.Dec.{T, leb, leb→le}
use lib.ListN.{length, length-append}
use Rattle.fills.specs.Lists.{all}
use Rattle.plans.specs.Rooms.{total_room}
use Rattle.plans.specs.Plan.{Level, no_plan, plan_of, no_level, level_of, checks_to}
use Rattle.plans.specs.Tables.{check_table, weight_table}
use Rattle.plans.proofs.Flat.{all_get_d, rows-length}
use Rattle.plans.proofs.Plans.{by-known}
use Rattle.plans.proofs.Tables.{checks-before, checks-fit, weights-at}

-- ---- checks

checks-all : (p : ℕ) → length (check_table (plan_of p)) ≡ length (checks_to (plan_of p) (length (plan_of p).levels)) * (plan_of p).columns
unfolding check_table
checks-all p = rows-length _ _ _ (checks-fit p)

pub checks-room : (p t : ℕ) → length (checks_to (plan_of p) t) * (plan_of p).columns ≤ length (check_table (plan_of p))
checks-room p t =
    let all = ap length (checks-before (plan_of p) t) ∙ length-append (checks_to (plan_of p) t) _ in
    rw (checks-all p) (mul-le-mul (omega (arith, all)) (le_refl (plan_of p).columns))

-- ---- weights

module _ (p t : ℕ) where
  pub totals-most : length (level_of (plan_of p) t).weights ≤ total_room
  unfolding all no_plan no_level level_of
  totals-most =
      let few : Level → Bool = λ L. leb (length L.weights) total_room in
      leb→le _ total_room (all_get_d few no_level tt (plan_of p).levels (by-known (λ P. T (all few P.levels)) tt (λ P ds k. k.shape.few-totals) p) (pred t))

  pub weights-length : length (weight_table (plan_of p) t) ≡ length (level_of (plan_of p) t).weights * (plan_of p).rows
  unfolding weight_table
  weights-length = rows-length _ _ _ (weights-at p t).fit

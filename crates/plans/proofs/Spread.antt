-- Where the weights, or the row checks of a plan of power sums, leave columns dependent, every target is met; so does one parity. Assumes nothing.
use mathlib.Core.Path.{◌≡◌, refl}
use mathlib.Core.Logic.{◌≢◌}
use mathlib.Core.Bool.{Bool}
use mathlib.Core.List.{List, flat_map}
use Prim.Native.Nat.{ℕ, suc, ◌<◌, zero-le}
use native.Mathlib.Nat.{le_refl}
use native.Mathlib.Omega.{arith}
use lib.Dec.{T}
use lib.ListN.{length, get_or}
use Rattle.field.specs.Field.{size, gf2}
use Rattle.field.proofs.Laws.{IsField}
use Rattle.field.proofs.Fields.{gf2-field}
use Rattle.fills.specs.Lists.{zeros}
use Rattle.fills.specs.Fill.{dependent, tied, fill}
use Rattle.fills.proofs.Choices.{are_symbols}
use Rattle.fills.proofs.Marked.{length-zeros}
use Rattle.fills.proofs.Weights.{marked}
use Rattle.fills.proofs.Spread.{zeros-symbols, Spread, spread-wide, spread-tied}
use Rattle.plans.specs.Plan.{no_plan, plan_of, level_of, checks_to}
use Rattle.plans.specs.Tables.{tied_by_count}
use Rattle.plans.proofs.Flat.{each-up}
use Rattle.plans.proofs.Columns.{spread, no_rows}
use Rattle.plans.proofs.Plans.{by-known, checks-at, by_level}
use Rattle.plans.proofs.Tables.{weights-at}

-- the field's laws, for a number that is no plan's too
pub fields : (p : ℕ) → IsField (plan_of p).field
unfolding no_plan
fields = by-known (λ P. IsField P.field) gf2-field (λ P ds k. k.field)

pub weights-spread : (p t : ℕ) → Spread (plan_of p).field (level_of (plan_of p) t).weights (plan_of p).rows
weights-spread p t = spread (weights-at p t) (le_refl _)

-- the row checks of a plan whose field is not GF(2) are power sums
sums-spread : (p : ℕ) → size (plan_of p).field ≢ 2 → (t : ℕ) → Spread (plan_of p).field (checks_to (plan_of p) t) (plan_of p).columns
unfolding size gf2 no_plan
sums-spread = by-known (λ P. size P.field ≢ 2 → (t : ℕ) → Spread P.field (checks_to P t) P.columns) (λ ne. absurd (ne refl))
    (λ P ds k ne. by_level P (λ cs. Spread P.field cs P.columns) (spread (no_rows _ _) (le_refl _))
    (λ i h. spread (checks-at k i h) (each-up (λ i. length (checks_to P (suc i)) < get_or ds i 0) 0 (length P.levels) (k.wide ne) i zero-le (omega arith))))

-- at level 1 one parity is spread too: there the number of marks tells
pub first-spread : (p : ℕ) → T (tied_by_count (plan_of p)) → Spread (plan_of p).field (checks_to (plan_of p) 1) (plan_of p).columns
unfolding flat_map size gf2 no_plan checks_to tied_by_count
first-spread = by-known (λ P. T (tied_by_count P) → Spread P.field (checks_to P 1) P.columns) (λ t. absurd t)
    (λ P ds k t. spread (checks-at k 0 k.shape.levels-pos) (k.tells t))

-- ---- what follows of fillings

-- where the weight columns of the marked rows are dependent, sums that make all totals zero exist
pub weights-tied : (p t : ℕ) (ms : List Bool) (v : List ℕ) → length ms ≡ (plan_of p).rows
    → T (dependent (plan_of p).field (level_of (plan_of p) t).weights ms)
    → fill (plan_of p).field (level_of (plan_of p) t).weights (zeros (level_of (plan_of p) t).weights) ms v ≡ tied
weights-tied p t ms v wide =
    let W = (level_of (plan_of p) t).weights in
    spread-tied (plan_of p).field (fields p) W (plan_of p).rows (weights-spread p t) ms wide (zeros W) v (length-zeros W)
    (zeros-symbols (plan_of p).field (fields p) W)

-- and in a row with more marks than power sums every target is met
pub sums-tied : (p t : ℕ) → size (plan_of p).field ≢ 2 → (ms : List Bool) (target v : List ℕ) → length ms ≡ (plan_of p).columns
    → length target ≡ length (checks_to (plan_of p) t) → T (are_symbols (plan_of p).field target) → length (checks_to (plan_of p) t) < marked ms
    → fill (plan_of p).field (checks_to (plan_of p) t) target ms v ≡ tied
sums-tied p t ne ms target v wide =
    spread-wide (plan_of p).field (fields p) (checks_to (plan_of p) t) (plan_of p).columns (sums-spread p ne t) ms wide target v

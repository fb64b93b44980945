-- The plans' parameters: symbols carried, the distance of a row code and of the whole code. Assumes nothing.
use mathlib.Core.Path.{refl, ◌∙◌, subst}
use mathlib.Core.Logic.{inl, inr}
use Prim.Native.Nat.{ℕ, ◌+◌, ◌<◌}
use native.Mathlib.Nat.{not-suc-le-zero}
use native.Mathlib.Omega.{arith}
use lib.Dec.{T}
use Rattle.fills.specs.Lists.{vanish}
use Rattle.fills.proofs.Tests.{either}
use Rattle.fills.proofs.Filling.{no-dependency}
use Rattle.fills.proofs.Spread.{symbols-fit}
use Rattle.plans.specs.Plan.{known, plan_of, checks_to}
use Rattle.plans.specs.Refusal.{all_below}
use Rattle.plans.proofs.Plans.{known-or-past, shape}
use Rattle.steps.proofs.Levels.{checks-first}
use Rattle.demands.specs.Published.{Published, published, nothing, row_distance, distance}
use Rattle.demands.specs.Parameters.{CarriedMet, RowDistance, RowDistanceMet, DistanceMet}
use Rattle.demands.proofs.Marked.{support, support-length, support-marked, support-agrees}
use Rattle.demands.proofs.Few.{backed, few-independent}

-- ---- they are met

pub carried-met : CarriedMet
carried-met p kn = (backed p kn).tested.carries

pub row-distance-met : RowDistanceMet
row-distance-met p kn = (backed p kn).light-row

pub distance-met : DistanceMet
distance-met p kn = (backed p kn).light-word

-- ---- no word is lighter

-- unknown numbers have no distances
pub known-by-distance : (p : ℕ) → 0 < row_distance p + distance p → T (known p)
unfolding row_distance distance
known-by-distance p h =
    elim (known-or-past nothing published refl p) [
      | inl k ↦ k
      | inr e ↦ absurd (not-suc-le-zero (subst (λ (B : Published). 0 < B.d0 + B.d) e h))
    ]

pub row-distance : RowDistance
unfolding all_below
row-distance p w h light =
    let F = (plan_of p).field in
    let kn : T (known p) = known-by-distance p (omega arith) in
    elim (either (vanish w)) [
      | inl t ↦ t
      | inr n ↦
          absurd
          (no-dependency F (checks_to (plan_of p) 1) (support w)
          (few-independent p 0 (support w) (support-length w ∙ h.long) (rw (support-marked w, ← (backed p kn).tested.counts-first) light))
          record {
            agrees = support-agrees F w (symbols-fit F w h.symbols);
            nonzero = n;
            vanishes = rw (checks-first (plan_of p) (shape p kn).levels-pos) h.holds;
          })
    ]

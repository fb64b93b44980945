-- The plans' parameters: the symbols carried, the distance of a row code and of the whole code.
use Rattle.std.specs.Prelude.{ℕ, ◌<◌, ◌≡◌, List, T, length}
use Rattle.field.specs.Lists.{weight}
use Rattle.field.specs.Field.{size}
use Rattle.fills.specs.Lists.{vanish}
use Rattle.fills.specs.Fill.{sums_of}
use Rattle.plans.specs.Plan.{known, plan_of, level_of, carried}
use Rattle.plans.specs.Refusal.{all_below}
use Rattle.demands.specs.Published.{symbols_carried, row_distance, distance}
use Rattle.demands.specs.Words.{Codeword}

-- a stripe carries k symbols
abbrev pub CarriedMet : Type 0
CarriedMet = (p : ℕ) → T (known p) → carried (plan_of p) ≡ symbols_carried p

-- a row of symbols whose level-1 sums are zero
pub record RowWord (p : ℕ) (w : List ℕ) : Type 0 where
  pub long : length w ≡ (plan_of p).columns
  pub symbols : T (all_below (size (plan_of p).field) w)
  pub holds : T (vanish (sums_of (plan_of p).field (level_of (plan_of p) 1).checks w))

-- the distance d0 of a row code: no row word but zero has fewer symbols that are not 0
abbrev pub RowDistance : Type 0
RowDistance = (p : ℕ) (w : List ℕ) → RowWord p w → weight w < row_distance p → T (vanish w)

-- and one has as many
abbrev pub RowDistanceMet : Type 0
RowDistanceMet = (p : ℕ) → T (known p) → (w : List ℕ) × RowWord p w × (weight w ≡ row_distance p)

-- the distance d of the whole code: no codeword but zero has fewer symbols that are not 0
abbrev pub Distance : Type 0
Distance = (p : ℕ) (X : List ℕ) → Codeword p X → weight X < distance p → T (vanish X)

-- and one has as many
abbrev pub DistanceMet : Type 0
DistanceMet = (p : ℕ) → T (known p) → (X : List ℕ) × Codeword p X × (weight X ≡ distance p)

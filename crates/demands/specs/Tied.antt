-- What Tied, Blocked and Clash say of fillings: a tied row has one, a row in Clash has none, and a blocked level hides no contradiction.
use Rattle.std.specs.Prelude.{ℕ, suc, ◌<◌, ◌≡◌, ◌≢◌, Bool, true, false, List, T, length, get_or, Ok}
use Rattle.field.specs.Field.{Field, size}
use Rattle.fills.specs.Lists.{zeros}
use Rattle.fills.specs.Fill.{sums_of, dependent}
use Rattle.plans.specs.Plan.{plan_of, level_of, checks_to, row_at, marks_at}
use Rattle.plans.specs.Refusal.{sums_at}
use Rattle.steps.specs.Steps.{row_step, lossy, level_step}
use Rattle.steps.specs.Rounds.{Standing, end}
use Rattle.repair.specs.Mending.{mended}
use Rattle.plans.specs.declared.Bench.{Bench}
use Rattle.plans.specs.declared.Step.TheVariants.{Tied, Clash}
use Rattle.demands.specs.Words.{Fit}

-- w has v's entries where unmarked, symbols where marked, and the target sums
pub record Fills (F : Field) (checks : List (List ℕ)) (target : List ℕ) (ms : List Bool) (v w : List ℕ) : Type 0 where
  pub long : length w ≡ length ms
  pub same : (i : ℕ) → get_or ms i true ≡ false → get_or w i 0 ≡ get_or v i 0
  pub symbols : (i : ℕ) → get_or ms i false ≡ true → get_or w i 0 < size F
  pub meets : sums_of F checks w ≡ target

-- ---- a row

-- w is a filling of row r, by the checks of levels 1 to t and its learned sums
abbrev pub FillsRow : Bench → ℕ → List ℕ → Type 0
FillsRow b r w =
    let P = plan_of b.plan in
    Fills P.field (checks_to P b.level) (sums_at P b.level b.sums r) (marks_at P b.marks r) (row_at P b.symbols r) w

abbrev pub TiedHasFilling : Type 0
TiedHasFilling = (b : Bench) (r : ℕ) → (row_step b r).answer ≡ Ok Tied → (w : List ℕ) × FillsRow b r w

abbrev pub ClashHasNone : Type 0
ClashHasNone = (b : Bench) (r : ℕ) → (row_step b r).answer ≡ Ok Clash → (w : List ℕ) → FillsRow b r w → ⊥

-- where the rounds of mending end, each row that still has marks has fillings, and not one alone
abbrev pub LeftRowsFill : Type 0
LeftRowsFill = (p : ℕ) (stripe marks : List ℕ) → Fit p stripe marks → (m : Standing) → mended p stripe marks ≡ end m
    → (r : ℕ) → r < (plan_of p).rows → get_or m.bench.marks r 0 ≢ 0
    → (w : List ℕ) × (z : List ℕ) × FillsRow m.bench r w × FillsRow m.bench r z × (w ≢ z)

-- ---- a level

-- the weight columns of the rows that `ms` marks are dependent at level t
abbrev pub WeightsTied : (p t : ℕ) → List Bool → Type 0
WeightsTied p t ms = T (dependent (plan_of p).field (level_of (plan_of p) t).weights ms)

-- then sums that make all totals zero exist, whatever the sums of the other rows
abbrev pub SumsExist : Type 0
SumsExist = (p t : ℕ) (ms : List Bool) (sums : List ℕ) → length ms ≡ (plan_of p).rows → WeightsTied p t ms
    → let W = (level_of (plan_of p) t).weights in (w : List ℕ) × Fills (plan_of p).field W (zeros W) ms sums w

-- so a level step is Clash only where they are independent
abbrev pub LevelClashIsFree : Type 0
LevelClashIsFree = (b : Bench) → (level_step b).answer ≡ Ok Clash → WeightsTied b.plan (suc b.level) (lossy (plan_of b.plan) b.marks) → ⊥

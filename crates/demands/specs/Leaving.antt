-- What mending in one call leaves in the lent stripe and marks, whatever they held.
use Rattle.std.specs.Prelude.{ℕ, ◌<◌, ◌≡◌, ◌⊎◌, List, length, get_or, Ok}
use Rattle.plans.specs.Answers.{answered}
use Rattle.plans.specs.Plan.{Plan, plan_of, row_at}
use Rattle.repair.specs.Mending.{mend_report, mend_stripe, mend_marks}
use Rattle.plans.specs.declared.Place.{Place}
use Rattle.plans.specs.declared.Answer.TheVariants.{Clash}
use Rattle.demands.specs.Words.{Agree}

-- row r has no mark left, or its marks and its bytes are as they were
abbrev pub RowLeft : Plan → (stripe marks stripe' marks' : List ℕ) → ℕ → Type 0
RowLeft P stripe marks stripe' marks' r =
    (get_or marks' r 0 ≡ 0) ⊎ ((get_or marks' r 0 ≡ get_or marks r 0) × (row_at P stripe' r ≡ row_at P stripe r))

-- the buffers keep their lengths, an unmarked symbol stays, and each row is filled whole or left
pub record IsLeft (p : ℕ) (stripe marks stripe' marks' : List ℕ) : Type 0 where
  pub long : length stripe' ≡ length stripe
  pub words : length marks' ≡ length marks
  pub unmarked : Agree p marks stripe' stripe
  pub rows : (r : ℕ) → r < (plan_of p).rows → RowLeft (plan_of p) stripe marks stripe' marks' r

abbrev pub MendingLeaves : Type 0
MendingLeaves = (p : ℕ) (stripe marks : List ℕ) → IsLeft p stripe marks (mend_stripe p stripe marks) (mend_marks p stripe marks)

-- a Clash changes nothing
abbrev pub ClashLeaves : Type 0
ClashLeaves = (p : ℕ) (stripe marks : List ℕ) (place : Place) → answered (mend_report p stripe marks) ≡ Ok (Clash place)
    → (mend_stripe p stripe marks ≡ stripe) × (mend_marks p stripe marks ≡ marks)

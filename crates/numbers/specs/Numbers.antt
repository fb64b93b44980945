-- By what a buffer of a wrong size is refused.
use Rattle.std.specs.Prelude.{ℕ}
use Rattle.field.specs.Lists.{when◌then◌else◌}
use Rattle.plans.specs.Plan.{known}

-- what a buffer of a wrong size is refused by: an unknown plan is named first
unfoldable pub unfit : ℕ → ℕ
unfit p = when known p then 11 else 10

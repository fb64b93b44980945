-- What `fill` takes has room in what the code holds for it. Assumes nothing.
use Prim.Native.Nat.{ℕ, ◌+◌, ◌*◌, ◌≤◌}
use native.Mathlib.Nat.{mul-le-mul}
use native.Mathlib.Omega.{arith}
use Rattle.gathering.specs.Most.{most_checks, most_columns}
use Rattle.linear.specs.Steps.{system_room}

-- the system of k columns by m checks
pub system-fits : (m k : ℕ) → m ≤ most_checks → k ≤ most_columns → m * (k + 1) ≤ system_room
system-fits m k hm hk = let h : k + 1 ≤ most_columns + 1 = omega arith in mul-le-mul hm h

-- What reading promises, and how much of the input decides what is printed, as statements: the theorem of each stands in proofs/.
use Rattle.std.specs.Prelude.{ℕ, suc, ◌≤◌, ◌≡◌, List, length, take}
use Rattle.plans.specs.Plan.{plan_of, file_length}
use Rattle.texts.specs.Text.{printed}

-- the first n of xs are there, and are n
abbrev pub IsPrefixLen : ℕ → List ℕ → Type 0
IsPrefixLen n xs = (n ≤ length xs) × (n ≡ length (take n xs))

-- how many bytes the longest file has
abbrev pub longest : ℕ
longest = 584

-- no plan's file has more
abbrev pub NoneLonger : Type 0
NoneLonger = (p : ℕ) → file_length (plan_of p) ≤ longest

-- one byte more than that tells what is printed for any bytes
abbrev pub EnoughIsRead : Type 0
EnoughIsRead = (file : List ℕ) → printed (take (suc longest) file) ≡ printed file

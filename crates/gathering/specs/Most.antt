-- The sizes of what the code fills. Assumes nothing.
use Rattle.std.specs.Prelude.{ℕ}

-- how many checks and columns the code takes
abbrev pub most_checks : ℕ
most_checks = 19

abbrev pub most_columns : ℕ
most_columns = 64

-- The rooms of a bench: the most that any plan needs.
use Rattle.std.specs.Prelude.{ℕ}

-- rows, columns and symbols of a stripe
abbrev pub row_room : ℕ
row_room = 12

abbrev pub column_room : ℕ
column_room = 64

abbrev pub symbol_room : ℕ
symbol_room = 512

-- learned sums: a row's stand at the first of its places
abbrev pub sum_room : ℕ
sum_room = 19

abbrev pub learned_room : ℕ
learned_room = 228

-- weighted totals of a level
abbrev pub total_room : ℕ
total_room = 3

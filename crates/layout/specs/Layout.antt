-- A report and a bench as bytes.
use Rattle.std.specs.Prelude.{ℕ, ◌+◌, ◌*◌, take, drop, get_or, replicate}
use mathlib.Core.List.{List, [], ◌∷◌, ◌++◌, flat_map}
use Rattle.plans.specs.Plan.{Plan}
use Rattle.plans.specs.Rooms.{row_room, symbol_room, learned_room}
use Rattle.plans.specs.Answers.{report_values}
use Rattle.plans.specs.Tables.{padded}
use Rattle.words.specs.Words.{bytes_of, words_at}
use Rattle.plans.specs.declared.Bench.{Bench}
use Rattle.plans.specs.declared.Report.{Report}
use Rattle.plans.specs.declared.Answer.{Answer}
use Rattle.plans.specs.declared.Answer.TheVariants.{Restored, Stuck, Clash}
use Rattle.plans.specs.declared.Place.{Place}
use Rattle.plans.specs.declared.Place.TheVariants.{Row, Across}

-- ---- a report

abbrev pub report_size : ℕ
report_size = 8

-- a Clash's place: 1, row and level; or 2, 0 and level
unfoldable pub place_bytes : Place → (values : List ℕ) → List ℕ
place_bytes (Row row level) values = 1 ∷ get_or values 1 0 ∷ get_or values 0 0 ∷ []
place_bytes (Across level) values = 2 ∷ 0 ∷ values

-- level, rows left, and rows restored at levels 1, 2 and 3 stand in front, the place of a Clash behind; what the answer does not have is 0
unfoldable pub answer_bytes : Answer → (values : List ℕ) → List ℕ
answer_bytes Restored values = padded report_size values
answer_bytes Stuck values = padded report_size values
answer_bytes (Clash place) values = replicate 5 0 ++ place_bytes place values

unfoldable pub report_bytes : Plan → Report → List ℕ
report_bytes P r = answer_bytes r.answer (report_values P r)

-- ---- a bench

-- how many bytes each of its mark words has; where its symbols, its mark words and its sums begin, and how many bytes it has
abbrev pub mark_size : ℕ
mark_size = 8

abbrev pub symbols_from : ℕ
symbols_from = 2

abbrev pub marks_from : ℕ
marks_from = symbols_from + symbol_room

abbrev pub sums_from : ℕ
sums_from = marks_from + mark_size * row_room

abbrev pub bench_size : ℕ
bench_size = sums_from + learned_room

-- plan, level, symbols, mark words, low byte first, and sums
unfoldable pub bench_bytes : Bench → List ℕ
bench_bytes b = b.plan ∷ b.level ∷ b.symbols ++ flat_map (bytes_of mark_size) b.marks ++ b.sums

unfoldable pub bench_in : List ℕ → Bench
bench_in bytes = record {
  plan = get_or bytes 0 0;
  level = get_or bytes 1 0;
  symbols = take symbol_room (drop symbols_from bytes);
  marks = words_at mark_size bytes marks_from row_room;
  sums = take learned_room (drop sums_from bytes);
}

-- A bench and its bytes say the same, every bench that the calls hold is one of the code, and only Filled and Raised change a bench buffer.
use Rattle.std.specs.Prelude.{ℕ, ◌^◌, ◌<◌, ◌≡◌, ◌≢◌, List, T, length, get_or}
use Rattle.plans.specs.Refusal.{all_below}
use Rattle.plans.specs.Rooms.{row_room, symbol_room, learned_room}
use Rattle.words.specs.Words.{byte_range, word_bits}
use Rattle.steps.specs.Steps.{started, row_step, level_step}
use Rattle.plans.specs.declared.Bench.{Bench}
use Rattle.layout.specs.Layout.{bench_size, bench_bytes, bench_in}
use Rattle.shelf.specs.Calls.{step_answer, step_buffer}

-- a bench of the code: its arrays have their sizes, and its mark words their bits
pub record OfCode (b : Bench) : Type 0 where
  pub symbols : length b.symbols ≡ symbol_room
  pub marks : length b.marks ≡ row_room
  pub words : (r : ℕ) → r < row_room → get_or b.marks r 0 < 2 ^ word_bits
  pub sums : length b.sums ≡ learned_room

-- any bytes of a bench buffer hold a bench of the code
abbrev pub ReadOfCode : Type 0
ReadOfCode = (bytes : List ℕ) → T (all_below byte_range bytes) → length bytes ≡ bench_size → OfCode (bench_in bytes)

-- every start gives one, fit or refused
abbrev pub StartOfCode : Type 0
StartOfCode = (p : ℕ) (stripe marks : List ℕ) → OfCode (started p stripe marks).bench

-- and every step leaves one
abbrev pub RowStepOfCode : Type 0
RowStepOfCode = (b : Bench) → OfCode b → (r : ℕ) → OfCode (row_step b r).bench

abbrev pub LevelStepOfCode : Type 0
LevelStepOfCode = (b : Bench) → OfCode b → OfCode (level_step b).bench

-- a bench of the code has as many bytes as its buffer
abbrev pub WrittenLong : Type 0
WrittenLong = (b : Bench) → OfCode b → length (bench_bytes b) ≡ bench_size

-- what was written is read again
abbrev pub WrittenIsRead : Type 0
WrittenIsRead = (b : Bench) → OfCode b → bench_in (bench_bytes b) ≡ b

-- what was read is written again
abbrev pub ReadIsWritten : Type 0
ReadIsWritten = (bytes : List ℕ) → T (all_below byte_range bytes) → length bytes ≡ bench_size → bench_bytes (bench_in bytes) ≡ bytes

-- a row step that is not Filled, and a level step that is not Raised, leave the buffer as it was, whatever its length
abbrev pub RowStepStays : Type 0
RowStepStays = (bytes : List ℕ) → T (all_below byte_range bytes) → (r : ℕ)
    → step_answer (λ b. row_step b r) bytes ≢ 4 → step_buffer (λ b. row_step b r) bytes ≡ bytes

abbrev pub LevelStepStays : Type 0
LevelStepStays = (bytes : List ℕ) → T (all_below byte_range bytes) → step_answer level_step bytes ≢ 6 → step_buffer level_step bytes ≡ bytes

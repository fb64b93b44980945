-- What the functions on a bench's bytes ask of their callers.
use Rattle.std.specs.Prelude.{ℕ, ◌<◌, ◌≡◌, List, length}
use Rattle.plans.specs.Rooms.{row_room}
use Rattle.plans.specs.declared.Bench.{Bench}
use Rattle.words.specs.Words.{byte_range}
use Rattle.layout.specs.Layout.{bench_size}

-- plan and level are bytes
pub record Small (b : Bench) : Type 0 where
  pub plan : b.plan < byte_range
  pub level : b.level < byte_range

-- such a bench, and a buffer of its size
pub record BenchPut (b : Bench) (out : List ℕ) : Type 0 where
  pub small : Small b
  pub fits : length out ≡ bench_size

-- a bench's bytes, and a row of which they hold the mark word
pub record MarkPut (bytes : List ℕ) (row : ℕ) : Type 0 where
  pub fits : length bytes ≡ bench_size
  pub inside : row < row_room

-- `lossy_word`: bit r is set where row r has marks. Assumes nothing.
use Prim.Native.Nat.{◌+◌}
use native.Mathlib.Omega.{arith}
use Rattle.field.proofs.Lists.{map-up-same}
use Rattle.fills.specs.Marks.{bits_of}
use Rattle.std.proofs.Common.{of_calls}
use Rattle.levels.proofs.sums.lossy_word.Goals as goal

pub returns-clause-result_value : goal.returns-clause-result_value
unfolding bits_of
returns-clause-result_value c = map-up-same _ _ 0 c.args.rows (λ r h. let told = c.word_of.ensures.each (0 + r) (omega arith) in search of_calls)

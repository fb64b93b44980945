-- Symbols, mark words and sums are read whole, each from its place. Assumes nothing.
use native.Mathlib.Omega.{arith}
use Rattle.words.proofs.Writing.{put_whole}
use Rattle.layout.proofs.Benches.{bench-is}
use Rattle.layout.proofs.bench_in.Goals as goal

pub returns-clause-value : goal.returns-clause-value
returns-clause-value c = bench-is _ (put_whole c.put.ensures (omega arith)) c.marks_in.ensures c.sums_in.ensures

-- The sums are read whole, from their place. Assumes nothing.
use native.Mathlib.Omega.{arith}
use Rattle.words.proofs.Writing.{put_whole}
use Rattle.layout.specs.Layout.{bench_in}
use Rattle.layout.proofs.sums_in.Goals as goal

pub returns : goal.returns
unfolding bench_in
returns c = put_whole c.put.ensures (omega arith)

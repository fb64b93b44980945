-- As many mark words are read as a bench has, from their place. Assumes nothing.
use Rattle.layout.specs.Layout.{bench_in}
use Rattle.std.proofs.Common.{rules}
use Rattle.layout.proofs.marks_in.Goals as goal

pub returns : goal.returns
unfolding bench_in
returns c = search rules

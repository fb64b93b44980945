-- An empty file has plan number 0. Assumes nothing.
use Rattle.files.specs.File.{plan_in}
use Rattle.std.proofs.Common.{rules}
use Rattle.reading.proofs.plan_in.Goals as goal

pub returns : goal.returns
unfolding plan_in
returns c = search rules

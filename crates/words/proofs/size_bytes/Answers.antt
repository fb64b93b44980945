-- Each byte is a rest by 256; the two are those of the definition. Assumes nothing.
use Rattle.words.specs.Words.{bytes_of}
use Rattle.std.proofs.Common.{arith}
use Rattle.std.proofs.lemmas.Grind.{common_steps}
use Rattle.words.proofs.size_bytes.Goals as goal

pub returns : goal.returns
unfolding bytes_of
returns c = grind (arith, common_steps)

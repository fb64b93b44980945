-- One word is written, at its place among the mark words. Assumes nothing.
use Rattle.layout.proofs.Benches.{word-put}
use Rattle.layout.proofs.put_mark.Goals as goal

pub returns : goal.returns
returns c = word-put _ _ c.put_words.ensures

-- After r turns the first r words are read. Assumes nothing.
use lib.ListN.{length}
use Rattle.words.specs.Words.{words_at}
use Rattle.words.proofs.Writing.{Writing}
use Rattle.words.proofs.read_words.Given as goal

abbrev pub invariant-loop-r : goal.invariant-loop-r
invariant-loop-r l = Writing l.initial.words 0 (words_at l.size l.bytes l.at (length l.initial.words)) l.r l.words

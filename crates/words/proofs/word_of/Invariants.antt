-- The word is the number of the bytes passed, and below 256 ^ how many they are, so that nothing is lost. Assumes nothing.
use Rattle.words.proofs.Bytes.{Reading}
use Rattle.words.proofs.word_of.Given as goal

abbrev pub invariant-loop-byte : goal.invariant-loop-byte
invariant-loop-byte l = Reading l.bytes l.byte-iterator.iter.rest.now l.word

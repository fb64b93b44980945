-- After i turns the bytes of the first i words are written, `size` for each. Assumes nothing.
use mathlib.Core.Path.{◌≡◌}
use Prim.Native.Nat.{◌+◌, ◌*◌}
use Rattle.words.specs.Words.{bytes_of}
use Rattle.words.proofs.Writing.{Joining}
use Rattle.words.proofs.put_words.Given as goal

abbrev pub invariant-loop-word : goal.invariant-loop-word
invariant-loop-word l = record {
  place : l.next ≡ l.at + l.size * l.word-index;
  begun : Joining (bytes_of l.size) l.initial.out l.at l.words l.word-index l.out l.next;
}

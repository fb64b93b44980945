-- After i turns the first i bytes are written, and what is left is the word without them. Assumes nothing.
use mathlib.Core.Path.{◌≡◌}
use Prim.Native.Nat.{◌/◌, ◌^◌}
use lib.ListN.{length}
use Rattle.words.specs.Words.{byte_range, bytes_of}
use Rattle.words.proofs.Writing.{Writing}
use Rattle.words.proofs.put_word.Given as goal

abbrev pub invariant-loop-byte : goal.invariant-loop-byte
invariant-loop-byte l = record {
  rest : l.left ≡ l.word / byte_range ^ l.byte-index;
  begun : Writing l.initial.bytes 0 (bytes_of (length l.initial.bytes) l.word) l.byte-index l.bytes;
}

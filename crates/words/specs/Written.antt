-- What the functions that write bytes answer, and what those that read words ask.
use Rattle.std.specs.Prelude.{ℕ, ◌+◌, ◌*◌, ◌≤◌, ◌≡◌, List, length}
use Rattle.std.proofs.lemmas.List.Edits.{sets}
use Rattle.words.specs.Words.{word_bits}

-- the bytes xs were written into the buffer `old` from `at` up to `next`, which made it `new`
pub record Put (old : List ℕ) (at : ℕ) (xs : List ℕ) (next : ℕ) (new : List ℕ) : Type 0 where
  pub reached : next ≡ at + length xs
  pub inside : next ≤ length old
  pub written : new ≡ sets old at xs

-- so many words of `size` bytes, no longer than the code's words, stand from `at` on
pub record WordsIn (bytes : List ℕ) (at size words : ℕ) : Type 0 where
  pub narrow : 8 * size ≤ word_bits
  pub inside : at + size * words ≤ length bytes

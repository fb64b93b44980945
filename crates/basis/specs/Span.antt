-- Combinations of words over GF(2), and what it is to answer for k columns which they give: with `column_of` of Words all that the contract
-- of `span` cites. Assumes nothing.
use Rattle.std.specs.Prelude.{ℕ, zero, suc, ◌*◌, ◌%◌, ◌^◌, ◌≤◌, ◌<◌, ◌≡◌, ◌≢◌, Option, Some, None, List, length}
use Rattle.field.specs.Field.{◌⊕◌, gf2}
use Rattle.equations.specs.System.{vec, Elements}
use Rattle.equations.specs.Words.{bit_at}

-- how many checks a column's word holds, and how many columns a mask names
abbrev pub column_bits : ℕ
column_bits = 32

abbrev pub mask_bits : ℕ
mask_bits = 64

-- the sum of those of the first n words that x names: word j where x j is odd
unfoldable pub combined : (ℕ → ℕ) → (ℕ → ℕ) → ℕ → ℕ
combined f x zero = 0
combined f x (suc n) = combined f x n ⊕ x n % 2 * f n

-- the answer for k columns, each a word whose m low bits count: a combination that gives `need`, and one that is not empty and gives 0;
-- none where there is no such combination. A combination is given as a word, too: bit j says whether column j takes part
pub record Spans (f : ℕ → ℕ) (k m need : ℕ) (solution dependency : Option ℕ) : Type 0 where
  pub solved : (s : ℕ) → solution ≡ Some s → (s < 2 ^ k) × (combined f (bit_at s) k % 2 ^ m ≡ need % 2 ^ m)
  pub unsolved : solution ≡ None → (y : ℕ → ℕ) → combined f y k % 2 ^ m ≢ need % 2 ^ m
  pub tied : (d : ℕ) → dependency ≡ Some d → (d < 2 ^ k) × (d ≢ 0) × (combined f (bit_at d) k % 2 ^ m ≡ 0)
  pub free : dependency ≡ None → (y : ℕ → ℕ) → combined f y k % 2 ^ m ≡ 0 → (j : ℕ) → j < k → y j % 2 ≡ 0

-- what `span` takes: m checks over n columns, of bits, and some of the columns
pub record Spannable (checks : List ℕ) (m n : ℕ) (places : List ℕ) : Type 0 where
  pub rows : m * n ≤ length checks
  pub few : m ≤ column_bits
  pub narrow : length places ≤ mask_bits
  pub below : (t : ℕ) → t < length places → vec places t < n
  pub bits : Elements gf2 (vec checks)

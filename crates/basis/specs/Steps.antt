-- What the steps of `span` ask of the echelon and say of it. Assumes nothing.
use Rattle.std.specs.Prelude.{ℕ, ◌+◌, ◌*◌, ◌^◌, ◌≤◌, ◌<◌, ◌≡◌, ◌≢◌, if◌then◌else◌, ◌==◌, Option, Some, None, List, length, set}
use Rattle.std.specs.Int.Count.{count_trailing_zeros}
use Rattle.field.specs.Field.{◌⊕◌, gf2}
use Rattle.equations.specs.System.{vec, Elements}
use Rattle.equations.specs.Words.{bit_at}
use Rattle.basis.specs.Span.{column_bits, mask_bits, combined}
use Rattle.basis.specs.declared.Echelon.{Echelon}
use Rattle.basis.specs.declared.Rest.{Rest}

-- the echelon's words stand at their pivots, which are listed in the order of their making: a word is 1 at its own pivot and 0 at those
-- before it
pub record Ordered (e : Echelon) : Type 0 where
  pub fits : (i : ℕ) → i < e.count → vec e.order i < column_bits
  pub unit : (i : ℕ) → i < e.count → bit_at (vec e.words (vec e.order i)) (vec e.order i) ≡ 1
  pub apart : (i : ℕ) → i < e.count → (j : ℕ) → j < i → bit_at (vec e.words (vec e.order i)) (vec e.order j) ≡ 0

-- from `word` and `mask` to `left` and `made`, by adding words and with each its mask: where each mask names columns of f that give its word,
-- what was added to the mask names columns that give what was added to the word
pub record Moved (e : Echelon) (word mask left made : ℕ) : Type 0 where
  pub sums : (f : ℕ → ℕ) (t : ℕ) → ((p : ℕ) → combined f (bit_at (vec e.masks p)) t ≡ vec e.words p)
      → combined f (bit_at (mask ⊕ made)) t ≡ word ⊕ left
  pub near : (t : ℕ) → ((p : ℕ) → vec e.masks p < 2 ^ t) → mask ⊕ made < 2 ^ t

-- until what is left is 0 at the pivots
pub record Reduced (e : Echelon) (word mask : ℕ) (rest : Rest) : Type 0 where
  pub moved : Moved e word mask rest.word rest.mask
  pub stuck : (i : ℕ) → i < e.count → bit_at rest.word (vec e.order i) ≡ 0
  pub small : rest.word < 2 ^ column_bits

-- what `keep` takes: a word that is not 0, and room for it
pub record Keepable (e : Echelon) (rest : Rest) : Type 0 where
  pub some : rest.word ≢ 0
  pub room : e.count < mask_bits

-- the echelon with one word more, at its lowest bit
abbrev pub kept : Echelon → Rest → Echelon
kept e rest = let p = count_trailing_zeros column_bits rest.word in record {
  words = set e.words p rest.word;
  masks = set e.masks p rest.mask;
  order = set e.order e.count p;
  count = e.count + 1;
}

-- what the echelon answers: the columns give `word` where nothing is left of it, and the dependency is the one that was found
pub record Concluded (e : Echelon) (word : ℕ) (found solution dependency : Option ℕ) : Type 0 where
  pub end : Rest
  pub reduced : Reduced e word 0 end
  pub met : solution ≡ (if end.word == 0 then Some end.mask else None)
  pub same : dependency ≡ found

-- what `reduce` takes: the words of an echelon, and masks that fit
pub record Reducible (e : Echelon) : Type 0 where
  pub room : e.count ≤ mask_bits
  pub ordered : Ordered e
  pub words-fit : (p : ℕ) → vec e.words p < 2 ^ column_bits
  pub masks-fit : (p : ℕ) → vec e.masks p < 2 ^ mask_bits

-- what `gather_column` takes: m checks over n columns, of bits, and one of the columns
pub record Column (checks : List ℕ) (m n p : ℕ) : Type 0 where
  pub rows : m * n ≤ length checks
  pub few : m ≤ column_bits
  pub below : p < n
  pub bits : Elements gf2 (vec checks)

-- The word of the rows that have marks, made from the last row to the first. Assumes nothing.
use mathlib.Core.Path.{◌≡◌, refl, ap, ◌∙◌, subst}
use mathlib.Core.Bool.{Bool, true, false, not}
use mathlib.Core.List.{List, map}
use Prim.Native.Nat.{ℕ, ◌+◌, ◌-◌, ◌*◌, ◌^◌, ◌≤◌, ◌<◌}
use native.Mathlib.Nat.{add-zero, le_trans}
use native.Mathlib.Omega.{arith}
use borrow.Author.Tests.{eq-eqb, ne_eqb}
use lib.Dec.{eqb, lit<}
use lib.Pow.{pow_mono}
use lib.ListN.{get_or}
use Rattle.field.specs.Lists.{when◌then◌else◌, up_from}
use Rattle.field.proofs.Lists.{map-up-same}
use Rattle.equations.proofs.Wording.{Wording, wording-start, wording-turn, wording-end, packed-bit, packed_lt}
use Rattle.fills.specs.Marks.{bits_of}
use Rattle.plans.specs.Rooms.{row_room}

-- which of the n rows from r on have marks
abbrev pub lossy_from : List ℕ → ℕ → ℕ → List Bool
lossy_from marks r n = map (λ i. not (eqb (get_or marks i 0) 0)) (up_from r n)

-- 1 where the row has marks
pub bit_of : List ℕ → ℕ → ℕ
bit_of marks i = when eqb (get_or marks i 0) 0 then 0 else 1

is-bit : (marks : List ℕ) (i : ℕ) → (bit_of marks i < 2) × (eqb (bit_of marks i) 1 ≡ not (eqb (get_or marks i 0) 0))
unfolding bit_of when◌then◌else◌
is-bit marks i = go (eqb (get_or marks i 0) 0)
  where
    go : (b : Bool) → ((when b then 0 else 1) < 2) × (eqb (when b then 0 else 1) 1 ≡ not b)
    go true = (lit< tt, refl)
    go false = (lit< tt, refl)

-- the word has the rows from r on, row r in its lowest bit
pub record Lossy (rows : ℕ) (marks : List ℕ) (r word : ℕ) : Type 0 where
  pub within : r ≤ rows
  pub gathered : Wording (bit_of marks) rows r word

module _ (rows : ℕ) (marks : List ℕ) where
  small : (i : ℕ) → bit_of marks i < 2
  small i = (is-bit marks i).0

  pub lossy-starts : Lossy rows marks rows 0
  lossy-starts = record { within = omega arith; gathered = wording-start _ _ }

  pub lossy-marked : {r word : ℕ} → 0 < r → (get_or marks (r - 1) 0 ≡ 0 → ⊥) → Lossy rows marks r word → Lossy rows marks (r - 1) (word * 2 + 1)
  unfolding bit_of when◌then◌else◌
  lossy-marked pos ne s = record { within = omega (arith, s.within); gathered = wording-turn _ _ _ _ 1 s.gathered pos (rw (ne_eqb _ 0 ne)) }

  pub lossy-unmarked : {r word : ℕ} → 0 < r → get_or marks (r - 1) 0 ≡ 0 → Lossy rows marks r word → Lossy rows marks (r - 1) (word * 2)
  unfolding bit_of when◌then◌else◌
  lossy-unmarked {r} {word} pos e s = record {
    within = omega (arith, s.within);
    gathered = subst (Wording (bit_of marks) rows (r - 1)) (add-zero (word * 2)) (wording-turn _ _ _ _ 0 s.gathered pos (rw (eq-eqb _ 0 e)));
  }

  pub lossy-ends : {r word : ℕ} → r ≤ 0 → Lossy rows marks r word → (bits_of rows word ≡ lossy_from marks 0 rows) × (word < 2 ^ rows)
  unfolding bits_of
  lossy-ends end s = rw (wording-end _ _ _ _ s.gathered (omega arith)) (
    map-up-same _ _ 0 rows (λ i l. let e : 0 + i < rows = omega arith in
        ap (λ b. eqb b 1) (packed-bit (bit_of marks) small rows (0 + i) e) ∙ (is-bit marks (0 + i)).1),
    packed_lt (bit_of marks) small 0 rows,
  )

  -- a bit for each row
  pub lossy-small : {r word : ℕ} → rows ≤ row_room → Lossy rows marks r word → word < 2 ^ row_room
  lossy-small {r} few s =
      rw s.gathered.made (le_trans (packed_lt (bit_of marks) small r (rows - r)) (pow_mono {i = rows - r} {j = row_room} (omega arith)))

-- The checks of levels 1 to t, and a row's sums: what a further level adds to them. Assumes nothing.
use mathlib.Core.Path.{◌≡◌, sym, ap, ap₂, ◌∙◌}
use mathlib.Core.List.{List, ◌++◌, map, flat_map, append-nil}
use Prim.Native.Nat.{ℕ, suc, ◌+◌, ◌*◌, ◌-◌, ◌<◌, ◌≤◌}
use native.Mathlib.Nat.{add-sub_of_le}
use native.Mathlib.Omega.{arith}
use lib.ListN.{length, take, drop, get_or, length-append, length-map, length-drop, drop_of_length-le}
use lib.Seq.{take-add, take-take, sets-eq, length-take-le}
use Rattle.field.specs.Lists.{up_from}
use Rattle.plans.specs.Plan.{Plan, Level, level_of, checks_to}
use Rattle.plans.specs.Refusal.{sums_at}
use Rattle.plans.specs.Rooms.{sum_room}
use Rattle.steps.specs.Steps.{new_sums, keep_sums}
use Rattle.words.proofs.Stores.{flat_append}
use Rattle.plans.proofs.Rows.{row-end}
use Rattle.plans.proofs.Tables.{checks-more, sums-more}
use Rattle.steps.proofs.Sums.{keep-part}

module _ (P : Plan) where
  pub checks-suc : (t : ℕ) → t < length P.levels → checks_to P (suc t) ≡ checks_to P t ++ (level_of P (suc t)).checks
  checks-suc t h = checks-more P t

  pub checks-first : 0 < length P.levels → checks_to P 1 ≡ (level_of P 1).checks
  unfolding checks_to flat_map
  checks-first h = checks-suc 0 h

  -- the checks of a lower level stand before those of a higher one
  pub checks-grow : (t u : ℕ) → t ≤ u → (ds : List (List ℕ)) × (checks_to P u ≡ checks_to P t ++ ds)
  unfolding checks_to
  checks-grow t u h = (
    flat_map (λ (L : Level). L.checks) (take (u - t) (drop t P.levels)),
    ap (λ n. flat_map (λ (L : Level). L.checks) (take n P.levels)) (sym (add-sub_of_le h))
        ∙ ap (flat_map (λ (L : Level). L.checks)) (take-add t (u - t) P.levels)
        ∙ flat_append (λ (L : Level). L.checks) (take t P.levels) (take (u - t) (drop t P.levels)),
  )

  pub checks-le : {t u : ℕ} → t ≤ u → length (checks_to P t) ≤ length (checks_to P u)
  checks-le {t} {u} h = let g = checks-grow t u h in omega (arith, ap length g.1 ∙ length-append (checks_to P t) g.0)

  -- a row's sums stand in its own places
  pub sums-length : (t : ℕ) (sums : List ℕ) (r : ℕ) → length (checks_to P t) ≤ sum_room → r * sum_room + sum_room ≤ length sums
      → length (sums_at P t sums r) ≡ length (checks_to P t)
  unfolding sums_at
  sums-length t sums r h g = length-take-le (length (checks_to P t)) (drop (r * sum_room) sums) (simp length-drop (omega arith))

  -- what row r's sums of levels 1 to t + 1 are once they are learned: the old ones, then the new
  pub sums-learned : (t : ℕ) (cs : List (List ℕ)) (sums : List ℕ) (r : ℕ)
      → t < length P.levels → length cs ≡ length (level_of P (suc t)).checks → length (checks_to P (suc t)) ≤ sum_room
      → P.rows * sum_room ≤ length sums → r < P.rows
      → sums_at P (suc t) (keep_sums (length (checks_to P t)) (map (new_sums cs) (up_from 0 P.rows)) sums) r ≡ sums_at P t sums r ++ new_sums cs r
  unfolding sums_at
  sums-learned t cs sums r low count narrow long inside =
      let at = length (checks_to P t) in
      let m = length (checks_to P (suc t)) in
      let part = take m (drop (r * sum_room) sums) in
      let e : m ≡ at + length cs = sums-more P t ∙ ap (λ n. at + n) (sym count) in
      let f : length (new_sums cs r) ≡ length cs = length-map cs (λ c. get_or c r 0) in
      let g : r * sum_room + sum_room ≤ P.rows * sum_room = row-end sum_room inside in
      let full : length part ≡ m = length-take-le m (drop (r * sum_room) sums) (simp length-drop (omega arith)) in
      keep-part at cs P.rows sums m r narrow inside
      ∙ sets-eq (new_sums cs r) part at (omega arith)
      ∙ ap₂ (λ a b. a ++ new_sums cs r ++ b) (take-take at m (drop (r * sum_room) sums) (omega arith))
      (drop_of_length-le part {i = at + length (new_sums cs r)} (omega arith))
      ∙ append-nil (take at (drop (r * sum_room) sums) ++ new_sums cs r)

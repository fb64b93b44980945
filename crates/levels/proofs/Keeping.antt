-- Learned sums, written check by check. Assumes nothing.
use mathlib.Core.Path.{◌≡◌, refl, sym, ap, ap₂, ◌∙◌}
use mathlib.Core.List.{List, [], ◌∷◌, ◌++◌, map, map-append, append_assoc}
use Prim.Native.Nat.{ℕ, suc, ◌+◌, ◌*◌, ◌-◌, ◌≤◌, ◌<◌}
use native.Mathlib.Nat.{suc-mul}
use native.Mathlib.Numerals.{add-one}
use native.Mathlib.Omega.{arith}
use lib.ListN.{length, get_or, set, take, drop, length-map, length-set, length-take, length-drop, take-append-drop}
use lib.Seq.{sets, take-add, drop-drop, take-append-le, drop-append-le}
use Rattle.field.specs.Lists.{up_from}
use Rattle.plans.specs.Rooms.{sum_room}
use Rattle.steps.specs.Steps.{new_sums, keep_sums}
use Rattle.words.proofs.Stores.{written, take-sets, drop-sets-before, sets-append, sets-out}
use Rattle.steps.proofs.Sums.{keep-here, keep-behind}
use Rattle.levels.specs.Learned.{KeepReady}

-- ---- one check's sums, row after row

-- row r's new sums, stored at their place in the whole list
module _ (at r : ℕ) (new l : List ℕ) (narrow : at + length new ≤ sum_room) where
  abbrev start : ℕ
  start = r * sum_room

  abbrev next : List ℕ
  next = sets l (start + at) new

  before : take (suc r * sum_room) next ≡ take start l ++ sets (take sum_room (drop start l)) at new
  before =
      ap (λ i. take i next) (suc-mul r sum_room) ∙ take-add start sum_room next
      ∙ ap₂ ◌++◌ (take-sets start new l (start + at) ∙ sets-out new (take start l) (start + at) (simp length-take (omega arith)))
      (written sum_room start at new l)

  after : drop (suc r * sum_room) next ≡ drop sum_room (drop start l)
  after =
      drop-sets-before (suc r * sum_room) new l (start + at) (omega (arith, suc-mul r sum_room))
      ∙ ap (λ i. drop i l) (suc-mul r sum_room) ∙ sym (drop-drop sum_room start l)

  store-row : (news : List (List ℕ))
      → take (suc r * sum_room) next ++ keep_sums at news (drop (suc r * sum_room) next) ≡ take start l ++ keep_sums at (new ∷ news) (drop start l)
  unfolding keep_sums
  store-row news =
      ap₂ (λ a b. a ++ keep_sums at news b) before after
      ∙ append_assoc (take start l) (sets (take sum_room (drop start l)) at new) (keep_sums at news (drop sum_room (drop start l)))

-- the rows before r are written, and the rest of them are to come
pub record Keeping (at : ℕ) (c old : List ℕ) (r : ℕ) (l : List ℕ) : Type 0 where
  pub long : length l ≡ length old
  pub rest : take (r * sum_room) l ++ keep_sums at (map (new_sums (c ∷ [])) (up_from r (length c - r))) (drop (r * sum_room) l)
      ≡ keep_sums at (map (new_sums (c ∷ [])) (up_from 0 (length c))) old

module _ {at : ℕ} {c old : List ℕ} (asked : KeepReady at c old) where
  abbrev keep : List ℕ → (r n : ℕ) → List ℕ
  keep l r n = take (r * sum_room) l ++ keep_sums at (map (new_sums (c ∷ [])) (up_from r n)) (drop (r * sum_room) l)

  module _ {r : ℕ} {l : List ℕ} (s : Keeping at c old r l) where
    pub keeping-turns : r < length c → Keeping at c old (r + 1) (set l (r * sum_room + at) (get_or c r 0))
    unfolding up_from
    keeping-turns more =
        let e : length c - r ≡ suc (length c - suc r) = omega arith in
        record {
          long = length-set l (r * sum_room + at) (get_or c r 0) ∙ s.long;
          rest = rw (add-one r) (store-row at r (new_sums (c ∷ []) r) l (omega (arith, asked.place)) (map (new_sums (c ∷ [])) (up_from (suc r) (length c - suc r)))
              ∙ ap (keep l r) (sym e) ∙ s.rest);
        }

    pub keeping-ends : length c ≤ r → l ≡ keep_sums at (map (new_sums (c ∷ [])) (up_from 0 (length c))) old
    unfolding up_from keep_sums
    keeping-ends all =
        let e : length c - r ≡ 0 = omega arith in sym (take-append-drop (r * sum_room) l) ∙ ap (keep l r) (sym e) ∙ s.rest

-- ---- one check's sums behind those of others

pub keep-none : (at : ℕ) (rs l : List ℕ) → keep_sums at (map (new_sums []) rs) l ≡ l
unfolding keep_sums
keep-none at [] l = refl
keep-none at (r ∷ rs) l = ap (λ k. take sum_room l ++ k) (keep-none at rs (drop sum_room l)) ∙ take-append-drop sum_room l

-- the sums under one more check
module _ (at : ℕ) (cs : List (List ℕ)) (c : List ℕ) where
  abbrev both : List (List ℕ)
  both = cs ++ (c ∷ [])

  new-last : (r : ℕ) (l : List ℕ) → sets (sets l at (new_sums cs r)) (at + length cs) (new_sums (c ∷ []) r) ≡ sets l at (new_sums both r)
  new-last r l =
      ap (λ n. sets (sets l at (new_sums cs r)) (at + n) (new_sums (c ∷ []) r)) (sym (length-map cs (λ c. get_or c r 0)))
      ∙ sym (sets-append (new_sums cs r) (new_sums (c ∷ []) r) l at) ∙ ap (sets l at) (sym (map-append (λ c. get_or c r 0) cs (c ∷ [])))

  pub keep-last : (rs l : List ℕ)
      → keep_sums (at + length cs) (map (new_sums (c ∷ [])) rs) (keep_sums at (map (new_sums cs) rs) l) ≡ keep_sums at (map (new_sums both) rs) l
  unfolding keep_sums
  keep-last [] l = refl
  keep-last (r ∷ rs) l =
      let old = map (new_sums cs) rs in
      let more = map (new_sums (c ∷ [])) rs in
      ap₂ (λ a b. sets a (at + length cs) (new_sums (c ∷ []) r) ++ keep_sums (at + length cs) more b)
      (keep-here at (new_sums cs r) old l) (keep-behind at (new_sums cs r) old l)
      ∙ ap₂ ◌++◌ (new-last r (take sum_room l)) (keep-last rs (drop sum_room l))

-- ---- the places of a plan's rows alone

-- what stands behind the rows' places stays as it was
pub keep-front : (n : ℕ) (news : List (List ℕ)) (front back : List ℕ) → length news * sum_room ≤ length front
    → keep_sums n news (front ++ back) ≡ keep_sums n news front ++ back
unfolding keep_sums
keep-front n [] front back h = refl
keep-front n (new ∷ news) front back h =
    let fits : length news * sum_room + sum_room ≤ length front = omega (arith, h, suc-mul (length news) sum_room) in
    ap₂ (λ a b. sets a n new ++ keep_sums n news b) (take-append-le sum_room front back (omega (arith, fits))) (drop-append-le sum_room front back (omega (arith, fits)))
    ∙ ap (λ l. sets (take sum_room front) n new ++ l) (keep-front n news (drop sum_room front) back (simp length-drop (omega (arith, fits))))
    ∙ sym (append_assoc (sets (take sum_room front) n new) (keep_sums n news (drop sum_room front)) back)

-- Every row with more marks than sums at level 1, where this shows that it is tied: the code's test of it; and that each row step is Tied, the level
-- step Blocked. Assumes nothing.
use mathlib.Core.Path.{◌≡◌, refl, sym, ap, ap₂, ◌∙◌}
use mathlib.Core.Logic.{◌≢◌, ◌⊎◌, ⊎_elim}
use mathlib.Core.Bool.{Bool, true, false, not, ◌&&◌}
use mathlib.Core.List.{List, [], ◌∷◌, map}
use Prim.Native.Nat.{ℕ, zero, suc, ◌+◌, ◌<◌, ◌≤◌}
use native.Mathlib.Omega.{arith}
use borrow.Author.Tests.{ltb-true, ne_eqb}
use lib.Count.{ones_in, ones}
use lib.Dec.{T, eqb, ltb}
use lib.ListN.{length, get_or, take, length-map}
use lib.Seq.{length-take-le, ext_get_or, get_or-take}
use Rattle.std.specs.List.{list_all}
use Rattle.field.specs.Lists.{when◌then◌else◌, up_from}
use Rattle.field.specs.Field.{size, gf2}
use Rattle.field.specs.Ours.{field_of}
use Rattle.field.specs.declared.Gf.TheVariants.{Two}
use Rattle.field.proofs.Lists.{map-up-same, length_up, get_or-map-below}
use Rattle.fills.specs.Lists.{all, only}
use Rattle.fills.specs.Marks.{bits_of}
use Rattle.fills.specs.Fill.{tied}
use Rattle.fills.proofs.Marked.{length-bits}
use Rattle.fills.proofs.Weights.{marked, marked-bits}
use Rattle.fills.proofs.Spread.{spread-wide}
use Rattle.plans.specs.Plan.{Plan, plan_of, checks_to, row_at, marks_at}
use Rattle.plans.specs.Refusal.{sums_at, all_below}
use Rattle.plans.specs.Rooms.{sum_room}
use Rattle.plans.specs.Tables.{tied_by_count}
use Rattle.tables.specs.Tables.{FactsOf}
use Rattle.tables.specs.declared.Facts.{Facts}
use Rattle.plans.specs.declared.Bench.{Bench}
use Rattle.plans.proofs.Scan.{true-and, up-each}
use Rattle.plans.proofs.Rows.{row-end}
use Rattle.plans.proofs.Plans.{shape}
use Rattle.plans.proofs.Spread.{fields, first-spread}
use Rattle.steps.specs.Steps.{row_fill, lossy, blocked, level_fill}
use Rattle.steps.specs.Rounds.{end, turns}
use Rattle.steps.specs.Parts.{bench_of, standing_of}
use Rattle.rows.proofs.Lending.{two-sized}
use Rattle.walks.specs.Walk.{over_marked}
use Rattle.steps.proofs.Levels.{checks-le, sums-length}
use Rattle.steps.proofs.Sound.{Sound}
use Rattle.steps.proofs.Ends.{lossy-blocked}
use Rattle.steps.proofs.Turns.{turn-tied, turn-blocked}

-- ---- the code's test, m being the number of sums

-- the first n words are those of the rows
pub front-at : (n : ℕ) (l : List ℕ) → n ≤ length l → take n l ≡ map (λ r. get_or l r 0) (up_from 0 n)
front-at n l h =
    let long = length-take-le n l h in
    ext_get_or 0 (take n l) (map (λ r. get_or l r 0) (up_from 0 n)) (long ∙ sym (length-map (up_from 0 n) _ ∙ length_up 0 n))
    (λ i below. let inside : i < n = omega (arith, long) in
    get_or-take n l i 0 inside ∙ sym (get_or-map-below (λ r. get_or l r 0) n i 0 inside))

all-map : (test : ℕ → Bool) (g : ℕ → ℕ) (rs : List ℕ) → list_all test (map g rs) ≡ all (λ r. test (g r)) rs
unfolding all
all-map test g [] = refl
all-map test g (r ∷ rs) = ap (λ b. test (g r) && b) (all-map test g rs)

module _ {P : Plan} {f : Facts} {m : ℕ} (is : FactsOf P f) (count : m ≡ length (checks_to P 1)) (marks : List ℕ) where
  -- over bits a count tells where there is one sum
  sized-two : f.field ≡ Two → eqb (size P.field) 2 ≡ true
  unfolding field_of size gf2
  sized-two e = rw (← is.field.names, e)

  sized-other : f.field ≢ Two → eqb (size P.field) 2 ≡ false
  sized-other ne = ne_eqb (size P.field) 2 (λ two. ne (two-sized f.field (ap size is.field.names ∙ two)))

  pub over-bits : f.field ≡ Two → m ≢ 1 → false ≡ over_marked P marks
  unfolding tied_by_count over_marked
  over-bits e many = rw (sized-two e, ← count, ne_eqb m 1 many)

  tells : ((f.field ≡ Two) × (m ≡ 1)) ⊎ (f.field ≢ Two) → tied_by_count P ≡ true
  unfolding tied_by_count
  tells = ⊎_elim (λ w. rw (sized-two w.0, ← count, w.1)) (λ ne. rw (sized-other ne))

  pub over-all : ((f.field ≡ Two) × (m ≡ 1)) ⊎ (f.field ≢ Two) → f.rows ≤ length marks
      → list_all (λ w. ltb m (ones w)) (take f.rows marks) ≡ over_marked P marks
  unfolding over_marked
  over-all t enough =
      rw (tells t, front-at f.rows marks enough, all-map (λ w. ltb m (ones w)) (λ r. get_or marks r 0) (up_from 0 f.rows), is.rows, count)

-- what it says
pub over-each : (P : Plan) (marks : List ℕ) → over_marked P marks ≡ true
    → T (tied_by_count P) × ((r : ℕ) → r < P.rows → length (checks_to P 1) < ones (get_or marks r 0))
unfolding over_marked
over-each P marks e =
    let both = true-and (tied_by_count P) _ e in (rw both.0 tt, λ r h. ltb-true _ _ (up-each _ P.rows both.1 r h))

-- ---- the steps

none-marked : ones 0 ≡ 0
unfolding ones_in ones
none-marked = refl

all-marked : (k n : ℕ) → marked (map (λ r. true) (up_from k n)) ≡ n
unfolding up_from when◌then◌else◌ only
all-marked k zero = refl
all-marked k (suc n) = ap suc (all-marked (suc k) n)

module _ (p : ℕ) (symbols marks sums : List ℕ) (s : Sound (bench_of p 1 symbols marks sums)) (counts : T (tied_by_count (plan_of p)))
    (over : (r : ℕ) → r < (plan_of p).rows → length (checks_to (plan_of p) 1) < ones (get_or marks r 0)) where
  abbrev P : Plan
  P = plan_of p

  abbrev b : Bench
  b = bench_of p 1 symbols marks sums

  row-tied : (r : ℕ) → r < P.rows → row_fill b r ≡ tied
  unfolding row_fill marks_at all_below
  row-tied r inside =
      let w = get_or marks r 0 in
      let sh = shape p s.fit.plan-known in
      spread-wide P.field (fields p) (checks_to P 1) P.columns (first-spread p counts) (bits_of P.columns w) (length-bits P.columns w)
      (sums_at P 1 sums r) (row_at P symbols r)
      (sums-length P 1 sums r (omega (arith, checks-le P sh.levels-pos, sh.sums-le)) (omega (arith, row-end sum_room inside, s.room.learned)))
      (s.fit.sums-fits r inside) (rw (marked-bits P.columns w (s.fit.mark-lt r inside)) (over r inside))

  rows-tied : (k r n : ℕ) (restored : List ℕ) → r + k ≡ P.rows
      → turns (k + n) (standing_of b r restored) ≡ turns n (standing_of b P.rows restored)
  rows-tied zero r n restored e = ap₂ (λ i j. turns i (standing_of b j restored)) (omega arith) (omega arith)
  rows-tied (suc k) r n restored e =
      ap (λ i. turns i (standing_of b r restored)) (omega arith)
      ∙ turn-tied b s.fit r (omega arith) (row-tied r (omega arith)) (k + n) restored ∙ rows-tied k (suc r) n restored (omega arith)

  -- every row has marks
  all-lossy : marked (lossy P marks) ≡ P.rows
  unfolding lossy
  all-lossy =
      ap marked
      (map-up-same (λ r. not (eqb (get_or marks r 0) 0)) (λ r. true) 0 P.rows
      (λ r h. ap not (ne_eqb (get_or marks (0 + r) 0) 0 (λ z. omega (arith, over (0 + r) (omega arith), ap ones z, none-marked)))))
      ∙ all-marked 0 P.rows

  level-blocked : level_fill b ≡ blocked
  level-blocked = lossy-blocked b (rw all-lossy (shape p s.fit.plan-known).second-few)

  -- the round ends where it began
  pub over-ends : (n : ℕ) (restored : List ℕ) → turns (P.rows + suc n) (standing_of b 0 restored) ≡ end (standing_of b P.rows restored)
  over-ends n restored =
      rows-tied P.rows 0 (suc n) restored (omega arith)
      ∙ turn-blocked b s.fit (shape p s.fit.plan-known).second level-blocked n restored

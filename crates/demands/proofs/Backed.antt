-- What backs the demands on a plan: one record, which the plan's own file shows by computed tests.
use Prim.Native.Nat.{pred, ◌*◌, ◌^◌, ◌<◌}
use mathlib.Core.Path.{◌≡◌}
use mathlib.Core.Bool.{Bool, ◌&&◌}
use lib.Dec.{eqb, ltb, leb, ltb→lt, leb→le}
use lib.ListN.{length, get_or}
use Rattle.field.proofs.Test.{both_left, both_right, below}
use Rattle.field.proofs.Words.{Each}
use Rattle.fills.proofs.Weights.{marked}
use Rattle.plans.specs.Plan.{Plan}
use Rattle.plans.proofs.Rows.{marks-length}
use Rattle.plans.proofs.Plans.{Known, distances_of, checks-at}
use Rattle.demands.specs.Words.{Codeword}
use Rattle.demands.specs.Parameters.{RowWord}
use Rattle.demands.proofs.Square.{Square, columns_at, by-inverse}
-- and what a plan's file says it with
pub use lib.ListN.{replicate}
unfoldable pub use Rattle.plans.proofs.Known.{flat_map, up_from, ◌⊕◌, size, double, times, mul, gf2, gf16, gf32, gf64, gf256, power, all, all_ones, bit_checks, checks_to}
pub use Rattle.plans.proofs.Known.{ℕ, suc, arith, refl, List, [], ◌∷◌, ◌++◌, map, T, lit<, ◌&◌}
unfoldable pub use Rattle.field.specs.Lists.{when◌then◌else◌, weight}
unfoldable pub use Rattle.field.specs.Field.{dot}
unfoldable pub use Rattle.fills.specs.Lists.{only, vanish, first, rest}
unfoldable pub use Rattle.fills.specs.Marks.{bits_of}
unfoldable pub use Rattle.fills.specs.Fill.{sums_of}
unfoldable pub use Rattle.fills.proofs.Picked.{picked}
unfoldable pub use Rattle.plans.specs.Plan.{word_of, plan_of, no_level, level_of, row_at, marks_at, marks_of, across, check_places_of, carried}
unfoldable pub use Rattle.plans.specs.Refusal.{all_below}
unfoldable pub use Rattle.codewords.specs.Codeword.{rows_hold, totals_hold, is_codeword}
unfoldable pub use Rattle.repair.proofs.Samples.{row_of}
unfoldable pub use Rattle.demands.specs.Published.{symbols_carried, row_distance, distance, counts}
unfoldable pub use Rattle.demands.proofs.Square.{combine, product, identity}

-- entry i of the published counts stands for level i + 1
abbrev pub count : ℕ → ℕ → ℕ × ℕ
count p i = get_or (counts p) i (0, 0)

-- one row more than a count allows has at least d marks
abbrev pub heavy : ℕ → ℕ × ℕ → Bool
heavy d c = leb d (suc c.1 * c.0)

-- row r's check places are square under the checks of levels 1 to t
abbrev pub RowSquare : Plan → (t r : ℕ) → Type 0
RowSquare P t r = Square P.field (checks_to P t) (marks_at P P.check_places r)

-- the test of a matrix that undoes their columns
abbrev pub Undoes : Plan → (t r : ℕ) → List (List ℕ) → Type 0
Undoes P t r inverse =
    let ms = marks_at P P.check_places r in
    (product P.field inverse (columns_at ms (checks_to P t)) ≡ identity (marked ms)) × T (leb (length (checks_to P t)) (marked ms))

module _ {P : Plan} {ds : List ℕ} (k : Known P ds) where
  pub row-by-inverse : (t r : ℕ) (inverse : List (List ℕ)) → Undoes P t r inverse → RowSquare P t r
  row-by-inverse t r inverse h = by-inverse P.field k.field (checks_to P t) (marks_at P P.check_places r) inverse h.0 (leb→le _ _ h.1)

  -- or they are as many as the checks, and fewer than the row code's distance
  pub row-by-number : (i r : ℕ) → i < length P.levels
      → T (let n = marked (marks_at P P.check_places r) in leb (length (checks_to P (suc i))) n && ltb n (get_or ds i 0)) → RowSquare P (suc i) r
  row-by-number i r h t =
      let ms = marks_at P P.check_places r in
      let enough = leb (length (checks_to P (suc i))) (marked ms) in
      let few = ltb (marked ms) (get_or ds i 0) in
      record {
        independent = (checks-at k i h).free ms (marks-length P P.check_places r) (ltb→lt _ _ (both_right enough few t));
        enough = leb→le _ _ (both_left enough few t);
      }

-- the rows that are still marked when level t is done, `order` having the level at which each is mended
abbrev pub waiting : Plan → (order : List ℕ) → ℕ → List Bool
waiting P order t = map (λ r. ltb t (get_or order r 0)) (up_from 0 P.rows)

-- what computed tests show, `order` being that of encoding
pub record Tested (p : ℕ) (order : List ℕ) : Type 0 where
  pub carries : carried (plan_of p) ≡ symbols_carried p
  -- the counts: one for each level, d0 the first mark number, no row of the last level; and any d - 1 marks meet them
  pub counts-long : length (counts p) ≡ length (plan_of p).levels
  pub counts-first : row_distance p ≡ (count p 0).0
  pub counts-last : (count p (pred (length (plan_of p).levels))).1 ≡ 0
  pub counts-heavy : T (all (heavy (distance p)) (counts p))
  -- fewer marks than they name are independent, and the rows that they allow no more than the totals of the next level
  pub counts-low : T (below (length (counts p)) (λ i.
      leb (count p i).0 (get_or (distances_of p) i 0) && leb (count p i).1 (length (level_of (plan_of p) (suc (suc i))).weights)))
  -- no check place beyond the columns, and each row mended at a level; the rows still marked at a level step as many as its totals
  pub places-low : T (below (plan_of p).rows (λ r. ltb (get_or (plan_of p).check_places r 0) (2 ^ (plan_of p).columns)))
  pub order-low : T (below (plan_of p).rows (λ r. ltb 0 (get_or order r 0) && leb (get_or order r 0) (length (plan_of p).levels)))
  pub order-square : T (below (pred (length (plan_of p).levels)) (λ i.
      eqb (marked (waiting (plan_of p) order (suc i))) (length (level_of (plan_of p) (suc (suc i))).weights)))

pub record Backed (p : ℕ) : Type 0 where
  -- the level at which each row is mended in encoding, where its check places are square
  pub order : List ℕ
  pub tested : Tested p order
  pub rows-square : Each (λ r. RowSquare (plan_of p) (get_or order r 0) r) (up_from 0 (plan_of p).rows)
  -- words that weigh d0 and d
  pub light-row : (w : List ℕ) × RowWord p w × (weight w ≡ row_distance p)
  pub light-word : (X : List ℕ) × Codeword p X × (weight X ≡ distance p)

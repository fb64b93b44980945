-- The tests of the codeword test, each as a walk over checks, rows, totals or levels. Assumes nothing.
use mathlib.Core.Path.{◌≡◌, refl, sym, ap, ap₂, ◌∙◌, subst, fun_ext}
use mathlib.Core.Bool.{Bool, true, false, ◌&&◌, and_assoc, and_comm}
use mathlib.Core.List.{List, [], ◌∷◌, ◌++◌, map, map-map, flat_map}
use Prim.Native.Nat.{ℕ, zero, suc, ◌+◌, ◌*◌, ◌-◌, ◌≤◌, ◌<◌}
use native.Mathlib.Nat.{add-mul, mul-le-mul, le_of_eq}
use native.Mathlib.Omega.{arith}
use lib.Dec.{T, eqb, ltb→lt, lt→ltb, lit<}
use lib.ListN.{length, get_or, take, drop, replicate}
use lib.Seq.{length-take-le}
use Rattle.field.specs.Lists.{up_from}
use Rattle.field.specs.Field.{Field, size, dot, gf32, gf64}
use Rattle.field.specs.Ours.{field_of}
use Rattle.field.proofs.Laws.{IsField}
use Rattle.field.proofs.Words.{Each, ◌&◌}
use Rattle.fills.specs.Lists.{all, vanish}
use Rattle.fills.specs.Fill.{sums_of}
use Rattle.words.proofs.Stores.{flat_append}
use Rattle.plans.specs.Plan.{Plan, Level, binary_plan, plan1, plan2, plan3, plan4, plan5, known, plan_of, no_level, level_of, checks_to, row_at, across}
use Rattle.plans.specs.Rooms.{column_room, sum_room}
use Rattle.plans.specs.Tables.{check_table, weight_table}
use Rattle.plans.proofs.Plans.{of-known, columns-most}
use Rattle.plans.proofs.Scan.{Passing, passing-none, passing-more, passing-all, up-false}
use Rattle.plans.proofs.Flat.{between, flat, Rows, rows-length}
use Rattle.plans.proofs.Tables.{checks-before, checks-more, sums-more, sums-most, checks-fit, weights-at}
use Rattle.plans.proofs.Parts.{part, part_of, part_length, rows-of, map-up-shift}
use Rattle.tables.specs.Tables.{FactsOf}
use Rattle.tables.specs.declared.Facts.{Facts}
use Rattle.tables.proofs.Numbers.{numbers, row_within}
use Rattle.codewords.specs.Codeword.{rows_hold, totals_hold, is_codeword}
use Rattle.codewords.specs.Asked.{all_rows, with_rows, total_row}
use Rattle.codewords.proofs.Walk.{all_map, Wide, rows-again, Cutting, cutting-rows}
use Rattle.codewords.proofs.Totals.{dot-total}

-- ---- checks that give 0

-- a check gives 0
unfoldable pub gives0 : Field → (v check : List ℕ) → Bool
gives0 F v check = eqb (dot F check v) 0

-- every check does
unfoldable pub all_give0 : Field → (checks v : List ℕ) → Bool
all_give0 F checks v = vanish (sums_of F (all_rows (length v) checks) v)

pub give0-walk : (F : Field) (checks v : List ℕ) → all (gives0 F v) (all_rows (length v) checks) ≡ all_give0 F checks v
unfolding gives0 all_give0 vanish sums_of
give0-walk F checks v = sym (all_map (λ x. eqb x 0) (λ c. dot F c v) (all_rows (length v) checks))

-- of no symbols every sum is 0
none-gives : (F : Field) (rows : List (List ℕ)) → true ≡ all (gives0 F []) rows
unfolding all gives0 dot
none-gives F [] = refl
none-gives F ([] ∷ rows) = none-gives F rows
none-gives F ((c ∷ cs) ∷ rows) = none-gives F rows

pub none-give : (F : Field) (checks v : List ℕ) → length v ≡ 0 → true ≡ all_give0 F checks v
none-give F checks [] e = none-gives F (all_rows 0 checks) ∙ give0-walk F checks []
none-give F checks (x ∷ xs) e = absurd (omega (arith, e))

-- ---- the checks in the table

-- a known plan has rows and columns
pub rows-pos : (p : ℕ) → T (known p) → 0 < (plan_of p).rows
unfolding known
rows-pos p k = ltb→lt 0 (plan_of p).rows k

pub columns-pos : (p : ℕ) → T (known p) → 0 < (plan_of p).columns
unfolding up_from size gf32 gf64 binary_plan plan1 plan2 plan3 plan4 plan5 plan_of
columns-pos = of-known (λ p. 0 < (plan_of p).columns) (lit< tt & lit< tt & lit< tt & lit< tt & lit< tt & tt)

pub has-rows : (p : ℕ) → 0 < (plan_of p).rows → T (known p)
unfolding known
has-rows p h = lt→ltb 0 (plan_of p).rows h

each_front : {A : Type 0} (Q : A → Type 0) (a b : List A) → Each Q (a ++ b) → Each Q a
each_front Q [] b e = tt
each_front Q (x ∷ a) b e = (e.0, each_front Q a b e.1)

each_behind : {A : Type 0} (Q : A → Type 0) (a b : List A) → Each Q (a ++ b) → Each Q b
each_behind Q [] b e = e
each_behind Q (x ∷ a) b e = each_behind Q a b e.1

pub wide-rows : (q n : ℕ) (rows : List (List ℕ)) → Rows q n rows → Wide n rows
wide-rows q n [] r = tt
wide-rows q n (row ∷ rows) r = (r.0.0, wide-rows q n rows r.1)

module _ (p t : ℕ) where
  abbrev P : Plan
  P = plan_of p

  -- the checks of level t + 1
  abbrev own : List (List ℕ)
  own = (level_of P (suc t)).checks

  abbrev behind : List (List ℕ)
  behind = flat_map (λ (L : Level). L.checks) (drop (suc t) P.levels)

  all-checks : checks_to P (length P.levels) ≡ (checks_to P t ++ own) ++ behind
  all-checks = checks-before P (suc t) ∙ ap (λ cs. cs ++ behind) (checks-more P t)

  both-fit : Rows (size P.field) P.columns (checks_to P t ++ own)
  both-fit = each_front _ (checks_to P t ++ own) behind (rw all-checks at (checks-fit p))

  front-long : length (flat (checks_to P t)) ≡ length (checks_to P t) * P.columns
  front-long = rows-length _ _ (checks_to P t) (each_front _ (checks_to P t) own both-fit)

  own-fit : Rows (size P.field) P.columns own
  own-fit = each_behind _ (checks_to P t) own both-fit

  own-long : length (flat own) ≡ length own * P.columns
  own-long = rows-length _ _ own own-fit

  the-table : check_table P ≡ (flat (checks_to P t) ++ flat own) ++ flat behind
  unfolding check_table
  the-table =
      ap flat all-checks ∙ flat_append (λ row. row) (checks_to P t ++ own) behind
      ∙ ap (λ l. l ++ flat behind) (flat_append (λ row. row) (checks_to P t) own)

  -- they stand in the table from where those before them end
  pub level-part : take (length (checks_to P (suc t)) * P.columns - length (checks_to P t) * P.columns) (drop (length (checks_to P t) * P.columns) (check_table P)) ≡ flat own
  level-part =
      let size : length (checks_to P (suc t)) * P.columns - length (checks_to P t) * P.columns ≡ length (flat own) =
      omega (arith, own-long, ap (λ k. k * P.columns) (sums-more P t) ∙ add-mul (length (checks_to P t)) (length own) P.columns) in
      ap₂ (λ n k. take n (drop k (check_table P))) size (sym front-long)
      ∙ ap (λ l. take (length (flat own)) (drop (length (flat (checks_to P t))) l)) the-table
      ∙ between (flat (checks_to P t)) (flat own) (flat behind)

  -- their sums of a vector as long as a row
  pub level-sums : 0 < P.columns → (F : Field) (v : List ℕ) → length v ≡ P.columns → all_give0 F (flat own) v ≡ vanish (sums_of F own v)
  unfolding all_give0
  level-sums pos F v long =
      ap (λ cs. vanish (sums_of F cs v)) (ap (λ n. all_rows n (flat own)) long ∙ rows-again pos own (wide-rows _ _ own own-fit))

-- the checks of any levels are few
pub sums-fit : (p t : ℕ) → length (checks_to (plan_of p) t) * (plan_of p).columns ≤ sum_room * column_room
sums-fit p t = mul-le-mul (sums-most p t) (columns-most p)

-- the same by the level's number
module _ (p : ℕ) {level : ℕ} (above : 1 ≤ level) where
  behind-first : suc (level - 1) ≡ level
  behind-first = omega arith

  pub level-checks : let P = plan_of p in
      take (length (checks_to P level) * P.columns - length (checks_to P (level - 1)) * P.columns) (drop (length (checks_to P (level - 1)) * P.columns) (check_table P))
      ≡ flat (level_of P level).checks
  level-checks =
      let P = plan_of p in
      let first : ℕ = length (checks_to P (level - 1)) * P.columns in
      ap (λ n. take (length (checks_to P n) * P.columns - first) (drop first (check_table P))) (sym behind-first)
      ∙ level-part p (level - 1) ∙ ap (λ n. flat (level_of P n).checks) behind-first

  pub level-vanishes : 0 < (plan_of p).columns → (F : Field) (v : List ℕ) → length v ≡ (plan_of p).columns
      → all_give0 F (flat (level_of (plan_of p) level).checks) v ≡ vanish (sums_of F (level_of (plan_of p) level).checks v)
  level-vanishes pos F v long =
      subst (λ n. all_give0 F (flat (level_of (plan_of p) n).checks) v ≡ vanish (sums_of F (level_of (plan_of p) n).checks v)) behind-first
      (level-sums p (level - 1) pos F v long)

  -- the checks of the levels below end before those of this one
  pub checks-order : length (checks_to (plan_of p) (level - 1)) ≤ length (checks_to (plan_of p) level)
  checks-order =
      subst (λ n. length (checks_to (plan_of p) (level - 1)) ≤ length (checks_to (plan_of p) n)) behind-first (omega (arith, sums-more (plan_of p) (level - 1)))

-- ---- rows

-- the level-1 sums of row r are zero
unfoldable pub row_holds : Plan → List ℕ → ℕ → Bool
row_holds P stripe r = vanish (sums_of P.field (level_of P 1).checks (row_at P stripe r))

module _ (p : ℕ) {f : Facts} (is : FactsOf (plan_of p) f) (stripe : List ℕ) (long : (plan_of p).rows * (plan_of p).columns ≤ length stripe)
    (r : ℕ) (more : r < f.rows) where
  within : r < (plan_of p).rows
  within = rw is.rows at more

  its-known : T (known p)
  its-known = has-rows p (omega (arith, within))

  abbrev row : List ℕ
  row = part (r * f.columns) f.columns stripe

  row-long : length row ≡ (plan_of p).columns
  row-long = part_length (r * f.columns) f.columns stripe (row_within (numbers p is) long more) ∙ is.columns

  pub row-pos : 0 < length row
  row-pos = omega (arith, row-long, columns-pos p its-known)

  module _ {checks : List ℕ} (lent : checks ≡ flat (level_of (plan_of p) 1).checks) {b : Bool} (e : b ≡ all_give0 (field_of f.field) checks row) where
    its-row : b ≡ row_holds (plan_of p) stripe r
    unfolding row_holds row_at
    its-row =
        let P = plan_of p in
        e ∙ ap (λ checks. all_give0 (field_of f.field) checks row) lent
        ∙ level-sums p 0 (columns-pos p its-known) (field_of f.field) row row-long
        ∙ ap₂ (λ F v. vanish (sums_of F (level_of P 1).checks v)) is.field.names
        (part_of (r * f.columns) f.columns stripe ∙ ap (λ n. take n (drop (r * n) stripe)) is.columns)

    pub rows-turn : b ≡ true → Passing (row_holds (plan_of p) stripe) (plan_of p).rows r → Passing (row_holds (plan_of p) stripe) (plan_of p).rows (r + 1)
    rows-turn good s = passing-more s within (sym its-row ∙ good)

    pub rows-fail : b ≡ false → false ≡ rows_hold (plan_of p) stripe
    unfolding row_holds rows_hold
    rows-fail bad = sym (up-false (row_holds (plan_of p) stripe) _ r within (sym its-row ∙ bad))

pub rows-end : (p : ℕ) {f : Facts} → FactsOf (plan_of p) f → (stripe : List ℕ) {r : ℕ} → f.rows ≤ r → Passing (row_holds (plan_of p) stripe) (plan_of p).rows r
    → true ≡ rows_hold (plan_of p) stripe
unfolding row_holds rows_hold
rows-end p is stripe end s = sym (passing-all s (omega (arith, is.rows)))

-- ---- totals

all_both : {A : Type 0} (p q : A → Bool) (l : List A) → all p l && all q l ≡ all (λ x. p x && q x) l
unfolding all
all_both p q [] = refl
all_both p q (x ∷ l) = four (p x) (all p l) (q x) (all q l) ∙ ap (λ b. p x && q x && b) (all_both p q l)
  where
    four : (a b c d : Bool) → (a && b) && (c && d) ≡ a && c && (b && d)
    four false b c d = refl
    four true b c d = sym (and_assoc b c d) ∙ ap (λ x. x && d) (and_comm b c) ∙ and_assoc c b d

all_true : {A : Type 0} (l : List A) → all (λ x. true) l ≡ true
unfolding all
all_true [] = refl
all_true (x ∷ l) = all_true l

-- each row of a matrix is zero where each column is
pub vanish-turned : {A B : Type 0} (f : A → B → ℕ) (xs : List A) (ys : List B) → all (λ x. vanish (map (f x) ys)) xs ≡ all (λ y. vanish (map (λ x. f x y) xs)) ys
unfolding vanish all
vanish-turned f [] ys = sym (all_true ys)
vanish-turned f (x ∷ xs) ys =
    ap₂ ◌&&◌ (all_map (λ z. eqb z 0) (f x) ys) (vanish-turned f xs ys)
    ∙ all_both (λ y. eqb (f x y) 0) (λ y. vanish (map (λ x. f x y) xs)) ys

-- the sums of one weighted total are zero
unfoldable pub total_holds : Plan → Level → List ℕ → List ℕ → Bool
total_holds P L stripe weights = vanish (sums_of P.field L.checks (total_row P.field weights P.columns stripe))

-- the weighted total of the rows' sums is the sum of their weighted total
total-of-sums : (P : Plan) → IsField P.field → (stripe check weights : List ℕ) → length weights ≤ P.rows
    → dot P.field weights (across P stripe check) ≡ dot P.field check (total_row P.field weights P.columns stripe)
unfolding across row_at
total-of-sums P K stripe check weights few =
    sym (dot-total P.field K check weights P.rows P.columns stripe few
    ∙ ap (λ rows. dot P.field weights (map (dot P.field check) rows)) (rows-of P.rows P.columns stripe)
    ∙ ap (dot P.field weights) (map-map _ _ (up_from 0 P.rows)))

pub totals-walk : (P : Plan) (L : Level) → IsField P.field → (stripe : List ℕ) → Wide P.rows L.weights
    → all (total_holds P L stripe) L.weights ≡ totals_hold P stripe L
unfolding all total_holds totals_hold sums_of
totals-walk P L K stripe wide =
    go L.weights wide ∙ sym (vanish-turned (λ c w. dot P.field w (across P stripe c)) L.checks L.weights)
  where
    go : (ws : List (List ℕ)) → Wide P.rows ws
        → all (λ w. vanish (map (λ c. dot P.field c (total_row P.field w P.columns stripe)) L.checks)) ws
        ≡ all (λ w. vanish (map (λ c. dot P.field w (across P stripe c)) L.checks)) ws
    go [] wide = refl
    go (w ∷ ws) wide =
        ap₂ ◌&&◌ (ap (λ f. vanish (map f L.checks)) (fun_ext (λ c. sym (total-of-sums P K stripe c w (le_of_eq wide.0))))) (go ws wide.1)

take-zeros : (n m : ℕ) → n ≤ m → take {A = ℕ} n (replicate m 0) ≡ replicate n 0
take-zeros zero m h = refl
take-zeros (suc n) zero h = absurd (omega arith)
take-zeros (suc n) (suc m) h = ap (λ l. 0 ∷ l) (take-zeros n m (omega arith))

-- ---- totals, one after the other

-- a total of zeros, as long as a row
abbrev pub none : ℕ → List ℕ
none n = take n (replicate column_room 0)

pub none-length : (p : ℕ) {n : ℕ} → n ≡ (plan_of p).columns → length (none n) ≡ n
none-length p {n} e = length-take-le n (replicate column_room 0) (rw e (columns-most p))

-- the weights of a level, from the table
pub weights-cut : (p level : ℕ) → T (known p) → IsField (plan_of p).field → (stripe : List ℕ) → let P = plan_of p in let L = level_of P level in
    Cutting P.rows (total_holds P L stripe) (totals_hold P stripe L) (weight_table P level)
unfolding weight_table
weights-cut p level k K stripe =
    let P = plan_of p in
    let L = level_of P level in
    let wide : Wide P.rows L.weights = wide-rows _ _ L.weights (weights-at p level).fit in
    cutting-rows (rows-pos p k) L.weights wide (totals-walk P L K stripe wide)

module _ (p : ℕ) {f : Facts} (is : FactsOf (plan_of p) f) (k : T (known p)) (stripe : List ℕ) (long : (plan_of p).rows * (plan_of p).columns ≤ length stripe)
    (weights : List ℕ) (high : length weights ≡ (plan_of p).rows) where
  pub rows-inside : length weights * length (none f.columns) ≤ length stripe
  rows-inside = rw (high, none-length p is.columns, is.columns) long

  module _ {total : List ℕ} (kept : length total ≡ length (none f.columns))
      (made : total ≡ with_rows (field_of f.field) weights (length (none f.columns)) stripe (none f.columns)) where
    total-long : length total ≡ (plan_of p).columns
    total-long = kept ∙ none-length p is.columns ∙ is.columns

    pub total-pos : 0 < length total
    total-pos = omega (arith, total-long, columns-pos p k)

    total-is : total ≡ total_row (plan_of p).field weights (plan_of p).columns stripe
    unfolding total_row
    total-is =
        made ∙ ap₂ (λ n z. with_rows (field_of f.field) weights n stripe z) (none-length p is.columns) (take-zeros f.columns column_room (rw is.columns (columns-most p)))
        ∙ ap₂ (λ F n. with_rows F weights n stripe (replicate n 0)) is.field.names is.columns

    pub its-total : {level : ℕ} → 1 ≤ level → {checks : List ℕ} → checks ≡ flat (level_of (plan_of p) level).checks
        → all_give0 (field_of f.field) checks total ≡ total_holds (plan_of p) (level_of (plan_of p) level) stripe weights
    unfolding total_holds
    its-total {level} above lent =
        ap (λ checks. all_give0 (field_of f.field) checks total) lent ∙ level-vanishes p above (columns-pos p k) (field_of f.field) total total-long
        ∙ ap₂ (λ F v. vanish (sums_of F (level_of (plan_of p) level).checks v)) is.field.names total-is

-- ---- levels

-- the totals of level t + 2 are zero
unfoldable pub level_holds : Plan → List ℕ → ℕ → Bool
level_holds P stripe t = totals_hold P stripe (level_of P (suc (suc t)))

get_or-all : {A : Type 0} (d : A) (xs : List A) → map (λ i. get_or xs i d) (up_from 0 (length xs)) ≡ xs
unfolding up_from
get_or-all d [] = refl
get_or-all d (x ∷ xs) = ap (λ l. x ∷ l) (map-up-shift (λ i. get_or (x ∷ xs) i d) 0 (length xs) ∙ get_or-all d xs)

-- the levels behind the first, by their numbers
levels-behind : (ls : List Level) → map (λ t. get_or ls (suc t) no_level) (up_from 0 (length ls - 1)) ≡ drop 1 ls
unfolding up_from
levels-behind [] = refl
levels-behind (L ∷ ls) =
    let e : suc (length ls) - 1 ≡ length ls = omega arith in ap (λ n. map (λ t. get_or ls t no_level) (up_from 0 n)) e ∙ get_or-all no_level ls

-- the totals of the levels below this one are zero
pub record LevelsHolding (p : ℕ) (stripe : List ℕ) (level : ℕ) : Type 0 where
  pub above : 2 ≤ level
  pub walk : Passing (level_holds (plan_of p) stripe) (length (plan_of p).levels - 1) (level - 2)

module _ (p : ℕ) (stripe : List ℕ) where
  levels-walk : all (level_holds (plan_of p) stripe) (up_from 0 (length (plan_of p).levels - 1)) ≡ all (totals_hold (plan_of p) stripe) (drop 1 (plan_of p).levels)
  unfolding level_holds level_of
  levels-walk =
      let P = plan_of p in
      sym (all_map (totals_hold P stripe) (λ t. get_or P.levels (suc t) no_level) (up_from 0 (length P.levels - 1)))
      ∙ ap (all (totals_hold P stripe)) (levels-behind P.levels)

  pub levels-start : LevelsHolding p stripe 2
  levels-start = record { above = omega arith; walk = passing-none }

  module _ {level : ℕ} (s : LevelsHolding p stripe level) where
    module _ (more : level < length (plan_of p).levels + 1) {b : Bool} (e : b ≡ totals_hold (plan_of p) stripe (level_of (plan_of p) level)) where
      its-level : level_holds (plan_of p) stripe (level - 2) ≡ b
      unfolding level_holds
      its-level =
          let k : suc (suc (level - 2)) ≡ level = omega (arith, s.above) in
          ap (λ k. totals_hold (plan_of p) stripe (level_of (plan_of p) k)) k ∙ sym e

      pub levels-turn : b ≡ true → LevelsHolding p stripe (level + 1)
      levels-turn good =
          let k : level - 2 + 1 ≡ level + 1 - 2 = omega (arith, s.above) in
          record { above = omega (arith, s.above); walk = subst (Passing _ _) k (passing-more s.walk (omega (arith, s.above)) (its-level ∙ good)) }

      pub levels-fail : b ≡ false → false ≡ all (totals_hold (plan_of p) stripe) (drop 1 (plan_of p).levels)
      levels-fail bad = sym (up-false _ _ (level - 2) (omega (arith, s.above)) (its-level ∙ bad)) ∙ levels-walk

    pub levels-end : length (plan_of p).levels + 1 ≤ level → true ≡ all (totals_hold (plan_of p) stripe) (drop 1 (plan_of p).levels)
    levels-end end = sym (passing-all s.walk (omega (arith, s.above))) ∙ levels-walk

-- ---- the test

module _ (P : Plan) (stripe : List ℕ) {a : Bool} (rows : a ≡ rows_hold P stripe) where
  pub holds_not : a ≡ false → false ≡ is_codeword P stripe
  unfolding is_codeword
  holds_not f = ap (λ b. b && all (totals_hold P stripe) (drop 1 P.levels)) (sym f ∙ rows)

  pub holds_by : a ≡ true → {b : Bool} → b ≡ all (totals_hold P stripe) (drop 1 P.levels) → b ≡ is_codeword P stripe
  unfolding is_codeword
  holds_by t levels = levels ∙ ap (λ b. b && all (totals_hold P stripe) (drop 1 P.levels)) (sym t ∙ rows)

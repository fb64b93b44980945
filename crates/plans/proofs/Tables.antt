-- What the code's tables hold, for every plan and level. Assumes nothing.
use mathlib.Core.Path.{◌≡◌, sym, ap, ◌∙◌}
use mathlib.Core.List.{List, [], ◌∷◌, ◌++◌, map, flat_map, append_assoc, append-nil}
use Prim.Native.Nat.{ℕ, zero, suc, pred, ◌+◌, ◌≤◌, ◌<◌, zero-le}
use native.Mathlib.Nat.{le_refl, zero-add}
use native.Mathlib.Omega.{arith}
use lib.ListN.{length, get_or, take, drop, take-append-drop, length-append}
use lib.Seq.{take-length, take-nil}
use Rattle.field.specs.Lists.{up_from}
use Rattle.field.specs.Field.{size}
use Rattle.field.proofs.Ring.{size-pos}
use Rattle.field.proofs.Words.{Each, each-get_or}
use Rattle.plans.specs.Rooms.{sum_room}
use Rattle.plans.specs.Plan.{Plan, Level, no_plan, plan_of, no_level, level_of, checks_to}
use Rattle.plans.specs.Tables.{check_table, weight_table}
use Rattle.words.proofs.Stores.{flat_append}
use Rattle.plans.proofs.Flat.{between, Rows, row_in, rows_in, rows-lt}
use Rattle.plans.proofs.Columns.{Columns, no_rows}
use Rattle.plans.proofs.Plans.{by-known, checks-at, by_level}

-- ---- checks by level

abbrev checks_in : List Level → List (List ℕ)
checks_in levels = flat_map (λ (L : Level). L.checks) levels

-- the checks of levels 1 to t stand before the others
pub checks-before : (P : Plan) (t : ℕ) → checks_to P (length P.levels) ≡ checks_to P t ++ checks_in (drop t P.levels)
unfolding checks_to
checks-before P t =
    ap checks_in (take-length P.levels ∙ sym (take-append-drop t P.levels))
    ∙ flat_append (λ (L : Level). L.checks) (take t P.levels) (drop t P.levels)

-- level t + 1 adds its own
pub checks-more : (P : Plan) (t : ℕ) → checks_to P (suc t) ≡ checks_to P t ++ (level_of P (suc t)).checks
unfolding flat_map no_level level_of checks_to
checks-more P t = go P.levels t
  where
    go : (ls : List Level) (t : ℕ) → checks_in (take (suc t) ls) ≡ checks_in (take t ls) ++ (get_or ls t no_level).checks
    go [] t = rw take-nil
    go (L ∷ ls) zero = append-nil L.checks
    go (L ∷ ls) (suc t) = ap (λ cs. L.checks ++ cs) (go ls t) ∙ sym (append_assoc L.checks _ _)

pub sums-more : (P : Plan) (t : ℕ) → length (checks_to P (suc t)) ≡ length (checks_to P t) + length (level_of P (suc t)).checks
sums-more P t = ap length (checks-more P t) ∙ length-append (checks_to P t) (level_of P (suc t)).checks

-- ---- what is known of checks and weights, for every number

pub checks-fit : (p : ℕ) → Rows (size (plan_of p).field) (plan_of p).columns (checks_to (plan_of p) (length (plan_of p).levels))
unfolding flat_map no_plan checks_to
checks-fit =
    by-known (λ P. Rows (size P.field) P.columns (checks_to P (length P.levels))) tt
    (λ P ds k. by_level P (Rows (size P.field) P.columns) tt (λ i h. (checks-at k i h).fit) (length P.levels))

pub weights-at : (p t : ℕ) → let W = (level_of (plan_of p) t).weights in Columns (plan_of p).field (plan_of p).rows (suc (length W)) W
unfolding no_plan no_level level_of
weights-at p t =
    let Q : Plan → Level → Type 0 = λ P L. Columns P.field P.rows (suc (length L.weights)) L.weights in
    each-get_or (Q (plan_of p)) no_level (no_rows _ _) (plan_of p).levels (by-known (λ P. Each (Q P) P.levels) tt (λ P ds k. k.weights) p) (pred t)

-- a row has at most 16 sums
pub sums-most : (p t : ℕ) → length (checks_to (plan_of p) t) ≤ sum_room
unfolding flat_map no_plan checks_to
sums-most p t =
    let most = by-known (λ P. length (checks_to P (length P.levels)) ≤ sum_room) zero-le (λ P ds k. k.shape.sums-le) p in
    omega (arith, rw length-append at (ap length (checks-before (plan_of p) t)))

-- ---- what the tables hold

-- rows that stand among the checks, with a before them and b behind
part_in : (p : ℕ) (a l b : List (List ℕ)) → let P = plan_of p in checks_to P (length P.levels) ≡ (a ++ l) ++ b
    → map (row_in P.columns (check_table P)) (up_from (length a) (length l)) ≡ l
unfolding check_table
part_in p a l b e =
    let P = plan_of p in
    rows_in (size P.field) P.columns _ (checks-fit p) (length a) (length l) (rw (e, length-append, length-append) (omega arith))
    ∙ ap (λ cs. take (length l) (drop (length a) cs)) e ∙ between a l b

-- those of levels 1 to t come first
pub checks-in : (p t : ℕ) → let P = plan_of p in map (row_in P.columns (check_table P)) (up_from 0 (length (checks_to P t))) ≡ checks_to P t
checks-in p t = part_in p [] (checks_to (plan_of p) t) _ (checks-before (plan_of p) t)

-- then those of level t + 1
pub level-checks-in : (p t : ℕ) → let P = plan_of p in
    map (row_in P.columns (check_table P)) (up_from (length (checks_to P t)) (length (level_of P (suc t)).checks)) ≡ (level_of P (suc t)).checks
level-checks-in p t =
    let P = plan_of p in
    part_in p (checks_to P t) (level_of P (suc t)).checks _
    (checks-before P (suc t) ∙ ap (λ cs. cs ++ checks_in (drop (suc t) P.levels)) (checks-more P t))

pub weights-in : (p t : ℕ) → let P = plan_of p in
    map (row_in P.rows (weight_table P t)) (up_from 0 (length (level_of P t).weights)) ≡ (level_of P t).weights
unfolding weight_table
weights-in p t =
    let P = plan_of p in
    rows_in (size P.field) P.rows _ (weights-at p t).fit 0 (length (level_of P t).weights) (rw zero-add (le_refl _))
    ∙ take-length (level_of P t).weights

-- ---- each coefficient is below q

pub checks-lt : (p i : ℕ) → get_or (check_table (plan_of p)) i 0 < size (plan_of p).field
unfolding check_table
checks-lt p = rows-lt _ _ (size-pos (plan_of p).field) _ (checks-fit p)

pub weights-lt : (p t i : ℕ) → get_or (weight_table (plan_of p) t) i 0 < size (plan_of p).field
unfolding weight_table
weights-lt p t = rows-lt _ _ (size-pos (plan_of p).field) _ (weights-at p t).fit

-- What is refused, by which number, and in which order.
use Rattle.std.specs.Prelude.{ℕ, ◌*◌, ◌^◌, Bool, true, false, ◌&&◌, ◌||◌, List, [], ◌∷◌, eqb, ltb, leb, length, take, drop}
use Rattle.field.specs.Lists.{when◌then◌else◌, up_from}
use Rattle.field.specs.Field.{size}
use Rattle.fills.specs.Lists.{all, beside}
use Rattle.plans.specs.Plan.{Plan, plan_of, known, checks_to, row_at, marks_at}
use Rattle.plans.specs.Rooms.{sum_room}
use Rattle.plans.specs.declared.Bench.{Bench}

-- ---- the orders

-- the number of the first test that fails; 0 where none does
unfoldable pub first_failed : List (ℕ × Bool) → ℕ
first_failed [] = 0
first_failed (t ∷ ts) = when t.1 then first_failed ts else t.0

-- the numbers of the tests in memory, in their order
unfoldable pub memory_order : List ℕ
memory_order = 10 ∷ 11 ∷ 15 ∷ 12 ∷ 13 ∷ 14 ∷ 16 ∷ []

-- a number's place in an order: whether it has one, and what stands from there on
unfoldable pub has : ℕ → List ℕ → Bool
has n [] = false
has n (m ∷ order) = eqb m n || has n order

unfoldable pub from : ℕ → List ℕ → List ℕ
from n [] = []
from n (m ∷ order) = when eqb m n then m ∷ order else from n order

-- whether tests are made in this order
unfoldable pub in_order : (order : List ℕ) → List (ℕ × Bool) → Bool
in_order order [] = true
in_order order (t ∷ ts) = has t.0 order && in_order (from t.0 order) ts

-- a test that does not apply
unfoldable pub unasked : Bool
unasked = true

-- ---- the tests

unfoldable pub stripe_fits : Plan → List ℕ → Bool
stripe_fits P stripe = eqb (length stripe) (P.rows * P.columns)

unfoldable pub words_fit : Plan → List ℕ → Bool
words_fit P marks = eqb (length marks) P.rows

-- no mark bit stands at column N or above
unfoldable pub marks_fit : Plan → List ℕ → Bool
marks_fit P marks = all (λ w. ltb w (2 ^ P.columns)) (take P.rows marks)

-- each symbol is below q
unfoldable pub all_below : ℕ → List ℕ → Bool
all_below q xs = all (λ x. ltb x q) xs

-- each unmarked symbol is below q
unfoldable pub unmarked_below : ℕ → List Bool → List ℕ → Bool
unmarked_below q ms xs = all (λ ok. ok) (beside (λ m x. m || ltb x q) ms xs)

unfoldable pub symbols_fit : Plan → List ℕ → List ℕ → Bool
symbols_fit P marks symbols =
    all (λ r. unmarked_below (size P.field) (marks_at P marks r) (row_at P symbols r)) (up_from 0 P.rows)

-- the learned sums of row r for levels 1 to t
unfoldable pub sums_at : Plan → ℕ → List ℕ → ℕ → List ℕ
sums_at P t sums r = take (length (checks_to P t)) (drop (r * sum_room) sums)

unfoldable pub sums_fit : Plan → ℕ → List ℕ → Bool
sums_fit P t sums = all (λ r. all_below (size P.field) (sums_at P t sums r)) (up_from 0 P.rows)

unfoldable pub level_fits : Plan → ℕ → Bool
level_fits P t = ltb 0 t && leb t (length P.levels)

-- ---- what start and mending in one call refuse, and what a step refuses

unfoldable pub lent_tests : ℕ → List ℕ → List ℕ → List (ℕ × Bool)
lent_tests p stripe marks =
    let P = plan_of p in
    (10, known p) ∷ (11, stripe_fits P stripe && words_fit P marks) ∷ (12, marks_fit P marks) ∷ (13, symbols_fit P marks stripe) ∷ []

unfoldable pub lent_refusal : ℕ → List ℕ → List ℕ → ℕ
lent_refusal p stripe marks = first_failed (lent_tests p stripe marks)

-- a step looks at the whole bench; `row` says whether the row number fits
unfoldable pub bench_tests : Bench → (row : Bool) → List (ℕ × Bool)
bench_tests b row =
    let P = plan_of b.plan in
    (10, known b.plan) ∷ (15, level_fits P b.level) ∷ (12, marks_fit P b.marks) ∷ (13, symbols_fit P b.marks b.symbols && sums_fit P b.level b.sums)
    ∷ (14, row) ∷ []

unfoldable pub bench_refusal : Bench → (row : Bool) → ℕ
bench_refusal b row = first_failed (bench_tests b row)

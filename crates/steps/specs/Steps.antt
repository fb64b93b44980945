-- The bench and its steps.
use Rattle.std.specs.Prelude.{ℕ, zero, suc, ◌*◌, ◌-◌, Bool, not, List, [], ◌∷◌, ◌++◌, map, eqb, ltb, length, take, drop, get_or, set, replicate, Result, Ok, Err}
use Rattle.std.proofs.lemmas.List.Edits.{sets}
use Rattle.field.specs.Lists.{when◌then◌else◌, up_from}
use Rattle.fills.specs.Lists.{any, zeros}
use Rattle.fills.specs.Fill.{dependent, Fill, none, tied, one, fill, is_none, vector_in}
use Rattle.plans.specs.Plan.{Plan, plan_of, level_of, checks_to, row_at, marks_at, across}
use Rattle.plans.specs.Refusal.{sums_at, unasked, lent_refusal, bench_refusal}
use Rattle.plans.specs.Rooms.{row_room, symbol_room, sum_room, learned_room}
use Rattle.plans.specs.declared.Bench.{Bench}
use Rattle.plans.specs.declared.Step.{Step}
use Rattle.plans.specs.declared.Step.TheVariants.{Whole, Filled, Tied, Raised, Blocked, Top, Clash}

-- the bench that a call leaves, and what it answers: a refusal by its number
pub record Stepped (A : Type 0) : Type 0 where
  pub bench : Bench
  pub answer : Result A ℕ

unfoldable pub stepped : {A : Type 0} → Bench → Result A ℕ → Stepped A
stepped b s = record { bench = b; answer = s }

-- ---- start

-- level 1, all sums zero, symbols and marks copied as lent, the room beyond them 0
unfoldable pub fresh : ℕ → List ℕ → List ℕ → Bench
fresh p stripe marks = record {
  plan = p;
  level = 1;
  symbols = stripe ++ replicate (symbol_room - length stripe) 0;
  marks = marks ++ replicate (row_room - length marks) 0;
  sums = replicate learned_room 0;
}

-- the bench of a refused start: its numbers are all 0
unfoldable pub empty : Bench
empty = record { plan = 0; level = 0; symbols = replicate symbol_room 0; marks = replicate row_room 0; sums = replicate learned_room 0 }

unfoldable pub started_by : (refusal : ℕ) → ℕ → List ℕ → List ℕ → Stepped Unit
started_by zero p stripe marks = stepped (fresh p stripe marks) (Ok tt)
started_by (suc n) p stripe marks = stepped empty (Err (suc n))

unfoldable pub started : ℕ → List ℕ → List ℕ → Stepped Unit
started p stripe marks = started_by (lent_refusal p stripe marks) p stripe marks

-- ---- a step's end

-- a refused step leaves the bench as it was
unfoldable pub unless_refused : (refusal : ℕ) → Bench → Stepped Step → Stepped Step
unless_refused zero b s = s
unless_refused (suc n) b s = stepped b (Err (suc n))

-- ---- row step

-- the checks of levels 1 to t on the row's marked columns, with the learned sums
unfoldable pub row_fill : Bench → ℕ → Fill
row_fill b r =
    let P = plan_of b.plan in
    fill P.field (checks_to P b.level) (sums_at P b.level b.sums r) (marks_at P b.marks r) (row_at P b.symbols r)

-- the row filled, its marks clear
unfoldable pub put_row : Bench → ℕ → List ℕ → Bench
put_row b r row = record {
  plan = b.plan;
  level = b.level;
  symbols = sets b.symbols (r * (plan_of b.plan).columns) row;
  marks = set b.marks r 0;
  sums = b.sums;
}

unfoldable pub row_step_by : Bench → ℕ → Fill → Stepped Step
row_step_by b r none = stepped b (Ok Clash)
row_step_by b r tied = stepped b (Ok Tied)
row_step_by b r (one row) = stepped (put_row b r row) (Ok (when eqb (get_or b.marks r 0) 0 then Whole else Filled))

unfoldable pub row_step : Bench → ℕ → Stepped Step
row_step b r = unless_refused (bench_refusal b (ltb r (plan_of b.plan).rows)) b (row_step_by b r (row_fill b r))

-- ---- level step

-- which rows have marks
unfoldable pub lossy : Plan → List ℕ → List Bool
lossy P marks = map (λ r. not (eqb (get_or marks r 0) 0)) (up_from 0 P.rows)

-- check c of level t + 1: the marked rows' sums are filled so that all totals are zero
unfoldable pub check_fill : Bench → (check : List ℕ) → Fill
check_fill b c =
    let P = plan_of b.plan in
    let L = level_of P (suc b.level) in
    fill P.field L.weights (zeros L.weights) (lossy P b.marks) (across P b.symbols c)

-- some check has no filling; the weight columns are dependent; or all rows' sums are learned, a list over the rows for each check
pub data Learned : Type 0 where
  failing : Learned
  blocked : Learned
  learned : List (List ℕ) → Learned

unfoldable pub level_fill : Bench → Learned
level_fill b =
    let P = plan_of b.plan in
    let L = level_of P (suc b.level) in
    when any (λ c. is_none (check_fill b c)) L.checks then failing
    else when dependent P.field L.weights (lossy P b.marks) then blocked
    else learned (map (λ c. vector_in (check_fill b c)) L.checks)

-- the new sums of row r, one for each check
abbrev pub new_sums : List (List ℕ) → (r : ℕ) → List ℕ
new_sums cs r = map (λ c. get_or c r 0) cs

-- row by row: in the row's places the new sums are written behind the n sums before them. All else is as it was
unfoldable pub keep_sums : (n : ℕ) → (news : List (List ℕ)) → (sums : List ℕ) → List ℕ
keep_sums n [] sums = sums
keep_sums n (new ∷ news) sums = sets (take sum_room sums) n new ++ keep_sums n news (drop sum_room sums)

-- all rows' sums learned, t one higher
unfoldable pub raise : Bench → List (List ℕ) → Bench
raise b cs =
    let P = plan_of b.plan in
    record {
      plan = b.plan;
      level = suc b.level;
      symbols = b.symbols;
      marks = b.marks;
      sums = keep_sums (length (checks_to P b.level)) (map (new_sums cs) (up_from 0 P.rows)) b.sums;
    }

unfoldable pub level_step_by : Bench → Learned → Stepped Step
level_step_by b failing = stepped b (Ok Clash)
level_step_by b blocked = stepped b (Ok Blocked)
level_step_by b (learned cs) = stepped (raise b cs) (Ok Raised)

unfoldable pub level_step : Bench → Stepped Step
level_step b =
    unless_refused (bench_refusal b unasked) b
    (when ltb b.level (length (plan_of b.plan).levels) then level_step_by b (level_fill b) else stepped b (Ok Top))

-- Fewer losses never hurt: one codeword, two sets of marks, the first inside the second, true symbols elsewhere.
use Rattle.std.specs.Prelude.{ℕ, ◌<◌, ◌≤◌, ◌≡◌, true, List, get_or, Result, Ok, Err}
use Rattle.plans.specs.Plan.{plan_of, row_at, marks_of}
use Rattle.repair.specs.Mending.{mend_report, mend_stripe, mend_marks}
use Rattle.plans.specs.declared.Report.{Report}
use Rattle.demands.specs.Words.{Codeword, Agree, Fit}

-- every mark of ms is one of ns
abbrev pub MarksInside : ℕ → (ms ns : List ℕ) → Type 0
MarksInside p ms ns = (i : ℕ) → get_or (marks_of (plan_of p) ms) i true ≡ true → get_or (marks_of (plan_of p) ns) i true ≡ true

-- the stripe s with marks ms and the stripe t with marks ns, both true to the codeword X where unmarked
pub record FewerLosses (p : ℕ) (X s ms t ns : List ℕ) : Type 0 where
  pub codeword : Codeword p X
  pub inside : MarksInside p ms ns
  pub fit : Fit p s ms
  pub agrees : Agree p ms X s
  pub fit-more : Fit p t ns
  pub agrees-more : Agree p ns X t

-- mending leaves no mark in row r
abbrev pub EndsClear : ℕ → (stripe marks : List ℕ) → ℕ → Type 0
EndsClear p stripe marks r = get_or (mend_marks p stripe marks) r 0 ≡ 0

-- the symbols that it leaves in row r
abbrev pub row_after : ℕ → (stripe marks : List ℕ) → ℕ → List ℕ
row_after p stripe marks r = row_at (plan_of p) (mend_stripe p stripe marks) r

-- the level that mending reaches; 0 beside a refusal
abbrev pub level_reached : Result Report ℕ → ℕ
level_reached (Ok r) = r.level
level_reached (Err n) = 0

-- s under ms ends no worse than t under ns: each row without marks at the end under ns has none under ms, and the same symbols, which are X's;
-- and the level reached is no lower
pub record NoWorse (p : ℕ) (X s ms t ns : List ℕ) : Type 0 where
  pub unmarked : (r : ℕ) → r < (plan_of p).rows → EndsClear p t ns r → EndsClear p s ms r
  pub symbols : (r : ℕ) → r < (plan_of p).rows → EndsClear p t ns r → row_after p s ms r ≡ row_after p t ns r
  pub true-symbols : (r : ℕ) → r < (plan_of p).rows → EndsClear p t ns r → row_after p s ms r ≡ row_at (plan_of p) X r
  pub level : level_reached (mend_report p t ns) ≤ level_reached (mend_report p s ms)

abbrev pub FewerNeverHurt : Type 0
FewerNeverHurt = (p : ℕ) (X s ms t ns : List ℕ) → FewerLosses p X s ms t ns → NoWorse p X s ms t ns

-- The refusals' order, and what holds where nothing is refused. Assumes nothing.
use mathlib.Core.Path.{◌≡◌, refl, sym, ap, ◌∙◌, subst}
use mathlib.Core.Bool.{Bool, true, false, ◌&&◌, ◌||◌}
use mathlib.Core.List.{List, [], ◌∷◌}
use Prim.Native.Nat.{ℕ, ◌*◌}
use native.Mathlib.Omega.{arith}
use borrow.Author.Tests.{eqb-true}
use lib.Dec.{T, ltb, lt→ltb, ltb→lt}
use lib.ListN.{length}
use Rattle.std.specs.Prelude.{Result, Ok, Err, IsErrAnd}
use Rattle.field.specs.Lists.{when◌then◌else◌}
use Rattle.field.specs.Field.{Field, size}
use Rattle.field.proofs.Test.{both, both_left, both_right}
use Rattle.field.proofs.Words.{Each}
use Rattle.field.proofs.Ring.{size-pos}
use Rattle.fills.specs.Lists.{all, first, rest, beside}
use Rattle.fills.proofs.Tests.{is_true, or_right, all_first, all_rest}
use Rattle.fills.proofs.Choices.{Alike}
use Rattle.fills.proofs.Beside.{beside-alike}
use Rattle.plans.specs.Plan.{Plan, known, plan_of}
use Rattle.plans.specs.Refusal.{first_failed, memory_order, has, from, in_order, stripe_fits, words_fit, marks_fit, all_below, unmarked_below, symbols_fit, lent_tests, lent_refusal, bench_tests}
use Rattle.plans.specs.Answers.{refusal_number, numbered, refused_by}
use Rattle.plans.specs.declared.Bench.{Bench}
use Rattle.plans.specs.declared.Refusal.{Refusal}
use Rattle.plans.specs.declared.Refusal.TheVariants.{UnknownPlan, WrongLength, MarkBeyondColumns, NoSymbol, NoSuchRow, NoSuchLevel, NoCodeword, WrongFileLength, WrongHeader, SymbolUnderMark}
use Rattle.plans.proofs.Scan.{true-and}

-- ---- the order: a test that passes is passed over, the first that fails gives its number

pub none-fails : first_failed [] ≡ 0
unfolding first_failed
none-fails = refl

module _ (n : ℕ) {b : Bool} (ts : List (ℕ × Bool)) where
  pub passes : b ≡ true → first_failed ((n, b) ∷ ts) ≡ first_failed ts
  unfolding when◌then◌else◌ first_failed
  passes e = rw e

  pub fails : b ≡ false → first_failed ((n, b) ∷ ts) ≡ n
  unfolding when◌then◌else◌ first_failed
  fails e = rw e

-- where nothing is refused, each test passed
pub passed : (n : ℕ) (b : Bool) (ts : List (ℕ × Bool)) → (n ≡ 0 → ⊥) → first_failed ((n, b) ∷ ts) ≡ 0 → (b ≡ true) × (first_failed ts ≡ 0)
unfolding when◌then◌else◌ first_failed
passed n true ts ne e = (refl, e)
passed n false ts ne e = absurd (ne e)

-- every test passes
abbrev pub Passed : List (ℕ × Bool) → Type 0
Passed ts = Each (λ t. T t.1) ts

pub all-passed : (ts : List (ℕ × Bool)) → T (all (λ t. ltb 0 t.0) ts) → first_failed ts ≡ 0 → Passed ts
unfolding all
all-passed [] s e = tt
all-passed (t ∷ ts) s e =
    let p = passed t.0 t.1 ts (λ z. omega (arith, ltb→lt 0 t.0 (both_left (ltb 0 t.0) (all (λ t. ltb 0 t.0) ts) s))) e in
    (subst T (sym p.0) tt, all-passed ts (both_right (ltb 0 t.0) (all (λ t. ltb 0 t.0) ts) s) p.1)

pub none-refused : (ts : List (ℕ × Bool)) → Passed ts → first_failed ts ≡ 0
none-refused [] p = none-fails
none-refused (t ∷ ts) p = passes t.0 ts (is_true t.1 p.0) ∙ none-refused ts p.1

-- what start and mending refuse, and what a step refuses, is tested in the order
pub lent-in-order : (p : ℕ) (stripe marks : List ℕ) → T (in_order memory_order (lent_tests p stripe marks))
unfolding when◌then◌else◌ memory_order has from in_order lent_tests
lent-in-order p stripe marks = tt

pub bench-in-order : (b : Bench) (row : Bool) → T (in_order memory_order (bench_tests b row))
unfolding when◌then◌else◌ memory_order has from in_order bench_tests
bench-in-order b row = tt

-- ---- what a test answers: nothing, or a refusal, whose number is not 0

pub accepted : {n : ℕ} → refused_by (Ok tt) ≡ n → n ≡ 0
unfolding refused_by
accepted e = sym e

pub number-pos : (r : Refusal) → refusal_number r ≡ 0 → ⊥
unfolding refusal_number
number-pos UnknownPlan h = omega arith
number-pos WrongLength h = omega arith
number-pos MarkBeyondColumns h = omega arith
number-pos NoSymbol h = omega arith
number-pos NoSuchRow h = omega arith
number-pos NoSuchLevel h = omega arith
number-pos NoCodeword h = omega arith
number-pos WrongFileLength h = omega arith
number-pos WrongHeader h = omega arith
number-pos SymbolUnderMark h = omega arith

module _ (r : Refusal) {n : ℕ} (e : refused_by (Err r) ≡ n) where
  pub its-number : refusal_number r ≡ n
  unfolding refused_by
  its-number = e

  pub refused : n ≡ 0 → ⊥
  refused z = number-pos r (its-number ∙ z)

-- a refusal that a call hands on
pub handed-on : {A : Type 0} (x : Result A Refusal) (r : Refusal) → IsErrAnd x (λ e. e ≡ r) → numbered x ≡ Err (refusal_number r)
unfolding numbered
handed-on (Ok a) r h = absurd h
handed-on (Err e) r h = ap (λ e. Err (refusal_number e)) h

-- ---- lengths

pub stripe-length : (P : Plan) (stripe marks : List ℕ) → (stripe_fits P stripe && words_fit P marks) ≡ true → length stripe ≡ P.rows * P.columns
unfolding stripe_fits
stripe-length P stripe marks e = eqb-true _ _ (true-and _ _ e).0

pub marks-length : (P : Plan) (stripe marks : List ℕ) → (stripe_fits P stripe && words_fit P marks) ≡ true → length marks ≡ P.rows
unfolding words_fit
marks-length P stripe marks e = eqb-true _ _ (true-and (stripe_fits P stripe) _ e).1

-- ---- symbols

-- where each symbol is below q, each unmarked one is
pub unmarked-below : (F : Field) (ms : List Bool) (xs : List ℕ) → T (all_below (size F) xs) → T (unmarked_below (size F) ms xs)
unfolding all beside all_below unmarked_below
unmarked-below F [] xs t = tt
unmarked-below F (m ∷ ms) xs t =
    let q = size F in
    both (m || ltb (first xs) q) (unmarked_below q ms (rest xs))
    (or_right m (ltb (first xs) q) (all_first (λ x. ltb x q) (lt→ltb 0 q (size-pos F)) xs t))
    (unmarked-below F ms (rest xs) (all_rest (λ x. ltb x q) xs t))

-- what stands under marks is not looked at
pub unmarked-alike : (q : ℕ) (ms : List Bool) (v w : List ℕ) → Alike ms v w → unmarked_below q ms v ≡ unmarked_below q ms w
unfolding unmarked_below
unmarked-alike q ms v w a = ap (all (λ ok. ok)) (beside-alike _ (λ x y. refl) ms v w a)

-- ---- what holds where nothing is refused

pub record LentFits (p : ℕ) (stripe marks : List ℕ) : Type 0 where
  pub plan : known p ≡ true
  pub lengths : (stripe_fits (plan_of p) stripe && words_fit (plan_of p) marks) ≡ true
  pub words : marks_fit (plan_of p) marks ≡ true
  pub symbols : symbols_fit (plan_of p) marks stripe ≡ true

pub lent_fits : (p : ℕ) (stripe marks : List ℕ) → lent_refusal p stripe marks ≡ 0 → LentFits p stripe marks
unfolding all lent_tests lent_refusal
lent_fits p stripe marks e =
    let h = all-passed (lent_tests p stripe marks) tt e in
    record { plan = is_true _ h.0; lengths = is_true _ h.1.0; words = is_true _ h.1.1.0; symbols = is_true _ h.1.1.1.0 }

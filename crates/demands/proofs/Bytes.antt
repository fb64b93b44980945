-- In plan 4 every byte is a symbol, so that no test of symbols fails. Assumes nothing.
use Prim.Native.Nat.{ℕ, ◌*◌}
use mathlib.Core.Path.{◌≡◌, sym, subst}
use mathlib.Core.Logic.{◌≢◌}
use mathlib.Core.Bool.{Bool, true, false, not, ◌&&◌, ◌||◌}
use mathlib.Core.List.{List, [], ◌∷◌}
use native.Mathlib.Omega.{arith}
use borrow.Author.Tests.{eq-eqb}
use lib.Dec.{T, eqb, ltb}
use lib.ListN.{length, take, drop}
use Rattle.field.specs.Lists.{when◌then◌else◌}
use Rattle.field.specs.Field.{size, gf256}
use Rattle.field.proofs.Test.{both}
use Rattle.fills.specs.Lists.{all}
use Rattle.plans.specs.Plan.{plan4, plan_of, checks_to, row_at, marks_at, symbols_offset}
use Rattle.plans.specs.Rooms.{sum_room}
use Rattle.plans.specs.Refusal.{all_below, first_failed, symbols_fit, sums_at, sums_fit, lent_tests, lent_refusal, bench_tests, bench_refusal}
use Rattle.plans.proofs.Refusals.{unmarked-below}
use Rattle.words.specs.Words.{byte_range}
use Rattle.steps.proofs.Fit.{fit-symbols, fit-sums, all_take, all_drop}
use Rattle.codewords.specs.Codeword.{test_refusal}
use Rattle.encoding.specs.Data.{encode_refusal, extract_refusal}
use Rattle.files.specs.File.{plan_in, marks_in, symbols_in, file_refusal, write_refusal, read_refusal}
use Rattle.demands.specs.Bytes.{Bytes, NeverThirteen}

-- a number whose tests pass is not the answer
unnamed : (n : ℕ) → n ≢ 0 → (tests : List (ℕ × Bool)) → T (all (λ t. not (eqb t.0 n) || t.1) tests) → first_failed tests ≢ n
unfolding when◌then◌else◌ all first_failed
unnamed n some [] t e = some (sym e)
unnamed n some ((k, true) ∷ tests) t e = unnamed n some tests (t-rest (not (eqb k n)) _ t) e
  where
    t-rest : (a b : Bool) → T ((a || true) && b) → T b
    t-rest true b t = t
    t-rest false b t = t
unnamed n some ((k, false) ∷ tests) t e = gone (eqb k n) (eq-eqb k n e) t
  where
    gone : (b : Bool) → b ≡ true → T ((not b || false) && all (λ t. not (eqb t.0 n) || t.1) tests) → ⊥
    gone true _ t = t
    gone false e t = absurd (subst (λ b. T (not b)) e tt)

-- one test is the number's, and passes
alone : (a : Bool) → T a → T (a && true)
alone a t = both a true t tt

some : ◌≢◌ {A = ℕ} 13 0
some = omega arith

-- a part of bytes
part : (k i : ℕ) (l : List ℕ) → Bytes l → Bytes (take k (drop i l))
unfolding all_below
part k i l b = let below : ℕ → Bool = λ x. ltb x byte_range in all_take below k (drop i l) (all_drop below i l b)

-- every row of bytes fits, and every row's sums
symbols-fit : (marks symbols : List ℕ) → Bytes symbols → T (symbols_fit (plan_of 4) marks symbols)
unfolding size gf256 plan4 plan_of row_at
symbols-fit marks symbols b =
    fit-symbols plan4 marks symbols (λ r l. unmarked-below gf256 (marks_at plan4 marks r) (row_at plan4 symbols r) (part 24 (r * 24) symbols b))

sums-fit : (t : ℕ) (sums : List ℕ) → Bytes sums → T (sums_fit (plan_of 4) t sums)
unfolding size gf256 plan4 plan_of sums_at
sums-fit t sums b = fit-sums plan4 t sums (λ r l. part (length (checks_to plan4 t)) (r * sum_room) sums b)

below-fit : (l : List ℕ) → Bytes l → T (all_below (size (plan_of 4).field) l)
unfolding size gf256 plan4 plan_of
below-fit l b = b

-- the symbols of a file of bytes
in-file : (file : List ℕ) → Bytes file → Bytes (symbols_in file)
unfolding symbols_in
in-file file b = let P = plan_of (plan_in file) in part (P.rows * P.columns) (symbols_offset P) file b

pub never-thirteen : NeverThirteen
unfolding all lent_tests lent_refusal bench_tests bench_refusal encode_refusal extract_refusal test_refusal write_refusal file_refusal read_refusal
never-thirteen = record {
  mending = λ stripe marks b. unnamed 13 some (lent_tests 4 stripe marks) (alone (symbols_fit (plan_of 4) marks stripe) (symbols-fit marks stripe b));
  steps = λ b row e bs bm.
      let P = plan_of b.plan in
      let symbols = symbols_fit P b.marks b.symbols in
      let sums = sums_fit P b.level b.sums in
      unnamed 13 some (bench_tests b row) (alone (symbols && sums)
      (both symbols sums (subst (λ p. T (symbols_fit (plan_of p) b.marks b.symbols)) (sym e) (symbols-fit b.marks b.symbols bs))
      (subst (λ p. T (sums_fit (plan_of p) b.level b.sums)) (sym e) (sums-fit b.level b.sums bm))));
  encoding = λ ds stripe b. unnamed 13 some _ (alone (all_below (size (plan_of 4).field) ds) (below-fit ds b));
  extraction = λ stripe ds b. unnamed 13 some _ (alone (all_below (size (plan_of 4).field) stripe) (below-fit stripe b));
  testing = λ stripe b. unnamed 13 some _ (alone (all_below (size (plan_of 4).field) stripe) (below-fit stripe b));
  writing = λ stripe marks file b. unnamed 13 some _ (alone (symbols_fit (plan_of 4) marks stripe) (symbols-fit marks stripe b));
  reading = λ file stripe marks e b.
      unnamed 13 some _ (alone (symbols_fit (plan_of (plan_in file)) (marks_in file) (symbols_in file))
      (subst (λ p. T (symbols_fit (plan_of p) (marks_in file) (symbols_in file))) (sym e) (symbols-fit (marks_in file) (symbols_in file) (in-file file b))));
}

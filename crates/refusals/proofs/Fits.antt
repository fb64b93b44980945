-- The tests of symbols and sums, as the code goes through their rows. Assumes nothing.
use mathlib.Core.Path.{◌≡◌, refl, sym, ap, ◌∙◌, subst}
use mathlib.Core.Bool.{Bool, true, false}
use mathlib.Core.List.{List}
use Prim.Native.Nat.{ℕ, zero, suc, ◌+◌, ◌*◌, ◌≤◌, ◌<◌}
use native.Mathlib.Nat.{le_refl, le_trans, mul-zero}
use native.Mathlib.Omega.{arith}
use lib.Dec.{T, ltb}
use lib.ListN.{length, get_or, take, drop, length-drop}
use lib.Seq.{take-length, take-take, get_or-drop}
use Rattle.std.proofs.lemmas.List.{get_or-take}
use Rattle.field.specs.Field.{size}
use Rattle.fills.specs.Lists.{all}
use Rattle.fills.specs.Marks.{bits_of}
use Rattle.fills.proofs.Tests.{is_true}
use Rattle.plans.specs.Plan.{Plan, plan_of, row_at, marks_at, checks_to}
use Rattle.plans.specs.Refusal.{all_below, unmarked_below, symbols_fit, sums_at, sums_fit}
use Rattle.plans.specs.Rooms.{sum_room}
use Rattle.plans.proofs.Rows.{row-end}
use Rattle.tables.specs.Tables.{FactsOf}
use Rattle.tables.specs.declared.Facts.{Facts}
use Rattle.plans.proofs.Chunks.{Row}
use Rattle.plans.proofs.Tables.{sums-most}
use Rattle.plans.proofs.Scan.{up-true, up-each, all_take}
use Rattle.plans.proofs.Refusals.{unmarked-below}

-- ---- symbols

-- where the first m are below q, so is every part of them
below-part : (q : ℕ) (l : List ℕ) (m : ℕ) → m ≤ length l → all_below q (take m l) ≡ true
    → (k n : ℕ) → k + n ≤ m → all_below q (take n (drop k l)) ≡ true
unfolding all_below
below-part q l m h e k n fits =
    all_take (λ x. ltb x q) 0 (drop k l) n (rw length-drop (omega arith))
    ∙ up-true _ n (λ i l'.
    ap (λ x. ltb x q) (get_or-drop k l i 0) ∙ up-each (λ j. ltb (get_or l j 0) q) m (sym (all_take (λ x. ltb x q) 0 l m h) ∙ e) (k + i) (omega arith))

-- row r's test
abbrev pub row_is_fit : Plan → List ℕ → List ℕ → ℕ → Bool
row_is_fit P marks symbols r = unmarked_below (size P.field) (marks_at P marks r) (row_at P symbols r)

module _ (P : Plan) (marks symbols : List ℕ) (long : P.rows * P.columns ≤ length symbols) where
  pub symbols-below : all_below (size P.field) (take (P.rows * P.columns) symbols) ≡ true → symbols_fit P marks symbols ≡ true
  unfolding symbols_fit row_at
  symbols-below e =
      up-true (row_is_fit P marks symbols) P.rows (λ r h.
      is_true _ (unmarked-below P.field (marks_at P marks r) _
      (subst T (sym (below-part _ symbols (P.rows * P.columns) long e (r * P.columns) P.columns (row-end P.columns h))) tt)))

  -- the test as it is called
  pub row-test : {q r word : ℕ} {row : List ℕ} → q ≡ size P.field → word ≡ get_or (take P.rows marks) r 0 → Row P.rows P.columns symbols r row
      → unmarked_below q (bits_of (length row) word) row ≡ row_is_fit P marks symbols r
  unfolding marks_at row_at
  row-test {r = r} eq ew is = rw (eq, ew ∙ get_or-take P.rows marks r 0 is.more, is.long, is.is) refl

-- where some symbol is not below q there are columns
pub some-columns : {P : Plan} {f : Facts} → FactsOf P f → (q : ℕ) (symbols : List ℕ) → all_below q (take f.symbols symbols) ≡ false → 0 < f.columns
unfolding all all_below
some-columns {P} {f} is q symbols e = go f.columns (is.symbols ∙ ap (λ n. P.rows * n) (sym is.columns))
  where
    go : (n : ℕ) → f.symbols ≡ P.rows * n → 0 < n
    go zero none = let t : ◌≡◌ {A = Bool} true false = rw (none, mul-zero) at e in cc
    go (suc n) some = omega arith

-- ---- sums

-- row r's test
abbrev pub row_sums_fit : Plan → ℕ → List ℕ → ℕ → Bool
row_sums_fit P t sums r = all_below (size P.field) (sums_at P t sums r)

-- row r's sums end within the plan's
pub sums-end : (p t r : ℕ) → r < (plan_of p).rows → r * sum_room + length (checks_to (plan_of p) t) ≤ (plan_of p).rows * sum_room
sums-end p t r h = omega (arith, sums-most p t)

pub sums-below : (p t : ℕ) (sums : List ℕ) → (plan_of p).rows * sum_room ≤ length sums → all_below (size (plan_of p).field) sums ≡ true
    → sums_fit (plan_of p) t sums ≡ true
unfolding sums_fit sums_at
sums-below p t sums long e =
    up-true (row_sums_fit (plan_of p) t sums) (plan_of p).rows (λ r h.
    below-part _ sums (length sums) (le_refl _) (ap (all_below _) (take-length sums) ∙ e) (r * sum_room) (length (checks_to (plan_of p) t))
    (le_trans (sums-end p t r h) long))

-- row r's test as it is called, on the first of its places
pub sums-test : (p t : ℕ) (sums : List ℕ) {q count r : ℕ} {row : List ℕ} → q ≡ size (plan_of p).field → count ≡ length (checks_to (plan_of p) t)
    → Row (plan_of p).rows sum_room sums r row → all_below q (take count row) ≡ row_sums_fit (plan_of p) t sums r
unfolding sums_at
sums-test p t sums {r = r} eq en is =
    rw (eq, en, is.is) (ap (all_below (size (plan_of p).field)) (take-take (length (checks_to (plan_of p) t)) sum_room (drop (r * sum_room) sums) (sums-most p t)))

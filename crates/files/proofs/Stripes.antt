-- A stripe row by row, and its symbols with 0 under marks. Assumes nothing.
use mathlib.Core.Path.{◌≡◌, refl, sym, ap, ap₂, ◌∙◌, subst}
use mathlib.Core.Bool.{Bool, true, false, not}
use mathlib.Core.List.{List, [], ◌∷◌, flat_map}
use Prim.Native.Nat.{ℕ, zero, suc, ◌+◌, ◌*◌, ◌/◌, ◌%◌, ◌^◌, ◌<◌, ◌≤◌}
use native.Mathlib.Nat.{zero-mul, suc-mul, add_comm, add-zero, zero-add, not-suc-le-zero, le_of_suc-le-suc, le_of_eq, le_trans, mul-le-mul}
use native.Mathlib.Omega.{arith}
use lib.Dec.{T, lit<, eqb, ltb, nltb→le}
use lib.ListN.{length, get_or, take, drop}
use lib.Pow.{pow_mono}
use lib.Seq.{take_all, take_at, drop_at, drop-drop}
use Rattle.field.specs.Lists.{when◌then◌else◌, up_from}
use Rattle.field.specs.Field.{size, gf32, gf64}
use Rattle.field.proofs.Words.{◌&◌}
use Rattle.fills.specs.Lists.{first, rest, beside}
use Rattle.fills.specs.Marks.{bits_of}
use Rattle.fills.proofs.Choices.{Alike}
use Rattle.fills.proofs.Beside.{length-beside, beside-rows, beside-alike, length-beside-bits, beside-bits-at}
use Rattle.plans.specs.Plan.{Plan, binary_plan, plan1, plan2, plan3, plan4, plan5, plan_of, known, row_at, marks_at, marks_of, wide_marks, word_bytes}
use Rattle.plans.specs.Rooms.{row_room}
use Rattle.plans.specs.Refusal.{unmarked_below, symbols_fit}
use Rattle.words.specs.Words.{byte_range, bytes_of}
use Rattle.words.proofs.Bytes.{byte_power}
use Rattle.files.specs.File.{header_size, header_of, blanked}
use Rattle.files.specs.Parts.{Symbols}
use Rattle.plans.proofs.Chunks.{Row}
use Rattle.plans.proofs.Plans.{of-known, rows-most, columns-most}
use Rattle.plans.proofs.Flat.{flat-length}
use Rattle.plans.proofs.Rows.{marks-length}
use Rattle.plans.proofs.Refusals.{unmarked-alike}
use Rattle.steps.proofs.Fit.{symbols-fit, fit-symbols}

-- ---- the head and the size of a mark word

-- a number of a plan is a byte
pub known-below : (p : ℕ) → T (known p) → p < byte_range
unfolding up_from
known-below = of-known (λ p. p < byte_range) (omega arith & omega arith & omega arith & omega arith & omega arith & tt)

-- and it has columns
pub columns-pos : (p : ℕ) → T (known p) → 0 < (plan_of p).columns
unfolding up_from size gf32 gf64 binary_plan plan1 plan2 plan3 plan4 plan5 plan_of
columns-pos = of-known (λ p. 0 < (plan_of p).columns) (lit< tt & lit< tt & lit< tt & lit< tt & lit< tt & tt)

pub length-header : (p : ℕ) → length (header_of p) ≡ header_size
unfolding bytes_of header_of
length-header p = refl

module _ (p : ℕ) where
  abbrev P : Plan
  P = plan_of p

  -- a mark word has at most eight bytes, and a bit for each column
  pub word-bytes-most : word_bytes P ≤ 8
  unfolding when◌then◌else◌ word_bytes
  word-bytes-most = go (wide_marks P)
    where
      go : (b : Bool) → (when b then 8 else 4) ≤ 8
      go true = omega arith
      go false = omega arith

  -- the mark words have few bytes in all, as code that knows their size and the plan's rows counts them
  pub words-few : {s n : ℕ} → s ≡ word_bytes P → n ≡ P.rows → s * n ≤ 8 * row_room
  words-few size rows = le_trans (le_of_eq (ap₂ ◌*◌ size rows)) (mul-le-mul word-bytes-most (rows-most p))

  word_wide : P.columns ≤ 8 * word_bytes P
  unfolding when◌then◌else◌ wide_marks word_bytes
  word_wide = go (ltb 32 P.columns) refl
    where
      go : (b : Bool) → ltb 32 P.columns ≡ b → P.columns ≤ 8 * (when b then 8 else 4)
      go true e = omega (arith, columns-most p)
      go false e = omega (arith, nltb→le 32 P.columns (subst (λ b. T (not b)) (sym e) tt))

  pub word_fits : {x : ℕ} → x < 2 ^ P.columns → x < byte_range ^ word_bytes P
  word_fits h = le_trans h (le_trans (pow_mono word_wide) (le_of_eq (sym (byte_power (word_bytes P)))))

  -- byte 3 tells the wide words
  pub wide-byte : word_bytes P / 8 ≡ (when wide_marks P then 1 else 0)
  unfolding when◌then◌else◌ word_bytes
  wide-byte = go (wide_marks P)
    where
      go : (b : Bool) → (when b then 8 else 4) / 8 ≡ (when b then 1 else 0)
      go true = refl
      go false = refl

-- ---- 0 under marks

pub length-blanked : (ms : List Bool) (xs : List ℕ) → length (blanked ms xs) ≡ length ms
unfolding blanked
length-blanked ms xs = length-beside _ ms xs

-- the marks are a word's bits
module _ (word : ℕ) (row : List ℕ) where
  pub length-kept : length (blanked (bits_of (length row) word) row) ≡ length row
  unfolding blanked
  length-kept = length-beside-bits _ word row

  pub get_d_kept : (c : ℕ) → c < length row
      → (when eqb (word / 2 ^ c % 2) 1 then 0 else get_or row c 0) ≡ get_or (blanked (bits_of (length row) word) row) c 0
  unfolding blanked
  get_d_kept c h = beside-bits-at _ word row c 0 h

pub length-marks-of : (P : Plan) (marks : List ℕ) → length (marks_of P marks) ≡ P.rows * P.columns
unfolding marks_of
length-marks-of P marks = flat-length (marks_at P marks) P.columns 0 P.rows (λ r h. marks-length P marks r)

-- row r, 0 under its marks
abbrev pub row_blanked : Plan → (marks stripe : List ℕ) → ℕ → List ℕ
row_blanked P marks stripe r = blanked (marks_at P marks r) (row_at P stripe r)

-- as code has the row and its word
pub blanked-turn : (P : Plan) (marks stripe : List ℕ) {r word : ℕ} {row : List ℕ} → Row P.rows P.columns stripe r row → word ≡ get_or marks r 0
    → blanked (bits_of (length row) word) row ≡ row_blanked P marks stripe r
unfolding marks_at row_at
blanked-turn P marks stripe is e = rw (e, is.long, is.is) refl

-- a plan's symbols are the rows', none behind them
pub all-symbols : {p : ℕ} {symbols marks : List ℕ} → Symbols p symbols marks → symbols ≡ take ((plan_of p).rows * (plan_of p).columns) symbols
all-symbols {symbols = symbols} s = sym (take_all _ symbols (le_of_eq s.long))

-- a stripe is blanked row by row
pub blanked-rows : (P : Plan) (marks stripe : List ℕ) → blanked (marks_of P marks) stripe ≡ flat_map (row_blanked P marks stripe) (up_from 0 P.rows)
unfolding marks_of row_at blanked
blanked-rows P marks stripe =
    ap (λ i. blanked (marks_of P marks) (drop i stripe)) (sym (zero-mul P.columns))
    ∙ beside-rows _ P.columns (marks_at P marks) (marks-length P marks) stripe 0 P.rows

-- blanked symbols are the same where unmarked
alike-blanked : (ms : List Bool) (xs : List ℕ) → Alike ms (blanked ms xs) xs
unfolding when◌then◌else◌ first rest beside blanked
alike-blanked [] xs = tt
alike-blanked (true ∷ ms) xs = alike-blanked ms (rest xs)
alike-blanked (false ∷ ms) xs = (refl, alike-blanked ms (rest xs))

pub blanked-twice : (ms : List Bool) (xs : List ℕ) → blanked ms (blanked ms xs) ≡ blanked ms xs
unfolding when◌then◌else◌ blanked
blanked-twice ms xs = beside-alike _ (λ x y. refl) ms (blanked ms xs) xs (alike-blanked ms xs)

-- a row of lists that are as long as the columns
row-flat : (P : Plan) (f : ℕ → List ℕ) → ((i : ℕ) → length (f i) ≡ P.columns) → (k n r : ℕ) → r < n → row_at P (flat_map f (up_from k n)) r ≡ f (k + r)
unfolding flat_map up_from row_at
row-flat P f long k zero r h = absurd (not-suc-le-zero h)
row-flat P f long k (suc n) zero h = rw (zero-mul, add-zero) (take_at (f k) _ P.columns (long k))
row-flat P f long k (suc n) (suc r) h =
    let N = P.columns in
    let next : suc k + r ≡ k + suc r = omega arith in
    rw (suc-mul, add_comm (r * N) N, ← drop-drop (r * N) N, drop_at (f k) _ N (long k)) (row-flat P f long (suc k) n r (le_of_suc-le-suc h) ∙ ap f next)

-- a row of the blanked stripe
pub row-blanked : (P : Plan) (marks stripe : List ℕ) (r : ℕ) → r < P.rows
    → row_at P (blanked (marks_of P marks) stripe) r ≡ blanked (marks_at P marks r) (row_at P stripe r)
row-blanked P marks stripe r h =
    ap (λ l. row_at P l r) (blanked-rows P marks stripe)
    ∙ row-flat P (λ r. blanked (marks_at P marks r) (row_at P stripe r))
    (λ i. length-blanked (marks_at P marks i) (row_at P stripe i) ∙ marks-length P marks i) 0 P.rows r h
    ∙ ap (λ r. blanked (marks_at P marks r) (row_at P stripe r)) (zero-add r)

-- what stands under marks is not looked at
pub fit-blanked : (P : Plan) (marks stripe : List ℕ) → T (symbols_fit P marks stripe) → T (symbols_fit P marks (blanked (marks_of P marks) stripe))
fit-blanked P marks stripe t =
    fit-symbols P marks (blanked (marks_of P marks) stripe) (λ r h. subst T (sym (row r h)) (symbols-fit P marks stripe t r h))
  where
    below : List ℕ → ℕ → Bool
    below l r = unmarked_below (size P.field) (marks_at P marks r) (row_at P l r)

    row : (r : ℕ) → r < P.rows → below (blanked (marks_of P marks) stripe) r ≡ below stripe r
    row r h =
        ap (unmarked_below (size P.field) (marks_at P marks r)) (row-blanked P marks stripe r h)
        ∙ unmarked-alike (size P.field) (marks_at P marks r) _ (row_at P stripe r) (alike-blanked (marks_at P marks r) (row_at P stripe r))

-- The text's digits, values and rows, place by place. Assumes nothing.
use mathlib.Core.Path.{◌≡◌, refl, sym, ap, ap₂, ◌∙◌}
use mathlib.Core.Logic.{◌≢◌, ◌⊎◌, inl, inr}
use mathlib.Core.Bool.{Bool, true, false}
use mathlib.Core.List.{List, [], ◌∷◌, ◌++◌, map, flat_map, append_assoc, append-nil}
use Prim.Native.Nat.{ℕ, zero, suc, ◌+◌, ◌*◌, ◌/◌, ◌%◌, ◌^◌, ◌≤◌, ◌<◌, min}
use native.Mathlib.Nat.{add-zero, zero-mul, suc-mul, le_trans, mod-eq_of_lt}
use native.Mathlib.Numerals.{add-one}
use native.Mathlib.Omega.{arith}
use borrow.Author.Tests.{lt-ltb, le-ltb, le-leb, lt-leb}
use lib.Dec.{T, eqb, leb, ltb, leb→le, ltb→lt, lit<}
use lib.ListN.{length, take, drop, get_or, length-append, length-replicate}
use lib.Seq.{drop-cons, drop-drop, drop-length, drop_at, length-take-le, take_at}
use Rattle.field.specs.Lists.{when◌then◌else◌, up_from}
use Rattle.field.specs.Field.{size, gf2, gf16, gf32, gf64, gf256}
use Rattle.field.proofs.Test.{both_left, both_right}
use Rattle.field.proofs.Words.{◌&◌}
use Rattle.fills.specs.Lists.{all, first, rest, beside}
use Rattle.fills.specs.Marks.{bits_of}
use Rattle.fills.proofs.Beside.{drop-rest, first-drop}
use Rattle.plans.specs.Plan.{Plan, binary_plan, plan1, plan2, plan3, plan4, plan5, no_plan, plan_of, known, row_at, marks_at}
use Rattle.plans.specs.Refusal.{unmarked_below}
use Rattle.plans.specs.Answers.{place_values, end_values}
use Rattle.plans.specs.declared.Report.{Report}
use Rattle.plans.specs.declared.Place.{Place}
use Rattle.plans.specs.declared.Place.TheVariants.{Row, Across}
use Rattle.plans.proofs.Flat.{flat-length}
use Rattle.plans.proofs.Plans.{all-plans, of-known, shape}
use Rattle.words.specs.Written.{Put}
use Rattle.words.proofs.Writing.{put-length, put_then, put_is}
use Rattle.texts.specs.Text.{bytes, digits_in, decimal, hex, hexes, item, line_end, symbol_digits, symbol_text, shown, grid, captioned, end_text, place_text}
use Rattle.texts.specs.Parts.{grid_room, Digits, Grid}

-- ---- numbers below 100

pub one-digit : (n : ℕ) → n < 10 → decimal n ≡ (48 + n % 10) ∷ []
unfolding when◌then◌else◌ digits_in decimal
one-digit n h = rw (lt-ltb n 10 h)

pub two_digits : (n : ℕ) → 10 ≤ n → n < 100 → decimal n ≡ (48 + n / 10) ∷ (48 + n % 10) ∷ []
unfolding when◌then◌else◌ digits_in decimal
two_digits zero l h = absurd (omega arith)
two_digits (suc n) l h =
    rw (le-ltb (suc n) 10 l, lt-ltb (suc n / 10) 10 (omega arith)) (ap (λ d. (48 + d) ∷ (48 + suc n % 10) ∷ []) (omega arith))

-- ---- the place of a Clash

pub row-text : {place : Place} {row level : ℕ} → place ≡ Row row level
    → place_text place (place_values place) ≡ item " level " level ++ item " place row " row
unfolding place_values captioned place_text
row-text {row} {level} e =
    ap (λ p. place_text p (place_values p)) e ∙ ap (λ l. item " level " level ++ l) (append-nil (item " place row " row))

pub across-text : {place : Place} {level : ℕ} → place ≡ Across level
    → place_text place (place_values place) ≡ item " level " level ++ bytes " place across"
unfolding place_values captioned place_text
across-text {level} e =
    ap (λ p. place_text p (place_values p)) e ∙ ap (λ l. l ++ bytes " place across") (append-nil (item " level " level))

-- ---- Restored and Stuck

-- each count behind a space
spaced : (counts : List ℕ) → length counts ≤ 2 → captioned (" " ∷ " " ∷ []) counts ≡ flat_map (item " ") counts
unfolding flat_map captioned
spaced [] h = refl
spaced (x ∷ []) h = refl
spaced (x ∷ y ∷ []) h = refl
spaced (x ∷ y ∷ z ∷ counts) h = absurd (omega arith)

counts-text : (level left : ℕ) (counts : List ℕ) → 0 < length counts → length counts ≤ 3
    → end_text (level ∷ left ∷ counts) ≡ item " level " level ++ item " left " left ++ bytes " rows" ++ flat_map (item " ") counts
unfolding bytes item flat_map captioned end_text
counts-text level left [] l h = absurd (omega arith)
counts-text level left (x ∷ counts) l h =
    ap (λ c. item " level " level ++ (item " left " left ++ (item " rows " x ++ c))) (spaced counts (omega arith))
    ∙ sym (append_assoc (item " level " level ++ item " left " left) (bytes " rows") (flat_map (item " ") (x ∷ counts))
    ∙ append_assoc (item " level " level) (item " left " left) (bytes " rows" ++ flat_map (item " ") (x ∷ counts)))

pub end-text : (p : ℕ) → T (known p) → (r : Report) → length r.rows ≡ 3
    → end_text (end_values (plan_of p) r)
    ≡ item " level " r.level ++ item " left " r.left ++ bytes " rows" ++ flat_map (item " ") (take (length (plan_of p).levels) r.rows)
unfolding end_values
end-text p k r three =
    let fits = shape p k in
    let long = length-take-le (length (plan_of p).levels) r.rows (omega (arith, fits.levels-le)) in
    counts-text r.level r.left (take (length (plan_of p).levels) r.rows) (omega (arith, long, fits.levels-pos)) (omega (arith, long, fits.levels-le))

-- ---- symbols

module _ (P : Plan) where
  pub one-digit-symbols : size P.field ≤ 16 → symbol_digits P ≡ 1
  unfolding when◌then◌else◌ symbol_digits
  one-digit-symbols h = rw (le-leb (size P.field) 16 h)

  pub two-digit-symbols : 16 < size P.field → symbol_digits P ≡ 2
  unfolding when◌then◌else◌ symbol_digits
  two-digit-symbols h = rw (lt-leb (size P.field) 16 h)

  pub plan-digits : Digits (symbol_digits P)
  unfolding when◌then◌else◌ symbol_digits
  plan-digits = go (leb (size P.field) 16)
    where
      go : (b : Bool) → Digits (when b then 1 else 2)
      go true = record { some = omega arith; few = omega arith }
      go false = record { some = omega arith; few = omega arith }

length-hexes : (n x : ℕ) → length (hexes n x) ≡ n
unfolding hexes
length-hexes zero x = refl
length-hexes (suc n) x = length-append (hexes n (x / 16)) (hex (x % 16) ∷ []) ∙ omega (arith, length-hexes n (x / 16))

pub length-symbol : (n : ℕ) (m : Bool) (x : ℕ) → length (symbol_text n m x) ≡ n
unfolding when◌then◌else◌ symbol_text
length-symbol n true x = length-replicate {A = ℕ} n 63
length-symbol n false x = length-hexes n x

-- what is shown for the low digit of x
abbrev digit_text : Bool → ℕ → ℕ
digit_text m x = when m then 63 else hex (x % 16)

-- a symbol of one digit, and of two
module _ {n : ℕ} (m : Bool) (x : ℕ) where
  pub one-shown : {low : ℕ} → n ≡ 1 → low ≡ digit_text m x → symbol_text n m x ≡ low ∷ []
  unfolding when◌then◌else◌ hexes symbol_text
  one-shown one l = rw (one, l) (go m)
    where
      go : (m : Bool) → symbol_text 1 m x ≡ digit_text m x ∷ []
      go true = refl
      go false = refl

  pub two-shown : {high low : ℕ} → Digits n → n ≢ 1 → high ≡ digit_text m (x / 16) → low ≡ digit_text m x → symbol_text n m x ≡ high ∷ low ∷ []
  unfolding when◌then◌else◌ hexes symbol_text
  two-shown d more h l = let two : n ≡ 2 = omega (arith, d.some, d.few) in rw (two, h, l) (go m)
    where
      go : (m : Bool) → symbol_text 2 m x ≡ digit_text m (x / 16) ∷ digit_text m x ∷ []
      go true = refl
      go false = refl

-- ---- a digit a symbol, as it is in every field of up to 16

pub one-hex : (x : ℕ) → x < 16 → hexes 1 x ≡ hex x ∷ []
unfolding hexes
one-hex x l = ap (λ y. hex y ∷ []) (mod-eq_of_lt l)

-- a row of such symbols has a character for each
pub row-by-digits : (q : ℕ) → q ≤ 16 → (ms : List Bool) (xs : List ℕ) → T (unmarked_below q ms xs)
    → shown 1 ms xs ≡ beside (λ m x. when m then 63 else hex x) ms xs
unfolding when◌then◌else◌ all beside flat_map unmarked_below symbol_text shown
row-by-digits q h [] xs t = refl
row-by-digits q h (true ∷ ms) xs t = ap (λ l. 63 ∷ l) (row-by-digits q h ms (rest xs) t)
row-by-digits q h (false ∷ ms) xs t =
    let low = ltb (first xs) q in
    let more = unmarked_below q ms (rest xs) in
    ap₂ ◌++◌ (one-hex (first xs) (le_trans (ltb→lt (first xs) q (both_left low more t)) h)) (row-by-digits q h ms (rest xs) (both_right low more t))

-- ---- rows

-- lists for marks and symbols, one behind the other, place by place
flat-beside : (g : Bool → ℕ → List ℕ) (m : ℕ → Bool) (xs : List ℕ) (k n : ℕ)
    → flat_map (λ l. l) (beside g (map m (up_from k n)) (drop k xs)) ≡ flat_map (λ c. g (m c) (get_or xs c 0)) (up_from k n)
unfolding up_from flat_map beside
flat-beside g m xs k zero = refl
flat-beside g m xs k (suc n) =
    ap₂ (λ x l. g (m k) x ++ flat_map (λ l. l) (beside g (map m (up_from (suc k) n)) l))
    (first-drop k xs) (sym (drop-rest 0 (drop k xs)) ∙ drop-drop 1 k xs ∙ ap (λ i. drop i xs) (add-one k))
    ∙ ap (λ l. g (m k) (get_or xs k 0) ++ l) (flat-beside g m xs (suc k) n)

-- the symbols of a row under a mark word
module _ (n word : ℕ) (row : List ℕ) where
  abbrev pub symbol_at : ℕ → List ℕ
  symbol_at c = symbol_text n (eqb (word / 2 ^ c % 2) 1) (get_or row c 0)

  pub row-shown : shown n (bits_of (length row) word) row ≡ flat_map symbol_at (up_from 0 (length row))
  unfolding bits_of shown
  row-shown = flat-beside (symbol_text n) (λ c. eqb (word / 2 ^ c % 2) 1) row 0 (length row)

  -- and a line feed
  pub length-line : (k : ℕ) → length row ≡ k → length (shown n (bits_of k word) row ++ line_end) ≡ k * n + 1
  unfolding line_end
  length-line k wide =
      rw (← wide)
      (length-append (shown n (bits_of (length row) word) row) line_end
      ∙ ap (λ k. k + 1) (ap length row-shown ∙ flat-length symbol_at n 0 (length row) (λ c l. length-symbol n _ (get_or row c 0))))

-- ---- all rows, of k columns each, their symbols of n digits

module _ (n k : ℕ) where
  -- a line for each mark word
  unfoldable pub lines : (stripe marks : List ℕ) → List ℕ
  lines stripe [] = []
  lines stripe (word ∷ marks) = (shown n (bits_of k word) (take k stripe) ++ line_end) ++ lines (drop k stripe) marks

  abbrev line_of : (stripe marks : List ℕ) → ℕ → List ℕ
  line_of stripe marks r = shown n (bits_of k (get_or marks r 0)) (take k (drop (r * k) stripe)) ++ line_end

  lines-from : (stripe marks : List ℕ) (r m : ℕ) → r + m ≡ length marks
      → flat_map (line_of stripe marks) (up_from r m) ≡ lines (drop (r * k) stripe) (drop r marks)
  unfolding up_from flat_map lines
  lines-from stripe marks r zero e = ap (lines (drop (r * k) stripe)) (sym (drop-length marks) ∙ ap (λ n. drop n marks) (omega arith))
  lines-from stripe marks r (suc m) e =
      ap (λ l. line_of stripe marks r ++ l)
      (lines-from stripe marks (suc r) m (omega arith)
      ∙ ap (λ l. lines l (drop (suc r) marks)) (ap (λ i. drop i stripe) (omega (arith, suc-mul r k)) ∙ sym (drop-drop k (r * k) stripe)))
      ∙ ap (lines (drop (r * k) stripe)) (sym (drop-cons marks r 0 (omega arith)))

  -- what is written from `at` on up to `next` and what is still to be written make it whole, and have room
  pub record Printing (old : List ℕ) (at : ℕ) (all stripe marks out : List ℕ) (next : ℕ) : Type 0 where
    pub done : List ℕ
    pub put : Put old at done next out
    pub paired : length stripe ≡ length marks * k
    pub whole : done ++ lines stripe marks ≡ all
    pub room : next + length marks * (k * n + 1) ≤ length out

  module _ {old all stripe marks out more : List ℕ} {at next word : ℕ} (p : Printing old at all stripe marks out next) (e : marks ≡ word ∷ more) where
    -- the first of the rows that are left
    pub row-long : (row : List ℕ) → length row ≡ min k (length stripe) → length row ≡ k
    row-long row wide = omega (arith, wide, p.paired, ap (λ l. length l * k) e, suc-mul (length more) k)

    pub row-room : (row : List ℕ) → length row ≡ k → next + length row * n + 1 ≤ length out
    row-room row wide =
        omega (arith, ap (λ i. i * n) wide, p.room, ap (λ l. length l * (k * n + 1)) e, suc-mul (length more) (k * n + 1))

    pub printing-turns : {out' left : List ℕ} {next' : ℕ} (row : List ℕ) → stripe ≡ row ++ left → length row ≡ k
        → Put out next (shown n (bits_of (length row) word) row ++ line_end) next' out' → Printing old at all left more out' next'
    unfolding lines
    printing-turns {left = left} row f wide g =
        let line = shown n (bits_of k word) row ++ line_end in
        let here = put_is (ap (λ i. shown n (bits_of i word) row ++ line_end) (sym wide)) g in
        record {
          done = p.done ++ line;
          put = put_then p.put here;
          paired = omega (arith, ap length f, length-append row left, wide, p.paired, ap (λ l. length l * k) e, suc-mul (length more) k);
          whole =
              append_assoc p.done line (lines left more)
              ∙ ap (λ l. p.done ++ l) (ap₂ (λ a b. (shown n (bits_of k word) a ++ line_end) ++ lines b more)
              (sym (take_at row left k wide) ∙ ap (take k) (sym f)) (sym (drop_at row left k wide) ∙ ap (drop k) (sym f))
              ∙ ap (lines stripe) (sym e))
              ∙ p.whole;
          room =
              omega (arith, here.reached, put-length here, length-line n word row k wide, p.room, ap (λ l. length l * (k * n + 1)) e, suc-mul (length more) (k * n + 1));
        }

  module _ {old all stripe marks out : List ℕ} {at next : ℕ} (p : Printing old at all stripe marks out next) where
    -- no symbols are left where no mark words are, and none of these where no symbols are
    pub none-left : 0 < k → (length stripe ≡ 0) ⊎ (length marks ≡ 0) → length marks ≡ 0
    none-left h (inr e) = e
    none-left h (inl e) = go marks p.paired
      where
        go : (marks : List ℕ) → length stripe ≡ length marks * k → length marks ≡ 0
        go [] f = refl
        go (word ∷ more) f = absurd (omega (arith, e, f, suc-mul (length more) k))

    pub printing-ends : length marks ≡ 0 → Put old at all next out
    unfolding lines
    printing-ends e = put_is (go marks e p.whole) p.put
      where
        go : (marks : List ℕ) → length marks ≡ 0 → p.done ++ lines stripe marks ≡ all → all ≡ p.done
        go [] e f = sym f ∙ append-nil p.done
        go (word ∷ more) e f = absurd (omega arith)

module _ (P : Plan) (stripe marks : List ℕ) where
  pub grid-lines : length marks ≡ P.rows → grid P stripe marks ≡ lines (symbol_digits P) P.columns stripe marks
  unfolding grid row_at marks_at
  grid-lines e = ap (λ n. flat_map (line_of (symbol_digits P) P.columns stripe marks) (up_from 0 n)) (sym e)
      ∙ lines-from (symbol_digits P) P.columns stripe marks 0 (length marks) (omega arith)
      ∙ ap (λ i. lines (symbol_digits P) P.columns (drop i stripe) marks) (zero-mul P.columns)

-- there is room for all lines
abbrev pub line_size : Plan → ℕ
line_size P = P.columns * symbol_digits P + 1

pub lines-room : (p : ℕ) → (plan_of p).rows * line_size (plan_of p) ≤ grid_room
lines-room p =
    unfold when◌then◌else◌ size gf2 gf16 gf32 gf64 gf256 all binary_plan plan1 plan2 plan3 plan4 plan5 no_plan symbol_digits in
    leb→le _ grid_room (all-plans (λ P. leb (P.rows * line_size P) grid_room) tt p)

-- each has symbols
pub columns-pos : (p : ℕ) → T (known p) → 0 < (plan_of p).columns
unfolding up_from size gf32 gf64 binary_plan plan1 plan2 plan3 plan4 plan5 plan_of
columns-pos = of-known (λ p. 0 < (plan_of p).columns) (lit< tt & lit< tt & lit< tt & lit< tt & lit< tt & tt)

-- before the first line
pub printing-starts : {p : ℕ} {stripe marks out : List ℕ} {at : ℕ} {s m : List ℕ} → Grid p stripe marks out at → s ≡ stripe → m ≡ marks
    → Printing (symbol_digits (plan_of p)) (plan_of p).columns out at (grid (plan_of p) stripe marks) s m out at
printing-starts {p} {stripe} {marks} {out} {at} ask e f =
    let P = plan_of p in
    let words = ask.sized.words in
    rw (e, f) record {
      done = [];
      put = record { reached = sym (add-zero at); inside = omega (arith, ask.room); written = refl };
      paired = ask.sized.long ∙ ap (λ n. n * P.columns) (sym words);
      whole = sym (grid-lines P stripe marks words);
      room = omega (arith, ap (λ n. n * line_size P) words, lines-room p, ask.room);
    }

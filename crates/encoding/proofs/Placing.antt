-- Loops that place data and take it, turn by turn: the marks of turn k stand behind those of the turns before it. Assumes nothing.
use mathlib.Core.Path.{◌≡◌, refl, sym, ap, ap₂, ◌∙◌}
use mathlib.Core.Bool.{Bool, true, false}
use mathlib.Core.List.{List, [], ◌∷◌, ◌++◌, map, flat_map, append-nil}
use Prim.Native.Nat.{ℕ, zero, suc, ◌+◌, ◌*◌, ◌-◌, ◌≤◌, ◌<◌}
use native.Mathlib.Nat.{add-zero, zero-add, add-suc, suc-add, le_of_eq}
use native.Mathlib.Omega.{arith}
use lib.Dec.{eqb}
use lib.ListN.{length, take, drop, get_or, set, length-drop, drop_of_length-le}
use lib.Seq.{sets, length-sets}
use Rattle.field.specs.Lists.{when◌then◌else◌, up_from}
use Rattle.fills.specs.Lists.{only, beside}
use Rattle.field.specs.declared.Gf.{Gf}
use Rattle.equations.specs.Words.{bit_at}
use Rattle.fills.specs.Marks.{bits_of}
use Rattle.fills.proofs.Marked.{length-bits}
use Rattle.fills.proofs.Beside.{first-drop}
use Rattle.plans.specs.Plan.{Plan, plan_of, marks_at, marks_of}
use Rattle.encoding.specs.Asked.{RowFits}
use Rattle.encoding.specs.Data.{placed, taken}
use Rattle.plans.specs.Tables.{unmarked}
use Rattle.plans.proofs.Rows.{marks-length}
use Rattle.words.proofs.Stores.{sets-append, sets-whole, sets_behind, flat_append}
use Rattle.plans.proofs.Flat.{flat-length}
use Rattle.plans.proofs.Plans.{columns-most}
use Rattle.plans.proofs.Parts.{part, part_of, part_length, rest_of, part-back}
use Rattle.tables.proofs.Numbers.{Numbers, row_within}
use Rattle.encoding.proofs.Data.{placed-length, taken-length, unmarked-append, placed-append, taken-append, taken-front}

-- ---- the marks of the turns

up-append : (k m n : ℕ) → up_from k (m + n) ≡ up_from k m ++ up_from (k + m) n
unfolding up_from
up-append k zero n = ap₂ up_from (sym (add-zero k)) (zero-add n)
up-append k (suc m) n =
    ap (up_from k) (suc-add m n) ∙ ap (λ l. k ∷ l) (up-append (suc k) m n ∙ ap (λ j. up_from (suc k) m ++ up_from j n) (suc-add k m ∙ sym (add-suc k m)))

module _ (f : ℕ → List Bool) where
  -- those of the first k turns
  abbrev pub marks_to : ℕ → List Bool
  marks_to k = flat_map f (up_from 0 k)

  marks-more : (k m : ℕ) → marks_to (k + m) ≡ marks_to k ++ flat_map f (up_from k m)
  marks-more k m =
      ap (flat_map f) (up-append 0 k m ∙ ap (λ j. up_from 0 k ++ up_from j m) (zero-add k)) ∙ flat_append f (up_from 0 k) (up_from k m)

  marks-next : (k : ℕ) → marks_to (k + 1) ≡ marks_to k ++ f k
  unfolding up_from flat_map
  marks-next k = marks-more k 1 ∙ ap (λ l. marks_to k ++ l) (append-nil (f k))

  unmarked-next : (k : ℕ) → unmarked (marks_to (k + 1)) ≡ unmarked (marks_to k) + unmarked (f k)
  unmarked-next k = ap unmarked (marks-next k) ∙ unmarked-append (marks_to k) (f k)

  -- turn k's data are among all
  pub unmarked-within : {k n : ℕ} → k < n → unmarked (marks_to k) + unmarked (f k) ≤ unmarked (marks_to n)
  unmarked-within {k} {n} h =
      let e : k + 1 + (n - (k + 1)) ≡ n = omega arith in
      omega (
        arith,
        unmarked-next k,
        ap (λ m. unmarked (marks_to m)) (sym e) ∙ ap unmarked (marks-more (k + 1) (n - (k + 1)))
            ∙ unmarked-append (marks_to (k + 1)) (flat_map f (up_from (k + 1) (n - (k + 1)))),
      )

-- ---- data are placed

-- k turns placed the first `next` of the data over the front of `old`
pub record Placing (f : ℕ → List Bool) (ds old : List ℕ) (k next : ℕ) (s : List ℕ) : Type 0 where
  pub count : next ≡ unmarked (marks_to f k)
  pub done : s ≡ sets old 0 (placed (marks_to f k) ds)

module _ {f : ℕ → List Bool} {ds old : List ℕ} where
  pub placing-starts : Placing f ds old 0 0 old
  unfolding up_from flat_map only placed
  placing-starts = record { count = refl; done = refl }

  module _ {k next : ℕ} {s : List ℕ} (p : Placing f ds old k next s) where
    pub placing-turns : {n : ℕ} {t : List ℕ} → n ≡ next + unmarked (f k) → t ≡ sets s (length (marks_to f k)) (placed (f k) (drop next ds))
        → Placing f ds old (k + 1) n t
    placing-turns en et =
        let ms = marks_to f k in
        record {
          count = en ∙ ap (λ n. n + unmarked (f k)) p.count ∙ sym (unmarked-next f k);
          done =
              et ∙ ap₂ (λ l n. sets l (length ms) (placed (f k) (drop n ds))) p.done p.count
              ∙ ap (λ i. sets (sets old 0 (placed ms ds)) i (placed (f k) (drop (unmarked ms) ds))) (sym (placed-length ms ds) ∙ sym (zero-add _))
              ∙ sym (sets-append (placed ms ds) (placed (f k) (drop (unmarked ms) ds)) old 0)
              ∙ ap (sets old 0) (sym (placed-append ms (f k) ds) ∙ ap (λ l. placed l ds) (sym (marks-next f k)));
        }

    pub placing-ends : length old ≡ length (marks_to f k) → s ≡ placed (marks_to f k) ds
    placing-ends e = p.done ∙ sets-whole (placed (marks_to f k) ds) old (placed-length (marks_to f k) ds ∙ sym e)

    pub placing-length : length s ≡ length old
    placing-length = ap length p.done ∙ length-sets old 0 (placed (marks_to f k) ds)

-- ---- data are taken

-- k turns took the first `next` of the data, over the front of `old`
pub record Taking (f : ℕ → List Bool) (xs old : List ℕ) (k next : ℕ) (s : List ℕ) : Type 0 where
  pub count : next ≡ unmarked (marks_to f k)
  pub done : s ≡ sets old 0 (taken (marks_to f k) xs)

module _ {f : ℕ → List Bool} {xs old : List ℕ} where
  pub taking-starts : Taking f xs old 0 0 old
  unfolding up_from flat_map only beside taken
  taking-starts = record { count = refl; done = refl }

  pub taking-length : {k next : ℕ} {s : List ℕ} → Taking f xs old k next s → length s ≡ length old
  taking-length {k} t = ap length t.done ∙ length-sets old 0 (taken (marks_to f k) xs)

  module _ {k next : ℕ} {s : List ℕ} (t : Taking f xs old k next s) where
    pub taking-turns : {n : ℕ} {u : List ℕ} → n ≡ next + unmarked (f k) → u ≡ sets s next (taken (f k) (drop (length (marks_to f k)) xs))
        → Taking f xs old (k + 1) n u
    taking-turns en eu =
        let ms = marks_to f k in
        record {
          count = en ∙ ap (λ n. n + unmarked (f k)) t.count ∙ sym (unmarked-next f k);
          done =
              eu ∙ ap (λ l. sets l next (taken (f k) (drop (length ms) xs))) t.done
              ∙ ap (λ i. sets (sets old 0 (taken ms xs)) i (taken (f k) (drop (length ms) xs)))
              (t.count ∙ sym (taken-length ms xs) ∙ sym (zero-add _))
              ∙ sym (sets-append (taken ms xs) (taken (f k) (drop (length ms) xs)) old 0)
              ∙ ap (sets old 0) (sym (taken-append ms (f k) xs) ∙ ap (λ l. taken l xs) (sym (marks-next f k)));
        }

    pub taking-ends : length old ≡ unmarked (marks_to f k) → s ≡ taken (marks_to f k) xs
    taking-ends e = t.done ∙ sets-whole (taken (marks_to f k) xs) old (taken-length (marks_to f k) xs ∙ sym e)

-- ---- a turn for each column of a row

abbrev pub bit_of : ℕ → ℕ → List Bool
bit_of w c = eqb (bit_at w c) 1 ∷ []

map-flat : {A B : Type 0} (g : A → B) (l : List A) → map g l ≡ flat_map (λ x. g x ∷ []) l
unfolding flat_map
map-flat g [] = refl
map-flat g (x ∷ l) = ap (λ k. g x ∷ k) (map-flat g l)

pub bits-to : (w n : ℕ) → marks_to (bit_of w) n ≡ bits_of n w
unfolding bits_of
bits-to w n = sym (map-flat (λ c. eqb (bit_at w c) 1) (up_from 0 n))

pub bits-length : (w n : ℕ) → length (marks_to (bit_of w) n) ≡ n
bits-length w n = ap length (bits-to w n) ∙ length-bits n w

module _ (w c : ℕ) where
  -- there is room for the data of column c
  pub bit-within : {n m next : ℕ} → eqb (bit_at w c) 1 ≡ false → c < n → unmarked (bits_of n w) ≤ m → next ≡ unmarked (marks_to (bit_of w) c) → next < m
  unfolding when◌then◌else◌ only
  bit-within {n} z h room e =
      let one : 1 ≡ unmarked (bit_of w c) = ap (λ b. unmarked (b ∷ [])) (sym z) in
      omega (arith, unmarked-within (bit_of w) h, ap unmarked (bits-to w n))

  module _ {ds old s : List ℕ} {next : ℕ} (p : Placing (bit_of w) ds old c next s) where
    pub place-data : eqb (bit_at w c) 1 ≡ false → Placing (bit_of w) ds old (c + 1) (next + 1) (set s c (get_or ds next 0))
    unfolding when◌then◌else◌ only placed
    place-data z =
        placing-turns p (ap (λ b. next + unmarked (b ∷ [])) (sym z))
        (ap (set s c) (sym (first-drop next ds)) ∙ ap₂ (λ i b. sets s i (placed (b ∷ []) (drop next ds))) (sym (bits-length w c)) (sym z))

    pub place_none : eqb (bit_at w c) 1 ≡ true → Placing (bit_of w) ds old (c + 1) next (set s c 0)
    unfolding when◌then◌else◌ only placed
    place_none nz =
        placing-turns p (sym (add-zero next) ∙ ap (λ b. next + unmarked (b ∷ [])) (sym nz))
        (ap₂ (λ i b. sets s i (placed (b ∷ []) (drop next ds))) (sym (bits-length w c)) (sym nz))

    pub row-placed : c ≡ length old → (next ≡ unmarked (bits_of (length old) w)) × (s ≡ placed (bits_of (length old) w) ds)
    row-placed e =
        let all : marks_to (bit_of w) c ≡ bits_of (length old) w = bits-to w c ∙ ap (λ n. bits_of n w) e in
        (p.count ∙ ap unmarked all, placing-ends p (sym (bits-length w c ∙ e)) ∙ ap (λ ms. placed ms ds) all)

  module _ {xs old s : List ℕ} {next : ℕ} (t : Taking (bit_of w) xs old c next s) where
    pub take-symbol : eqb (bit_at w c) 1 ≡ false → Taking (bit_of w) xs old (c + 1) (next + 1) (set s next (get_or xs c 0))
    unfolding when◌then◌else◌ only flat_map beside taken
    take-symbol z =
        taking-turns t (ap (λ b. next + unmarked (b ∷ [])) (sym z))
        (ap (set s next) (sym (first-drop c xs)) ∙ ap₂ (λ i b. sets s next (taken (b ∷ []) (drop i xs))) (sym (bits-length w c)) (sym z))

    pub take_none : eqb (bit_at w c) 1 ≡ true → Taking (bit_of w) xs old (c + 1) next s
    unfolding when◌then◌else◌ only flat_map beside taken
    take_none nz =
        taking-turns t (sym (add-zero next) ∙ ap (λ b. next + unmarked (b ∷ [])) (sym nz))
        (ap₂ (λ i b. sets s next (taken (b ∷ []) (drop i xs))) (sym (bits-length w c)) (sym nz))

    pub row-taken : c ≡ length xs → (next ≡ unmarked (bits_of (length xs) w)) × (s ≡ sets old 0 (taken (bits_of (length xs) w) xs))
    row-taken e =
        let all : marks_to (bit_of w) c ≡ bits_of (length xs) w = bits-to w c ∙ ap (λ n. bits_of n w) e in
        (t.count ∙ ap unmarked all, t.done ∙ ap (λ ms. sets old 0 (taken ms xs)) all)

-- ---- a turn for each row

module _ (P : Plan) (words : List ℕ) where
  pub rows-length : (r : ℕ) → length (marks_to (marks_at P words) r) ≡ r * P.columns
  rows-length r = flat-length (marks_at P words) P.columns 0 r (λ r l. marks-length P words r)

  pub rows-placed : {ds old s : List ℕ} {r next : ℕ} → r ≡ P.rows → length old ≡ P.rows * P.columns
      → Placing (marks_at P words) ds old r next s → s ≡ placed (marks_of P words) ds
  unfolding marks_of
  rows-placed {ds} {r = r} e long p =
      placing-ends p (long ∙ ap (λ n. n * P.columns) (sym e) ∙ sym (rows-length r)) ∙ ap (λ n. placed (marks_to (marks_at P words) n) ds) e

  pub rows_taken : {xs old s : List ℕ} {r next : ℕ} → r ≡ P.rows → length old ≡ unmarked (marks_of P words)
      → Taking (marks_at P words) xs old r next s → s ≡ taken (marks_of P words) xs
  unfolding marks_of
  rows_taken {xs} {r = r} e room t =
      taking-ends t (room ∙ ap (λ n. unmarked (marks_to (marks_at P words) n)) (sym e)) ∙ ap (λ n. taken (marks_to (marks_at P words) n) xs) e

-- what a turn at row r of the stripe `xs` knows, the next data being from `next` on among `ds`: the row stands in the stripe and its data among
-- all, and both can be lent
pub record AtRow (words xs ds : List ℕ) (n r next : ℕ) : Type 0 where
  pub ends : r * n + n ≤ length xs
  pub room : next + unmarked (bits_of (length (part (r * n) n xs)) (get_or words r 0)) ≤ length ds
  pub lent : RowFits (get_or words r 0) (part (r * n) n xs) (take (length ds - next) (drop next ds))

module _ {p : ℕ} {q : Gf} {rows n : ℕ} (is : Numbers p q rows n) (words xs : List ℕ) (high : length words ≡ (plan_of p).rows)
    (long : length xs ≡ (plan_of p).rows * (plan_of p).columns) {r : ℕ} (more : r < length words) where
  abbrev P : Plan
  P = plan_of p

  abbrev row : List ℕ
  row = part (r * n) n xs

  row_ends : r * n + n ≤ length xs
  row_ends = row_within is (le_of_eq (sym long)) (omega (arith, is.high))

  row-wide : length row ≡ P.columns
  row-wide = part_length (r * n) n xs row_ends ∙ is.wide

  its-marks : bits_of (length row) (get_or words r 0) ≡ marks_at P words r
  unfolding marks_at
  its-marks = ap (λ k. bits_of k (get_or words r 0)) row-wide

  pub at_row : (ds : List ℕ) → length ds ≡ unmarked (marks_of P words) → {next : ℕ} → next ≡ unmarked (marks_to (marks_at P words) r)
      → AtRow words xs ds n r next
  unfolding marks_of
  at_row ds all {next} count =
      let h : r < P.rows = rw high at more in
      let room : next + unmarked (bits_of (length row) (get_or words r 0)) ≤ length ds =
      omega (arith, unmarked-within (marks_at P words) h, ap unmarked its-marks) in
      record {
        ends = row_ends;
        room = room;
        lent = record { narrow = omega (arith, row-wide, columns-most p); room = rw (rest_of next ds, length-drop) (omega arith) };
      }

  pub row-turns : {ds old : List ℕ} {next m : ℕ} {v : List ℕ} → Placing (marks_at P words) ds old r next xs
      → m ≡ unmarked (bits_of (length row) (get_or words r 0))
      → v ≡ placed (bits_of (length row) (get_or words r 0)) (take (length ds - next) (drop next ds))
      → Placing (marks_at P words) ds old (r + 1) (next + m) (take (r * n) xs ++ (v ++ drop (r * n + n - r * n) (drop (r * n) xs)))
  row-turns {ds} {old} {next} {m} {v} p em ev =
      let is-placed : v ≡ placed (marks_at P words r) (drop next ds) = ev ∙ ap₂ placed its-marks (rest_of next ds) in
      let wide : length v ≡ P.columns = ap length is-placed ∙ placed-length (marks_at P words r) (drop next ds) ∙ marks-length P words r in
      placing-turns p (ap (λ k. next + k) (em ∙ ap unmarked its-marks))
      (part-back (r * n) (r * n + n - r * n) xs v (omega (arith, row_ends)) (omega (arith, wide, is.wide))
      ∙ ap₂ (sets xs) (ap (λ k. r * k) is.wide ∙ sym (rows-length P words r)) is-placed)

  pub row-takes : {old s : List ℕ} {next m : ℕ} {v : List ℕ} → Taking (marks_at P words) xs old r next s
      → m ≡ unmarked (bits_of (length row) (get_or words r 0))
      → v ≡ sets (take (length s - next) (drop next s)) 0 (taken (bits_of (length row) (get_or words r 0)) row)
      → Taking (marks_at P words) xs old (r + 1) (next + m) (take next s ++ (v ++ drop (length s - next) (drop next s)))
  row-takes {old} {s} {next} {m} {v} t em ev =
      let start : r * n ≡ length (marks_to (marks_at P words) r) = ap (λ k. r * k) is.wide ∙ sym (rows-length P words r) in
      let short : length (drop next s) ≤ length s - next = simp length-drop (omega arith) in
      let none : drop (length s - next) (drop next s) ≡ [] = drop_of_length-le (drop next s) short in
      taking-turns t (ap (λ k. next + k) (em ∙ ap unmarked its-marks))
      (ap (λ l. take next s ++ (v ++ l)) none
      ∙ ap (λ l. take next s ++ l) (append-nil v ∙ ev ∙ ap (λ l. sets l 0 (taken (bits_of (length row) (get_or words r 0)) row)) (rest_of next s))
      ∙ sets_behind next (taken (bits_of (length row) (get_or words r 0)) row) s
      ∙ ap (sets s next) (ap₂ taken its-marks (part_of (r * n) n xs ∙ ap₂ (λ k i. take k (drop i xs)) (is.wide ∙ sym (marks-length P words r)) start)
      ∙ taken-front (marks_at P words r) (drop (length (marks_to (marks_at P words) r)) xs)))

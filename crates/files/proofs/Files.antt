-- The stripe file: what is read of what was written, and what is written of what was read. Assumes nothing.
use mathlib.Core.Path.{◌≡◌, refl, sym, ap, ap₂, ◌∙◌, subst}
use mathlib.Core.Bool.{Bool, true, false, not, ◌&&◌, and-true, and-false}
use mathlib.Core.List.{List, [], ◌∷◌, ◌++◌, flat_map, append_assoc}
use Prim.Native.Nat.{ℕ, ◌+◌, ◌*◌, ◌-◌, ◌≤◌, ◌<◌}
use native.Mathlib.Nat.{le_of_eq}
use native.Mathlib.Omega.{arith}
use borrow.Author.Tests.{le-leb, eq-eqb, ne_eqb}
use lib.Dec.{T, eqb, leb, ltb, ltb→lt, eqb→eq, le→leb}
use lib.ListN.{length, get_or, take, drop, length-append, length-take, length-drop, take-append-drop}
use lib.Seq.{drop_at, take_all, take-add, ext_get_or}
use Rattle.std.specs.Str.{bytes_eq}
use Rattle.field.specs.Lists.{when◌then◌else◌}
use Rattle.field.proofs.Test.{both_left, both_right}
use Rattle.field.proofs.Words.{EachBelow, ◌&◌}
use Rattle.fills.specs.Lists.{all, same}
use Rattle.fills.proofs.Tests.{is_true, same→eq, same_refl}
use Rattle.plans.specs.Plan.{Plan, plan_of, known, marks_of, marks_offset, word_bytes, symbols_offset, file_length}
use Rattle.plans.specs.Rooms.{row_room}
use Rattle.plans.specs.Refusal.{first_failed, unasked, stripe_fits, words_fit, marks_fit, symbols_fit, lent_refusal, lent_tests}
use Rattle.words.specs.Words.{byte_range, bytes_of, number_at, words_at}
use Rattle.words.specs.Written.{WordsIn}
use Rattle.files.specs.File.{header_size, header_of, blanked, file_of, write_refusal, write_file, plan_in, marks_in, symbols_in, file_refusal, read_refusal}
use Rattle.plans.proofs.Parts.{rest_of}
use Rattle.files.specs.Parts.{Symbols, Whole, Loading, content_refusal}
use Rattle.words.proofs.Bytes.{length-words-at, get_or-words-at, word-behind, words-bytes, length-bytes, words-at}
use Rattle.plans.proofs.Plans.{shape}
use Rattle.plans.proofs.Refusals.{all-passed, none-refused, stripe-length, marks-length}
use Rattle.steps.proofs.Fit.{eq→eqb, marks-fit, fit-marks, symbols-fit, fit-symbols, LentFit, lent-fit, fit-lent}
use Rattle.files.proofs.Stripes.{length-blanked, blanked-twice, fit-blanked, length-marks-of, length-header, word-bytes-most, word_fits}

-- ---- what a call leaves in a buffer

-- what is new where nothing is refused, and what was there where something is
module _ {n : ℕ} (new old : List ℕ) where
  pub left-new : n ≡ 0 → new ≡ (when eqb n 0 then new else old)
  unfolding when◌then◌else◌
  left-new z = ap (λ b. when b then new else old) (sym (eq-eqb n 0 z))

  pub left-old : (n ≡ 0 → ⊥) → old ≡ (when eqb n 0 then new else old)
  unfolding when◌then◌else◌
  left-old ne = ap (λ b. when b then new else old) (sym (ne_eqb n 0 ne))

-- ---- bytes compared

pub bytes-same : (xs ys : List ℕ) → bytes_eq xs ys ≡ same xs ys
unfolding same
bytes-same [] [] = refl
bytes-same [] (y ∷ ys) = refl
bytes-same (x ∷ xs) [] = refl
bytes-same (x ∷ xs) (y ∷ ys) = ap (λ b. eqb x y && b) (bytes-same xs ys)

-- as a branch on `!=` tells it
pub differ-same : (xs ys : List ℕ) {t b : Bool} → t ≡ not (bytes_eq xs ys) → t ≡ b → same xs ys ≡ not b
differ-same xs ys d e = twice (same xs ys) ∙ ap not (ap not (sym (bytes-same xs ys)) ∙ sym d ∙ e)
  where
    twice : (s : Bool) → s ≡ not (not s)
    twice true = refl
    twice false = refl

-- ---- what is read

module _ (file : List ℕ) where
  pub length-marks-in : length (marks_in file) ≡ (plan_of (plan_in file)).rows
  unfolding marks_in
  length-marks-in = let P = plan_of (plan_in file) in length-words-at (word_bytes P) file marks_offset P.rows

  pub get_or-marks-in : (r : ℕ) → let P = plan_of (plan_in file) in r < P.rows → get_or (marks_in file) r 0 ≡ number_at (word_bytes P) file (header_size + word_bytes P * r)
  unfolding marks_offset marks_in
  get_or-marks-in = let P = plan_of (plan_in file) in get_or-words-at (word_bytes P) file header_size P.rows

  pub length-symbols-in : length file ≡ file_length (plan_of (plan_in file)) → length (symbols_in file) ≡ (plan_of (plan_in file)).rows * (plan_of (plan_in file)).columns
  unfolding symbols_in file_length
  length-symbols-in e = simp (length-take, length-drop) (omega arith)

  -- what stands behind the marks
  pub symbols-behind : length file ≡ file_length (plan_of (plan_in file)) → symbols_in file ≡ drop (symbols_offset (plan_of (plan_in file))) file
  unfolding symbols_in file_length
  symbols-behind e =
      let P = plan_of (plan_in file) in take_all (P.rows * P.columns) (drop (symbols_offset P) file) (simp length-drop (omega arith))

-- a file with its plan's header and length, as code that knows the plan's rows and the size of its mark words reads it
module _ {p n s : ℕ} {file : List ℕ} (w : Whole p file) (rows : n ≡ (plan_of p).rows) (size : s ≡ word_bytes (plan_of p)) where
  pub whole-start : header_size + s * n ≤ length file
  unfolding marks_offset symbols_offset file_length
  whole-start = omega (arith, ap₂ ◌*◌ size rows, w.long)

  pub whole_words : WordsIn file header_size s n
  whole_words = record { narrow = omega (arith, size, word-bytes-most p); inside = whole-start }

  pub whole-rows : n ≤ row_room
  whole-rows = omega (arith, rows, (shape p w.plan-known).rows-le)

  -- the mark words, and the symbols, cut off behind them
  pub whole-marks : words_at s file header_size n ≡ marks_in file
  unfolding marks_offset marks_in
  whole-marks =
      ap₂ (λ s n. words_at s file header_size n) (size ∙ ap (λ k. word_bytes (plan_of k)) w.plan) (rows ∙ ap (λ k. (plan_of k).rows) w.plan)

  pub whole-cut : take (length file - (header_size + s * n)) (drop (header_size + s * n) file) ≡ symbols_in file
  unfolding marks_offset symbols_offset
  whole-cut =
      rest_of (header_size + s * n) file
      ∙ ap₂ (λ s n. drop (header_size + s * n) file) (size ∙ ap (λ k. word_bytes (plan_of k)) w.plan) (rows ∙ ap (λ k. (plan_of k).rows) w.plan)
      ∙ sym (symbols-behind file (w.long ∙ ap (λ k. file_length (plan_of k)) w.plan))

  -- they are as long as the plan's
  pub whole-symbols : {symbols marks : List ℕ} → symbols ≡ symbols_in file → marks ≡ marks_in file → Symbols p symbols marks
  whole-symbols es em = record {
    plan-known = w.plan-known;
    words = ap length em ∙ length-marks-in file ∙ ap (λ k. (plan_of k).rows) (sym w.plan);
    long =
        ap length es ∙ length-symbols-in file (w.long ∙ ap (λ k. file_length (plan_of k)) w.plan)
        ∙ ap (λ k. (plan_of k).rows * (plan_of k).columns) (sym w.plan);
  }

-- header and length are right, so the tests of marks and symbols are left
pub whole-tests : {p : ℕ} {file : List ℕ} → Whole p file → content_refusal (plan_of p) (marks_in file) (symbols_in file) ≡ file_refusal file unasked
unfolding when◌then◌else◌ first_failed unasked file_refusal
whole-tests {p} {file} w =
    let long : leb header_size (length file) ≡ true = le-leb header_size (length file) (omega (arith, whole-start w refl refl)) in
    let is-plan : known (plan_in file) ≡ true = ap known (sym w.plan) ∙ is_true _ w.plan-known in
    let agrees : same (take header_size file) (header_of (plan_in file)) ≡ true =
    ap (λ k. same (take header_size file) (header_of k)) (sym w.plan) ∙ is_true _ w.header in
    let fits : eqb (length file) (file_length (plan_of (plan_in file))) ≡ true = eq-eqb _ _ (w.long ∙ ap (λ k. file_length (plan_of k)) w.plan) in
    rw (long, is-plan, agrees, fits, w.plan)

-- ---- files that are not refused

first_below : (q : ℕ) → 0 < q → (ts : List (ℕ × Bool)) → T (all (λ t. ltb t.0 q) ts) → first_failed ts < q
unfolding when◌then◌else◌ all first_failed
first_below q z [] t = z
first_below q z (x ∷ ts) t = go x.1 (first_below q z ts (both_right (ltb x.0 q) (all (λ t. ltb t.0 q) ts) t))
  where
    go : (b : Bool) → first_failed ts < q → (when b then first_failed ts else x.0) < q
    go true h = h
    go false h = ltb→lt x.0 q (both_left (ltb x.0 q) (all (λ t. ltb t.0 q) ts) t)

pub refusal-below : (file : List ℕ) (lengths : Bool) → file_refusal file lengths < 100
unfolding all file_refusal
refusal-below file lengths = first_below 100 (omega arith) _ tt

pub record FileFit (file : List ℕ) : Type 0 where
  pub plan-known : T (known (plan_in file))
  pub header : take header_size file ≡ header_of (plan_in file)
  pub whole : length file ≡ file_length (plan_of (plan_in file))
  pub marks : T (marks_fit (plan_of (plan_in file)) (marks_in file))
  pub symbols : T (symbols_fit (plan_of (plan_in file)) (marks_in file) (symbols_in file))
  pub blank : symbols_in file ≡ blanked (marks_of (plan_of (plan_in file)) (marks_in file)) (symbols_in file)

module _ (file : List ℕ) (lengths : Bool) where
  abbrev P : Plan
  P = plan_of (plan_in file)

  pub file-fit : file_refusal file lengths ≡ 0 → FileFit file × T lengths
  unfolding all file_refusal
  file-fit e =
      let p = (all-passed _ tt e).1 in (
        record {
          plan-known = p.0;
          header = same→eq (take header_size file) (header_of (plan_in file)) p.1.0;
          whole = eqb→eq (length file) (file_length P) p.1.1.0;
          marks = p.1.1.1.1.0;
          symbols = p.1.1.1.1.1.0;
          blank = same→eq (symbols_in file) (blanked (marks_of P (marks_in file)) (symbols_in file)) p.1.1.1.1.1.1.0;
        },
        p.1.1.1.0,
      )

  -- such a file is whole
  pub fit-whole : FileFit file → Whole (plan_in file) file
  fit-whole f = record {
    plan-known = f.plan-known;
    plan = refl;
    header = subst (λ l. T (same (take header_size file) l)) f.header (same_refl (take header_size file));
    long = f.whole;
  }

  pub fit-file : FileFit file → T lengths → file_refusal file lengths ≡ 0
  unfolding marks_offset symbols_offset file_length file_refusal
  fit-file f t =
      let blank = subst (λ l. T (same (symbols_in file) l)) f.blank (same_refl (symbols_in file)) in
      none-refused _ (le→leb header_size (length file) (omega (arith, f.whole)) & f.plan-known & (fit-whole f).header
      & eq→eqb (length file) (file_length P) f.whole & t & f.marks & f.symbols & blank & tt)

-- what reading leaves in the buffers lent to receive the file
module _ (file s m : List ℕ) (e : read_refusal file s m ≡ 0) where
  abbrev lent : Bool
  lent = stripe_fits (plan_of (plan_in file)) s && words_fit (plan_of (plan_in file)) m

  pub read_fits : FileFit file × T lent
  unfolding read_refusal
  read_fits = file-fit file lent e

  -- they are as long as the file's
  pub read-loading : Loading file s m
  unfolding unasked
  read-loading =
      let P = plan_of (plan_in file) in
      let t = is_true lent read_fits.1 in
      record { fit = fit-file file unasked read_fits.0 tt; long = stripe-length P s m t; words = marks-length P s m t }

-- ---- what was written is read

module _ (p : ℕ) (stripe marks : List ℕ) (f : LentFit p stripe marks) where
  abbrev Q : Plan
  Q = plan_of p

  abbrev file : List ℕ
  file = file_of p stripe marks

  -- the bytes of the mark words
  abbrev words : List ℕ
  words = flat_map (bytes_of (word_bytes Q)) marks

  length_front : length (header_of p ++ words) ≡ symbols_offset Q
  unfolding marks_offset symbols_offset
  length_front =
      length-append (header_of p) words
      ∙ ap₂ ◌+◌ (length-header p) (length-bytes (word_bytes Q) marks ∙ ap (λ n. word_bytes Q * n) f.words)

  length_back : length (blanked (marks_of Q marks) stripe) ≡ Q.rows * Q.columns
  length_back = length-blanked (marks_of Q marks) stripe ∙ length-marks-of Q marks

  pub plan-written : plan_in file ≡ p
  unfolding bytes_of header_of file_of plan_in
  plan-written = refl

  word-written : (r : ℕ) → r < Q.rows → number_at (word_bytes Q) file (header_size + word_bytes Q * r) ≡ get_or marks r 0
  unfolding bytes_of header_of file_of
  word-written r h =
      ap (λ l. number_at (word_bytes Q) l (header_size + word_bytes Q * r)) (append_assoc (header_of p) words (blanked (marks_of Q marks) stripe))
      ∙ word-behind (word_bytes Q) (header_of p) (words ++ blanked (marks_of Q marks) stripe) (word_bytes Q * r)
      ∙ words-bytes (word_bytes Q) marks (blanked (marks_of Q marks) stripe) r (omega (arith, f.words)) (word_fits p (f.mark-lt r h))

  pub marks-written : marks_in file ≡ marks
  marks-written =
      let rows : (plan_of (plan_in file)).rows ≡ Q.rows = ap (λ k. (plan_of k).rows) plan-written in
      ext_get_or 0 (marks_in file) marks (length-marks-in file ∙ rows ∙ sym f.words)
      (λ r h. get_or-marks-in file r (omega (arith, length-marks-in file))
      ∙ ap (λ k. number_at (word_bytes (plan_of k)) file (header_size + word_bytes (plan_of k) * r)) plan-written
      ∙ word-written r (omega (arith, length-marks-in file, rows)))

  pub symbols-written : symbols_in file ≡ blanked (marks_of Q marks) stripe
  unfolding file_of symbols_in
  symbols-written =
      ap (λ k. take ((plan_of k).rows * (plan_of k).columns) (drop (symbols_offset (plan_of k)) file)) plan-written
      ∙ ap (take (Q.rows * Q.columns))
      (drop_at (header_of p ++ words) (blanked (marks_of Q marks) stripe) (symbols_offset Q) length_front)
      ∙ take_all (Q.rows * Q.columns) (blanked (marks_of Q marks) stripe) (le_of_eq length_back)

  pub length-written : length file ≡ file_length Q
  unfolding file_length file_of
  length-written =
      length-append (header_of p ++ words) (blanked (marks_of Q marks) stripe) ∙ ap₂ ◌+◌ length_front length_back

  header-written : take header_size file ≡ header_of p
  unfolding bytes_of header_of file_of
  header-written = refl

  -- a written file is not refused
  pub written-fit : FileFit file
  written-fit = record {
    plan-known = subst (λ k. T (known k)) (sym plan-written) f.plan-known;
    header = header-written ∙ ap header_of (sym plan-written);
    whole = length-written ∙ ap (λ k. file_length (plan_of k)) (sym plan-written);
    marks = rw (plan-written, marks-written) (fit-marks Q marks f.mark-lt);
    symbols = rw (plan-written, marks-written, symbols-written) (fit-blanked Q marks stripe (fit-symbols Q marks stripe f.row_fits));
    blank = rw (plan-written, marks-written, symbols-written) (sym (blanked-twice (marks_of Q marks) stripe));
  }

-- ---- what was read is written

pub read-fit : {file : List ℕ} → FileFit file → LentFit (plan_in file) (symbols_in file) (marks_in file)
read-fit {file} f =
    let R = plan_of (plan_in file) in
    record {
      plan-known = f.plan-known;
      long = length-symbols-in file f.whole;
      words = length-marks-in file;
      mark-lt = marks-fit R (marks_in file) f.marks;
      row_fits = symbols-fit R (marks_in file) (symbols_in file) f.symbols;
    }

-- the file of what was read is the file
pub file-of-read : (file : List ℕ) → EachBelow byte_range file → FileFit file → file_of (plan_in file) (symbols_in file) (marks_in file) ≡ file
unfolding marks_offset symbols_offset file_length file_of marks_in
file-of-read file bytes f =
    let R = plan_of (plan_in file) in
    let n = word_bytes R in
    ap₂ ◌++◌ (ap₂ ◌++◌ (sym f.header) (words-at file bytes n header_size R.rows (omega (arith, f.whole))) ∙ sym (take-add header_size (n * R.rows) file))
    (sym f.blank ∙ symbols-behind file f.whole)
    ∙ take-append-drop (header_size + n * R.rows) file

-- ---- both ways round

module _ (p : ℕ) (stripe marks old : List ℕ) where
  abbrev S : Plan
  S = plan_of p

  pub room-refused : known p ≡ true → (length old ≡ file_length S → ⊥) → write_refusal p stripe marks old ≡ 11
  unfolding when◌then◌else◌ first_failed write_refusal
  room-refused k h = rw (k, ne_eqb (length old) (file_length S) h, and-false)

  pub room_fits : length old ≡ file_length S → write_refusal p stripe marks old ≡ lent_refusal p stripe marks
  unfolding lent_tests lent_refusal write_refusal
  room_fits h = rw (eq-eqb (length old) (file_length S) h, and-true)

  pub write-fit : write_refusal p stripe marks old ≡ 0 → LentFit p stripe marks × (length old ≡ file_length S)
  unfolding all write_refusal
  write-fit e =
      let h = all-passed _ tt e in
      let r = eqb→eq (length old) (file_length S) (both_right (stripe_fits S stripe && words_fit S marks) (eqb (length old) (file_length S)) h.1.0) in (lent-fit p stripe marks (sym (room_fits r) ∙ e), r)

  pub fit-write : LentFit p stripe marks → length old ≡ file_length S → write_refusal p stripe marks old ≡ 0
  fit-write f e = room_fits e ∙ fit-lent p stripe marks f

  pub written : write_refusal p stripe marks old ≡ 0 → write_file p stripe marks old ≡ file_of p stripe marks
  unfolding when◌then◌else◌ write_file
  written e = rw e

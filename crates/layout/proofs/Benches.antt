-- A bench read from bytes, written as bytes, and changed in its bytes. Assumes nothing.
use mathlib.Core.Path.{◌≡◌, refl, sym, ap, ap₂, ◌∙◌}
use mathlib.Core.List.{List, [], ◌∷◌, ◌++◌, flat_map, append-nil, append_assoc}
use Prim.Native.Nat.{ℕ, suc, ◌+◌, ◌*◌, ◌<◌, ◌≤◌}
use native.Mathlib.Omega.{arith}
use lib.ListN.{length, take, drop, get_or, set, length-append, length-drop, take-append-drop}
use lib.Seq.{sets, sets-eq, set_split, split_at, take-append_seam, take_all, drop_at, drop-drop, length-take-le}
use Rattle.field.proofs.Words.{EachBelow}
use Rattle.plans.specs.Rooms.{row_room, symbol_room, learned_room}
use Rattle.plans.specs.declared.Bench.{Bench}
use Rattle.words.specs.Words.{byte_range, bytes_of, words_at}
use Rattle.words.specs.Written.{Put}
use Rattle.words.proofs.Stores.{flat_append}
use Rattle.words.proofs.Writing.{put_then, put_whole}
use Rattle.words.proofs.Bytes.{length-bytes-of, length-bytes, words-at}
use Rattle.layout.specs.Layout.{mark_size, symbols_from, marks_from, sums_from, bench_size, bench_bytes, bench_in}

-- a bench in bytes, part by part
pub bench-is : (l : List ℕ) {symbols marks sums : List ℕ} → symbols ≡ take symbol_room (drop symbols_from l) → marks ≡ (bench_in l).marks → sums ≡ (bench_in l).sums
    → ◌≡◌ {A = Bench} record { plan = get_or l 0 0; level = get_or l 1 0; symbols = symbols; marks = marks; sums = sums } (bench_in l)
unfolding bench_in
bench-is l e f g = rw (e, f, g) refl

-- plan and level, symbols, mark words and sums are all of a bench's bytes
module _ (b : Bench) (symbols : length b.symbols ≡ symbol_room) (marks : length b.marks ≡ row_room) (sums : length b.sums ≡ learned_room) where
  abbrev head : List ℕ
  head = b.plan ∷ b.level ∷ []

  abbrev words : List ℕ
  words = flat_map (bytes_of mark_size) b.marks

  pub length-words : length words ≡ mark_size * row_room
  length-words = length-bytes mark_size b.marks ∙ ap (λ n. mark_size * n) marks

  pub bench-length : length (bench_bytes b) ≡ bench_size
  unfolding bench_bytes
  bench-length =
      length-append ((head ++ b.symbols) ++ words) b.sums
      ∙ ap₂ ◌+◌ (length-append (head ++ b.symbols) words ∙ ap₂ ◌+◌ (length-append head b.symbols ∙ ap (λ n. 2 + n) symbols) length-words) sums

  pub bench-put : {old l₁ l₂ l₃ new : List ℕ} {i j k n : ℕ} → length old ≡ bench_size → Put old 0 head i l₁ → Put l₁ i b.symbols j l₂
      → Put l₂ j words k l₃ → Put l₃ k b.sums n new → new ≡ bench_bytes b
  unfolding bench_bytes
  bench-put fits p₁ p₂ p₃ p₄ = put_whole (put_then (put_then (put_then p₁ p₂) p₃) p₄) (bench-length ∙ sym fits)

-- ---- a bench changed in its bytes

-- a word put by itself
pub word-put : (n w : ℕ) {old new : List ℕ} {at next : ℕ} → Put old at (flat_map (bytes_of n) (w ∷ [])) next new → new ≡ sets old at (bytes_of n w)
unfolding flat_map
word-put n w {old} {at = at} p = p.written ∙ ap (sets old at) (append-nil (bytes_of n w))

-- what is stored over as much in the middle of a list
sets-middle : (a x y c : List ℕ) {i : ℕ} → length a ≡ i → length x ≡ length y → sets (a ++ y ++ c) i x ≡ a ++ x ++ c
sets-middle a x y c {i} e same =
    sets-eq x (a ++ y ++ c) i (omega (arith, length-append (a ++ y) c, length-append a y))
    ∙ ap₂ (λ f g. f ++ x ++ g) (ap₂ take (sym e) (append_assoc a y c) ∙ take-append_seam a (y ++ c))
    (drop_at (a ++ y) c (i + length x) (omega (arith, length-append a y)))

module _ (b : Bench) (symbols : length b.symbols ≡ symbol_room) (marks : length b.marks ≡ row_room) where
  -- its bytes, with other mark words
  abbrev with : List ℕ → List ℕ
  with ms = bench_bytes (record { plan = b.plan; level = b.level; symbols = b.symbols; marks = ms; sums = b.sums })

  -- the word x written at row r's
  module _ (r x : ℕ) (inside : r < row_room) where
    abbrev before : List ℕ
    before = (b.plan ∷ b.level ∷ b.symbols) ++ flat_map (bytes_of mark_size) (take r b.marks)

    abbrev behind : List ℕ
    behind = flat_map (bytes_of mark_size) (drop (suc r) b.marks) ++ b.sums

    parts : (w : ℕ) {ms : List ℕ} → ms ≡ take r b.marks ++ w ∷ drop (suc r) b.marks → with ms ≡ before ++ bytes_of mark_size w ++ behind
    unfolding bench_bytes flat_map
    parts w e =
        let front = b.plan ∷ b.level ∷ b.symbols in
        let f = flat_map (bytes_of mark_size) in
        let A = f (take r b.marks) in
        let C = f (drop (suc r) b.marks) in
        ap (λ ms. front ++ f ms ++ b.sums) e ∙ ap (λ l. front ++ l ++ b.sums) (flat_append (bytes_of mark_size) (take r b.marks) (w ∷ drop (suc r) b.marks))
        ∙ ap (λ l. l ++ b.sums) (sym (append_assoc front A (bytes_of mark_size w ++ C)) ∙ sym (append_assoc (front ++ A) (bytes_of mark_size w) C))
        ∙ append_assoc (front ++ A ++ bytes_of mark_size w) C b.sums

    place : length before ≡ marks_from + mark_size * r
    place =
        length-append (b.plan ∷ b.level ∷ b.symbols) (flat_map (bytes_of mark_size) (take r b.marks))
        ∙ ap₂ ◌+◌ (length-append (b.plan ∷ b.level ∷ []) b.symbols ∙ ap (λ n. 2 + n) symbols)
        (length-bytes mark_size (take r b.marks) ∙ ap (λ n. mark_size * n) (length-take-le r b.marks (omega arith)))

    pub mark_set : sets (bench_bytes b) (marks_from + mark_size * r) (bytes_of mark_size x) ≡ with (set b.marks r x)
    mark_set =
        let w = get_or b.marks r 0 in
        ap (λ l. sets l (marks_from + mark_size * r) (bytes_of mark_size x)) (parts w (split_at b.marks r 0 (omega arith)))
        ∙ sets-middle before (bytes_of mark_size x) (bytes_of mark_size w) behind place (length-bytes-of mark_size x ∙ sym (length-bytes-of mark_size w))
        ∙ sym (parts x (set_split b.marks r x (omega arith)))

pub first_two : (l : List ℕ) → 2 ≤ length l → take 2 l ≡ get_or l 0 0 ∷ get_or l 1 0 ∷ []
first_two [] h = absurd (omega arith)
first_two (x ∷ []) h = absurd (omega arith)
first_two (x ∷ y ∷ l) h = refl

-- the symbols v written at those of a bench
module _ (l : List ℕ) (bytes : EachBelow byte_range l) (fits : length l ≡ bench_size) (v : List ℕ) (long : length v ≡ symbol_room) where
  pub symbols-set : sets l symbols_from v
      ≡ bench_bytes (record { plan = get_or l 0 0; level = get_or l 1 0; symbols = v; marks = (bench_in l).marks; sums = (bench_in l).sums })
  unfolding bench_bytes bench_in
  symbols-set =
      let words = words_at mark_size l marks_from row_room in
      let marks = words-at l bytes mark_size marks_from row_room (omega arith) in
      let sums = take_all learned_room (drop sums_from l) (simp length-drop (omega arith)) in
      let behind = sym (take-append-drop (mark_size * row_room) (drop marks_from l)) ∙ ap₂ ◌++◌ (sym marks) (drop-drop (mark_size * row_room) marks_from l ∙ sym sums) in
      sets-eq v l symbols_from (omega arith)
      ∙ ap₂ (λ a c. a ++ v ++ c) (first_two l (omega arith)) (ap (λ n. drop (symbols_from + n) l) long ∙ behind)
      ∙ sym (append_assoc (get_or l 0 0 ∷ get_or l 1 0 ∷ v) (flat_map (bytes_of mark_size) words) (take learned_room (drop sums_from l)))

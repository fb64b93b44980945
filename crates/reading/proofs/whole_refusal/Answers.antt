-- The mark words are read to the front of a room, and the symbols stand behind them in the file. Assumes nothing.
use mathlib.Core.Path.{◌≡◌, sym, ap, ap₂, ◌∙◌}
use mathlib.Core.List.{List, ◌++◌}
use Prim.Native.Nat.{ℕ}
use native.Mathlib.Omega.{arith}
use lib.ListN.{replicate, length, take, drop, length-append}
use lib.Seq.{length-take-le, take_at}
use Rattle.plans.specs.Plan.{plan_of, word_bytes}
use Rattle.plans.specs.Rooms.{row_room}
use Rattle.words.specs.Words.{words_at}
use Rattle.words.proofs.Bytes.{length-words-at}
use Rattle.files.specs.File.{header_size, marks_in}
use Rattle.files.specs.Parts.{Whole, content_refusal}
use Rattle.files.proofs.Stripes.{words-few}
use Rattle.files.proofs.Files.{whole-start, whole_words, whole-rows, whole-marks, whole-symbols, whole-cut, whole-tests}
use Rattle.reading.proofs.whole_refusal.Goals as goal

module _ {p n s : ℕ} {file : List ℕ} (w : Whole p file) (rows : n ≡ (plan_of p).rows) (size : s ≡ word_bytes (plan_of p)) where
  lent : length (take n (replicate {A = ℕ} row_room 0)) ≡ n
  lent = length-take-le n (replicate row_room 0) (whole-rows w rows size)

  module _ {read : List ℕ} (e : read ≡ words_at s file header_size (length (take n (replicate {A = ℕ} row_room 0)))) where
    words_long : length read ≡ n
    words_long = ap length e ∙ length-words-at _ _ _ _ ∙ lent

    words : read ≡ marks_in file
    words = e ∙ whole-marks w (lent ∙ rows) size

    front : take n (read ++ drop n (replicate row_room 0)) ≡ marks_in file
    front = take_at read _ n words_long ∙ words

pub slice_bounds-room-end : goal.slice_bounds-room-end
slice_bounds-room-end c = let facts = c.facts_of-facts.ensures in whole-rows c.requires facts.rows facts.word-bytes

pub slice_bounds-read_words-end : goal.slice_bounds-read_words-end
slice_bounds-read_words-end c = let facts = c.facts_of-facts.ensures in sym (lent c.requires facts.rows facts.word-bytes)

pub read_words-requires : goal.read_words-requires
read_words-requires c =
    let facts = c.facts_of-facts.ensures in whole_words c.requires (lent c.requires facts.rows facts.word-bytes ∙ facts.rows) facts.word-bytes

pub overflow_mul-start : goal.overflow_mul-start
overflow_mul-start c = let facts = c.facts_of-facts.ensures in omega (arith, words-few c.args.plan facts.word-bytes facts.rows)

pub overflow_add-start : goal.overflow_add-start
overflow_add-start c = let facts = c.facts_of-facts.ensures in omega (arith, words-few c.args.plan facts.word-bytes facts.rows)

pub slice_bounds-content_refusal-count : goal.slice_bounds-content_refusal-count
slice_bounds-content_refusal-count c = let facts = c.facts_of-facts.ensures in whole-start c.requires facts.rows facts.word-bytes

pub slice_bounds-content_refusal-start : goal.slice_bounds-content_refusal-start
slice_bounds-content_refusal-start c = let facts = c.facts_of-facts.ensures in whole-start c.requires facts.rows facts.word-bytes

pub slice_bounds-room-end-2 : goal.slice_bounds-room-end-2
slice_bounds-room-end-2 c =
    let facts = c.facts_of-facts.ensures in
    let n = c.facts_of-facts.result.rows in
    omega (
      arith,
      words_long c.requires facts.rows facts.word-bytes c.read_words.ensures,
      length-append c.read_words.new.words (drop n (replicate row_room 0)),
    )

pub slice_bounds-content_refusal-end-2 : goal.slice_bounds-content_refusal-end-2
slice_bounds-content_refusal-end-2 c =
    let facts = c.facts_of-facts.ensures in
    let e = c.read_words.ensures in
    let read = words c.requires facts.rows facts.word-bytes e in
    sym (ap length (front c.requires facts.rows facts.word-bytes e ∙ sym read) ∙ words_long c.requires facts.rows facts.word-bytes e)

pub content_refusal-requires : goal.content_refusal-requires
content_refusal-requires c =
    let facts = c.facts_of-facts.ensures in
    let w = c.requires in
    whole-symbols w facts.rows facts.word-bytes (whole-cut w facts.rows facts.word-bytes) (front w facts.rows facts.word-bytes c.read_words.ensures)

pub returns : goal.returns
returns c =
    let facts = c.facts_of-facts.ensures in
    let w = c.requires in
    c.content_refusal.ensures
    ∙ ap₂ (content_refusal (plan_of c.args.plan)) (front w facts.rows facts.word-bytes c.read_words.ensures) (whole-cut w facts.rows facts.word-bytes)
    ∙ whole-tests w

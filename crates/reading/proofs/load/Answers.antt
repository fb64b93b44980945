-- The mark words stand behind the header, and the symbols behind them. Assumes nothing.
use mathlib.Core.Path.{◌≡◌, ap, sym, ◌∙◌}
use mathlib.Core.List.{List}
use Prim.Native.Nat.{ℕ, ◌+◌, ◌*◌, ◌≤◌}
use native.Mathlib.Omega.{arith}
use lib.ListN.{length}
use Rattle.plans.specs.Plan.{plan_of, word_bytes}
use Rattle.plans.specs.Refusal.{unasked}
use Rattle.words.specs.Words.{words_at}
use Rattle.words.proofs.Bytes.{length-words-at}
use Rattle.words.proofs.Writing.{put_whole}
use Rattle.files.specs.File.{header_size, plan_in}
use Rattle.files.specs.Parts.{Whole, Loading}
use Rattle.files.proofs.Files.{file-fit, fit-whole, whole-start, whole_words, whole-marks, whole-symbols, whole-cut}
use Rattle.reading.proofs.load.Goals as goal

module _ {file stripe marks : List ℕ} (ask : Loading file stripe marks) where
  whole : Whole (plan_in file) file
  whole = fit-whole _ unasked (file-fit _ unasked ask.fit).0

  -- the code's number is that of the file's plan
  size : {p s : ℕ} → p ≡ plan_in file → s ≡ word_bytes (plan_of p) → s ≡ word_bytes (plan_of (plan_in file))
  size e is = is ∙ ap (λ k. word_bytes (plan_of k)) e

  module _ (s : ℕ) {read : List ℕ} (e : read ≡ words_at s file header_size (length marks)) where
    rows : length read ≡ (plan_of (plan_in file)).rows
    rows = ap length e ∙ length-words-at _ _ _ _ ∙ ask.words

    -- the symbols begin inside the file
    inside : s ≡ word_bytes (plan_of (plan_in file)) → header_size + s * length read ≤ length file
    inside is = whole-start whole rows is

pub read_words-requires : goal.read_words-requires
read_words-requires c = whole_words (whole c.requires) c.requires.words (size c.requires c.plan_in.ensures c.facts_of-size.ensures.word-bytes)

pub overflow_mul-start : goal.overflow_mul-start
overflow_mul-start c =
    omega (arith, inside c.requires _ c.read_words.ensures (size c.requires c.plan_in.ensures c.facts_of-size.ensures.word-bytes))

pub overflow_add-start : goal.overflow_add-start
overflow_add-start c =
    omega (arith, inside c.requires _ c.read_words.ensures (size c.requires c.plan_in.ensures c.facts_of-size.ensures.word-bytes))

pub slice_bounds-put-count : goal.slice_bounds-put-count
slice_bounds-put-count c = inside c.requires _ c.read_words.ensures (size c.requires c.plan_in.ensures c.facts_of-size.ensures.word-bytes)

pub slice_bounds-put-start : goal.slice_bounds-put-start
slice_bounds-put-start c = inside c.requires _ c.read_words.ensures (size c.requires c.plan_in.ensures c.facts_of-size.ensures.word-bytes)

pub put-requires : goal.put-requires
put-requires c =
    let w = whole c.requires in
    let n = size c.requires c.plan_in.ensures c.facts_of-size.ensures.word-bytes in
    let high = rows c.requires _ c.read_words.ensures in
    omega (arith, (whole-symbols w high n (whole-cut w high n) (whole-marks w high n)).long, c.requires.long)

pub returns : goal.returns
returns c =
    let w = whole c.requires in
    let n = size c.requires c.plan_in.ensures c.facts_of-size.ensures.word-bytes in
    let high = rows c.requires _ c.read_words.ensures in
    let cut = whole-cut w high n in
    let fits = (whole-symbols w high n cut (whole-marks w high n)).long ∙ sym c.requires.long in
    record { stripe_after = put_whole c.put.ensures fits ∙ cut; marks_after = c.read_words.ensures ∙ whole-marks w c.requires.words n }

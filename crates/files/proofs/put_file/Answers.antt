-- Header, marks and symbols stand one behind the other, and fill the file. Assumes nothing.
use mathlib.Core.Path.{sym, ap, ap₂, ◌∙◌}
use mathlib.Core.List.{flat_map}
use Prim.Native.Nat.{◌*◌}
use native.Mathlib.Omega.{arith}
use lib.ListN.{length}
use Rattle.plans.specs.Plan.{marks_offset, symbols_offset, file_length}
use Rattle.words.specs.Words.{bytes_of}
use Rattle.files.specs.File.{header_of, file_of}
use Rattle.files.proofs.Files.{write-fit, length-written}
use Rattle.words.proofs.Bytes.{length-bytes}
use Rattle.words.proofs.Stores.{sets-whole}
use Rattle.words.proofs.Writing.{put_then, put_is}
use Rattle.files.proofs.put_file.Goals as goal

pub header_of-header-requires : goal.header_of-header-requires
header_of-header-requires c = (write-fit _ _ _ _ c.requires).0.plan-known

pub put-at_marks-requires : goal.put-at_marks-requires
unfolding bytes_of marks_offset symbols_offset file_length header_of
put-at_marks-requires c = omega (arith, ap length c.header_of-header.ensures, (write-fit _ _ _ _ c.requires).1)

pub put_words-at_symbols-requires : goal.put_words-at_symbols-requires
unfolding bytes_of marks_offset symbols_offset file_length header_of
put_words-at_symbols-requires c = let f = write-fit _ _ _ _ c.requires in
    let size = ap₂ ◌*◌ c.facts_of-size.ensures.word-bytes f.0.words in
    omega (arith, c.put-at_marks.ensures.reached, c.put-at_marks.auto.out, ap length c.header_of-header.ensures, size, f.1)

pub put_symbols-requires : goal.put_symbols-requires
unfolding bytes_of marks_offset symbols_offset file_length header_of
put_symbols-requires c = let f = write-fit _ _ _ _ c.requires in
    record {
      sized = record { plan-known = f.0.plan-known; words = f.0.words; long = f.0.long };
      room =
          let long = length-bytes c.facts_of-size.result.word_bytes c.args.marks.now in
          let size = ap₂ ◌*◌ c.facts_of-size.ensures.word-bytes f.0.words in
          let eight = ap length c.header_of-header.ensures in
          omega arith;
    }

pub returns : goal.returns
unfolding file_of
returns c = let f = write-fit _ _ _ _ c.requires in
    let size = ap (λ n. flat_map (bytes_of n) c.args.marks.now) c.facts_of-size.ensures.word-bytes in
    (put_then (put_then (put_is (sym c.header_of-header.ensures) c.put-at_marks.ensures) (put_is (sym size) c.put_words-at_symbols.ensures))
    c.put_symbols.ensures).written
    ∙ sets-whole _ _ (length-written _ _ _ f.0 ∙ sym f.1)

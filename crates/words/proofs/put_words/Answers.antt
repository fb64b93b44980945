-- `put_words`: what search leaves open, by the lemmas of Stores, Bytes and Writing. Assumes nothing.
use mathlib.Core.Path.{◌≡◌, refl, sym, ap, ◌∙◌}
use Prim.Native.Nat.{◌+◌, ◌-◌, ◌*◌, ◌≤◌}
use native.Mathlib.Nat.{mul-zero, mul-suc}
use native.Mathlib.Numerals.{add-one}
use native.Mathlib.Omega.{arith}
use lib.ListN.{length, get_or}
use borrow.Rule.Slice.PartMut.{put_mid}
use Rattle.words.specs.Words.{bytes_of}
use Rattle.words.proofs.Stores.{part_length, part-written}
use Rattle.words.proofs.Bytes.{word-inside, length-bytes-of}
use Rattle.words.proofs.Writing.{joining-starts, joining-turns}
use Rattle.words.proofs.put_words.Goals as goal

pub loop-word-init : goal.loop-word-init
loop-word-init c = record { place = omega (arith, mul-zero c.args.size); begun = joining-starts _ _ _ _ }

pub loop-word-preserved : goal.loop-word-preserved
loop-word-preserved c = let l = c.loop-word in
    let a = c.args in
    let w = get_or a.words.now l.word-index 0 in
    let long = length-bytes-of a.size w in
    let room : l.next + a.size ≤ length l.out = omega (arith, l.invariant.place, c.requires, word-inside a.size l.word-index (length a.words.now) (omega arith)) in
    let put : c.put_word.new.bytes ≡ bytes_of a.size w = c.put_word.ensures ∙ ap (λ n. bytes_of n w) (part_length l.next a.size l.out room) in
    record {
      place = omega (arith, l.invariant.place, ap (λ k. a.size * k) (add-one l.word-index), mul-suc a.size l.word-index);
      begun =
          joining-turns _ _ _ _ l.invariant.begun (omega arith) refl
          (ap (put_mid l.next (l.next + a.size - l.next) l.out) put
          ∙ part-written l.next a.size (bytes_of a.size w) l.out long room) (ap (λ n. l.next + n) (sym long));
    }

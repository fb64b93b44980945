-- `put_word`: what search leaves open, by the lemmas of Bytes and Writing. Assumes nothing.
use mathlib.Core.Path.{refl, sym, ap, ◌∙◌}
use Prim.Native.Nat.{◌/◌, ◌%◌}
use native.Mathlib.Omega.{arith}
use lib.ListN.{length}
use Rattle.words.specs.Words.{byte_range}
use Rattle.words.proofs.Bytes.{length-bytes-of, get_or-bytes-of, shorter}
use Rattle.words.proofs.Writing.{writing-turns, writing-whole}
use Rattle.words.proofs.put_word.Goals as goal

pub loop-byte-preserved : goal.loop-byte-preserved
loop-byte-preserved c = let l = c.loop-byte in
    let n = length c.args.bytes.now in
    let w = c.args.word in record {
      rest = ap (λ x. x / byte_range) l.invariant.rest ∙ shorter w l.byte-index;
      begun =
          writing-turns _ _ _ l.invariant.begun (omega (arith, length-bytes-of n w)) (omega arith)
          (ap (λ x. x % byte_range) l.invariant.rest ∙ sym (get_or-bytes-of n w l.byte-index (omega arith)));
    }

pub returns : goal.returns
returns c = writing-whole _ _ _ c.loop-byte.invariant.begun refl (length-bytes-of (length c.args.bytes.now) c.args.word) (omega arith)

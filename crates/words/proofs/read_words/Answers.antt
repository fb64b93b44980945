-- `read_words`: what search leaves open, by the lemmas of Writing and Bytes. Assumes nothing.
use mathlib.Core.Path.{refl, sym, ◌∙◌}
use native.Mathlib.Omega.{arith}
use lib.ListN.{length}
use Rattle.words.proofs.Writing.{writing-turns, writing-whole}
use Prim.Native.Nat.{◌+◌, ◌*◌}
use Rattle.words.proofs.Bytes.{word-inside, word-of-part, length-words-at, get_or-words-at}
use Rattle.words.proofs.read_words.Goals as goal

pub loop-r-preserved : goal.loop-r-preserved
loop-r-preserved c = let a = c.args in
    let l = c.loop-r in
    let n = length a.words.now in
    writing-turns _ _ _ l.invariant (omega (arith, length-words-at a.size a.bytes.now a.at n)) (omega arith)
    (c.word_of.ensures ∙ word-of-part (a.at + a.size * l.r) a.size a.bytes.now (omega (arith, c.requires.inside, word-inside a.size l.r n (omega arith)))
    ∙ sym (get_or-words-at a.size a.bytes.now a.at n l.r (omega arith)))

pub returns : goal.returns
returns c = let a = c.args in writing-whole _ _ _ c.loop-r.invariant refl (length-words-at a.size a.bytes.now a.at (length a.words.now)) (omega arith)

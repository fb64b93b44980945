-- The number stands behind the word. Assumes nothing.
use native.Mathlib.Omega.{arith}
use Rattle.words.proofs.Writing.{put-length, put_then}
use Rattle.texts.proofs.Text.put_item.Goals as goal

pub put_number-requires : goal.put_number-requires
put_number-requires c =
    let word = c.put.ensures.written in
    record { small = c.requires.small; room = omega (arith, c.requires.room, word.reached, put-length word) }

pub returns-clause-written : goal.returns-clause-written
returns-clause-written c =
    let word = c.put.ensures.written in
    let n = c.put_number.ensures.written in
    record { put = put_then word n.put; most = omega (arith, word.reached, n.most) }

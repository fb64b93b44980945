-- By the kind of place: level and row, or level and the words for all rows. Assumes nothing.
use native.Mathlib.Omega.{arith}
use Rattle.numbers.proofs.Values.{row_below, across-below}
use Rattle.texts.specs.Text.{bytes, item}
use Rattle.words.proofs.Writing.{put-length, put_then, put_is}
use Rattle.texts.proofs.Texts.{row-text, across-text}
use Rattle.texts.proofs.Text.put_place.Goals as goal

pub put_item-requires : goal.put_item-requires
put_item-requires c = record { small = (row_below c.in-Row.is c.requires.small).0; room = omega (arith, c.requires.room) }

pub put_item-requires-in-Row : goal.put_item-requires-in-Row
put_item-requires-in-Row c =
    let level = c.put_item.ensures.written in
    record { small = (row_below c.in-Row.is c.requires.small).1; room = omega (arith, c.requires.room, level.most, put-length level.put) }

pub put_item-requires-in-Across : goal.put_item-requires-in-Across
put_item-requires-in-Across c = record { small = across-below c.in-Across.is c.requires.small; room = omega (arith, c.requires.room) }

pub put-requires : goal.put-requires
put-requires c =
    let level = c.put_item-in-Across.ensures.written in
    omega (arith, c.requires.room, level.most, put-length level.put)

pub returns-in-Row-clause-written : goal.returns-in-Row-clause-written
unfolding bytes item
returns-in-Row-clause-written c =
    let level = c.put_item.ensures.written in
    let row = c.put_item-in-Row.ensures.written in
    record { put = put_is (row-text c.in-Row.is) (put_then level.put row.put); most = omega (arith, level.most, row.most) }

pub returns-in-Across-clause-written : goal.returns-in-Across-clause-written
unfolding bytes item
returns-in-Across-clause-written c =
    let level = c.put_item-in-Across.ensures.written in
    let across = c.put.ensures.written in
    record { put = put_is (across-text c.in-Across.is) (put_then level.put across); most = omega (arith, level.most, across.reached) }

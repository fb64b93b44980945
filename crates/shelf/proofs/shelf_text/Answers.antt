-- A buffer of another size is 11; else the text's room is put over the one, and its length over the other. Assumes nothing.
use mathlib.Core.Path.{ap, ◌∙◌}
use Rattle.plans.specs.Answers.{refusal_number}
use Rattle.words.specs.Words.{bytes_of}
use Rattle.shelf.specs.Calls.{size_room}
use Rattle.shelf.proofs.Telling.{tells-no-text, tells-no-size, tells}
use Rattle.shelf.proofs.shelf_text.Goals as goal

pub returns-then-text-ne-ROOM : goal.returns-then-text-ne-ROOM
unfolding refusal_number
returns-then-text-ne-ROOM c =
    let h = tells-no-text c.args.file.now _ _ c.if-text-ne-ROOM.true c.number.ensures in record { value = h.0; text_after = h.1.0; size_after = h.1.1 }

pub returns-then-size-ne-SIZE : goal.returns-then-size-ne-SIZE
unfolding refusal_number
returns-then-size-ne-SIZE c =
    let h = tells-no-size c.args.file.now _ _ c.if-text-ne-ROOM.false c.if-size-ne-SIZE.true c.number-then-size-ne-SIZE.ensures in
    record { value = h.0; text_after = h.1.0; size_after = h.1.1 }

pub returns : goal.returns
returns c =
    let text = c.text-length.ensures in
    let length = c.copy_from_slice-2.ensures.after ∙ c.size_bytes.ensures ∙ ap (bytes_of size_room) text.value in
    let h = tells _ _ _ c.if-text-ne-ROOM.false c.if-size-ne-SIZE.false (c.copy_from_slice.ensures.after ∙ text.out_after) length in
    record { value = h.0; text_after = h.1.0; size_after = h.1.1 }

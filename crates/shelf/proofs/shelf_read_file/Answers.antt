-- The answer is told by its number; stripe and marks are reading's. Assumes nothing.
use Rattle.shelf.proofs.Telling.{done-told}
use Rattle.shelf.proofs.shelf_read_file.Goals as goal

pub returns : goal.returns
returns c =
    let e = c.read_file.ensures in
    record { value = done-told _ c.number.ensures e.value; stripe_after = e.stripe_after; marks_after = e.marks_after }

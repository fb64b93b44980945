-- The answer is told by its number; the file is writing's. Assumes nothing.
use Rattle.shelf.proofs.Telling.{done-told}
use Rattle.shelf.proofs.shelf_write_file.Goals as goal

pub returns : goal.returns
returns c = record { value = done-told _ c.number.ensures c.write_file.ensures.value; file_after = c.write_file.ensures.file_after }

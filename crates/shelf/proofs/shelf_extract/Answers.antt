-- The answer is told by its number; the data is extraction's. Assumes nothing.
use Rattle.shelf.proofs.Telling.{done-told}
use Rattle.shelf.proofs.shelf_extract.Goals as goal

pub returns : goal.returns
returns c = record { value = done-told _ c.number.ensures c.extract.ensures.value; data_after = c.extract.ensures.data_after }

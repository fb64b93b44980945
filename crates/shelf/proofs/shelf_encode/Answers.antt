-- The answer is told by its number; the stripe is encoding's. Assumes nothing.
use Rattle.shelf.proofs.Telling.{done-told}
use Rattle.shelf.proofs.shelf_encode.Goals as goal

pub returns : goal.returns
returns c = record { value = done-told _ c.number.ensures c.encode.ensures.value; stripe_after = c.encode.ensures.stripe_after }

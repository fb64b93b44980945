-- Where the highest symbol is below q all are; else each row that was passed fits, and the words go along with the rows. Assumes nothing.
use mathlib.Core.Path.{◌≡◌}
use lib.ListN.{length, take, drop}
use Rattle.plans.specs.Plan.{plan_of}
use Rattle.plans.proofs.Chunks.{Walk}
use Rattle.refusals.proofs.Fits.{row_is_fit}
use Rattle.refusals.proofs.symbols_fit.Given as goal

abbrev pub invariant-loop-word : goal.invariant-loop-word
invariant-loop-word l =
    let P = plan_of l.plan in
    record {
      rows : Walk (row_is_fit P l.marks l.symbols) P.rows P.columns l.symbols (length l.yielded) l.word-iterator.b;
      words : l.word-iterator.a.rest.now ≡ drop (length l.yielded) (take P.rows l.marks);
    }

-- After r turns the first r rows are written, one behind the other, and the words go along with the rows. Assumes nothing.
use mathlib.Core.Path.{◌≡◌}
use mathlib.Core.Bool.{true}
use Prim.Native.Nat.{◌+◌, ◌*◌}
use lib.ListN.{length, drop}
use Rattle.field.specs.Lists.{up_from}
use Rattle.plans.specs.Plan.{plan_of}
use Rattle.plans.proofs.Chunks.{Walk}
use Rattle.words.proofs.Writing.{Joining}
use Rattle.files.proofs.Stripes.{row_blanked}
use Rattle.files.proofs.put_symbols.Given as goal

abbrev pub invariant-loop-word : goal.invariant-loop-word
invariant-loop-word l =
    let P = plan_of l.plan in
    let r = length l.yielded in
    record {
      rows : Walk (λ row. true) P.rows P.columns l.stripe r l.word-iterator.b;
      words : l.word-iterator.a.rest.now ≡ drop r l.marks;
      place : l.next ≡ l.at + r * P.columns;
      begun : Joining (row_blanked P l.marks l.stripe) l.initial.file l.at (up_from 0 P.rows) r l.file l.next;
    }

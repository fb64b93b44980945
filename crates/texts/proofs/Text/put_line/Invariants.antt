-- After so many turns so many symbols are written into the buffer, so many digits for each. Assumes nothing.
use mathlib.Core.Path.{◌≡◌}
use Prim.Native.Nat.{◌+◌, ◌*◌}
use lib.ListN.{length}
use Rattle.field.specs.Lists.{up_from}
use Rattle.words.proofs.Writing.{Joining}
use Rattle.texts.proofs.Texts.{symbol_at}
use Rattle.texts.proofs.Text.put_line.Given as goal

abbrev pub invariant-loop-column : goal.invariant-loop-column
invariant-loop-column l =
    let start = l.initial.self in
    (l.self.out.ghost_name ≡ start.out.ghost_name) × (l.self.at ≡ start.at + l.column * l.digits)
    × Joining (symbol_at l.digits l.word l.row) start.out.now start.at (up_from 0 (length l.row)) l.column l.self.out.now l.self.at

-- After so many turns so many counts are written into the buffer, each of no more than three bytes. Assumes nothing.
use mathlib.Core.Path.{◌≡◌}
use Prim.Native.Nat.{◌+◌, ◌*◌, ◌≤◌}
use Rattle.words.proofs.Writing.{Joining}
use Rattle.texts.specs.Text.{item}
use Rattle.texts.specs.Parts.{count_room}
use Rattle.texts.proofs.Text.put_counts.Given as goal

abbrev pub invariant-loop-count : goal.invariant-loop-count
invariant-loop-count l =
    let start = l.initial.self in
    (l.self.out.ghost_name ≡ start.out.ghost_name) × (l.self.at ≤ start.at + count_room * l.count-index)
    × Joining (item " ") start.out.now start.at l.counts l.count-index l.self.out.now l.self.at

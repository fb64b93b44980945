-- `learn`: the sums under the checks passed are learned and stand behind those from before, and a check less is to come. More rows with
-- marks than totals block the level at once; a check that is tied blocks it, one that has no filling makes it fail. Assumes nothing.
use Prim.Native.Nat.{◌*◌}
use lib.ListN.{take}
use Rattle.plans.specs.Rooms.{sum_room}
use Rattle.steps.specs.Parts.{bench_of}
use Rattle.levels.proofs.Rising.{LearnedTo}
use Rattle.levels.proofs.learn.Given as goal

abbrev pub invariant-loop-j : goal.invariant-loop-j
invariant-loop-j l = LearnedTo (bench_of l.plan l.level l.symbols l.marks (take (l.rows * sum_room) l.sums)) l.rows l.last l.lossy l.j l.kept

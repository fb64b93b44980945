-- `rounds`: before each round `Rounding` holds: the turns to come lead where all turns do; a level less is to come. Assumes nothing.
use Prim.Native.Nat.{suc, ◌-◌}
use Rattle.steps.specs.Parts.{bench_of}
use Rattle.rounds.specs.Ended.{start_of}
use Rattle.rounds.proofs.Rounding.{Rounding}
use Rattle.rounds.proofs.rounds.Given as goal

abbrev pub invariant-loop-row : goal.invariant-loop-row
invariant-loop-row l =
    Rounding (start_of l.plan l.initial.symbols l.initial.marks) (bench_of l.plan l.level l.symbols l.marks l.sums) l.restored

abbrev pub decreases-loop-row : goal.decreases-loop-row
decreases-loop-row l = suc l.levels - l.level

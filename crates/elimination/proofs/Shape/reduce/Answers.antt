-- A row that has an entry in the column becomes its pivot; where none has, the column is free. Assumes nothing.
use native.Mathlib.Omega.{arith}
use Rattle.elimination.proofs.Turns.{reducing-skip, reducing-turn}
use Rattle.elimination.proofs.Shape.reduce.Goals.{in-Some, in-None}
use Rattle.elimination.proofs.Shape.reduce.Goals as goal

pub loop-c-preserved : goal.loop-c-preserved
loop-c-preserved c =
    let inv = c.loop-c.invariant in
    elim c.match-find_row.branch [
      | in-Some w ↦ rw (w.a-is, w.pivots-is, w.rank-is, w.free-is)
          (reducing-turn _ _ _ _ _ _ _ _ _ _ inv (omega (arith, w.in-Some.ensures)) (omega arith) w.pivot.ensures.pivoted w.pivot.ensures.elements)
      | in-None w ↦ rw (w.a-is, w.pivots-is, w.rank-is, w.free-is) (reducing-skip _ _ _ _ _ _ _ _ _ inv w.in-None.ensures)
    ]

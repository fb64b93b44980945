-- `gather`: what search leaves open, by the lemmas of Columns.
use Prim.Native.Nat.{◌*◌, ◌+◌, ◌≤◌}
use native.Mathlib.Omega.{arith}
use lib.ListN.{length}
use Rattle.field.specs.Field.{◌⊕◌}
use Rattle.field.proofs.Fields.{our-field}
use Rattle.equations.proofs.Elements.{set-elements}
use Rattle.equations.proofs.Inner.{inner-lt}
use Rattle.equations.proofs.Rows.{row_fits}
use Rattle.gathering.proofs.Columns.{gathered-turn}
use Rattle.gathering.proofs.gather.Goals as goal

pub loop-i-preserved : goal.loop-i-preserved
unfolding ◌⊕◌
loop-i-preserved c =
    let inv = c.loop-i.invariant in
    let w = length c.args.places.now + 1 in
    let field = our-field c.args.q in
    let sum = c.row_sum-sum in
    let fits : c.loop-i.i * w + w ≤ length c.gather_row.new.a =
    let row = row_fits (length c.args.target.now) w c.loop-i.i (omega arith) in omega (arith, c.requires.to, c.loop-i.auto.a, c.gather_row.auto.a) in (
      set-elements _ c.gather_row.new.a _ _
          (field.sum_lt _ sum.result (c.requires.sums _) (rw sum.ensures (inner-lt _ field _ _ _)))
          (omega arith) (c.gather_row.ensures.elements _ c.requires.coefficients inv.0),
      gathered-turn _ _ _ _ _ _ _ _ c.gather_row.new.a _ _ inv.1 c.gather_row.ensures.copied sum.ensures (omega arith),
    )

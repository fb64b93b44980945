-- The goals of `take_row` that the search leaves open.
use mathlib.Core.Path.{sym, ◌∙◌}
use native.Mathlib.Omega.{arith}
use Rattle.encoding.proofs.Placing.{taking-starts, taking-length, bit-within, take-symbol, take_none, row-taken}
use Rattle.encoding.proofs.encoding.take_row.Goals as goal
use Rattle.encoding.proofs.encoding.take_row.Goals.{then-not-is_marked, else-not-is_marked}

pub loop-c-init : goal.loop-c-init
loop-c-init c = taking-starts

pub bounds-data-next : goal.bounds-data-next
bounds-data-next c = omega (arith, taking-length c.loop-c.invariant, bit-within _ _ (sym c.if-not-is_marked.ensures) c.loop-c-test.true c.requires.room c.loop-c.invariant.count)

pub overflow_add-next : goal.overflow_add-next
overflow_add-next c = omega (arith, c.well_formed, bit-within _ _ (sym c.if-not-is_marked.ensures) c.loop-c-test.true c.requires.room c.loop-c.invariant.count)

pub loop-c-preserved : goal.loop-c-preserved
loop-c-preserved c = let t = c.loop-c.invariant in
    let is = sym c.is_marked.ensures in
    elim c.if-not-is_marked.branch [
      | then-not-is_marked w ↦ rw (w.data-is, w.next-is) (take-symbol _ _ t (is ∙ w.if-not-is_marked.true))
      | else-not-is_marked w ↦ rw (w.data-is, w.next-is) (take_none _ _ t (is ∙ w.if-not-is_marked.false))
    ]

pub returns : goal.returns
returns c = let both = row-taken _ _ c.loop-c.invariant (omega arith) in record { value = both.0; data_after = both.1 }

-- The goals of `place_row` that the search leaves open.
use mathlib.Core.Path.{sym, ◌∙◌}
use native.Mathlib.Omega.{arith}
use Rattle.encoding.proofs.Placing.{placing-starts, bit-within, place-data, place_none, row-placed}
use Rattle.encoding.proofs.encoding.place_row.Goals as goal
use Rattle.encoding.proofs.encoding.place_row.Goals.{then-is_marked, else-is_marked}

pub loop-c-init : goal.loop-c-init
loop-c-init c = placing-starts

pub bounds-data-next : goal.bounds-data-next
bounds-data-next c = bit-within _ _ (sym c.if-is_marked.ensures) c.loop-c-test.true c.requires.room c.loop-c.invariant.count

pub overflow_add-next : goal.overflow_add-next
overflow_add-next c = omega (arith, c.well_formed, bit-within _ _ (sym c.if-is_marked.ensures) c.loop-c-test.true c.requires.room c.loop-c.invariant.count)

pub loop-c-preserved : goal.loop-c-preserved
loop-c-preserved c = let p = c.loop-c.invariant in
    let is = sym c.is_marked.ensures in
    elim c.if-is_marked.branch [
      | then-is_marked w ↦ rw (w.row-is, w.next-is) (place_none _ _ p (is ∙ w.if-is_marked.true))
      | else-is_marked w ↦ rw (w.row-is, w.next-is) (place-data _ _ p (is ∙ w.if-is_marked.false))
    ]

pub returns : goal.returns
returns c = let both = row-placed _ _ c.loop-c.invariant (omega arith) in record { value = both.0; row_after = both.1 }

-- The goals of `take` that the search leaves open.
use mathlib.Core.Path.{◌∙◌}
use native.Mathlib.Omega.{arith}
use Rattle.tables.proofs.Numbers.{numbers}
use Rattle.encoding.proofs.Placing.{taking-starts, taking-length, at_row, row-takes, rows_taken}
use Rattle.encoding.proofs.encoding.take.Goals as goal

pub loop-r-init : goal.loop-r-init
loop-r-init c = taking-starts

pub slice_bounds-take_row-count-in-loop-r : goal.slice_bounds-take_row-count-in-loop-r
slice_bounds-take_row-count-in-loop-r c = omega (
  arith,
  (at_row (numbers _ c.facts_of-columns.ensures) _ _ c.requires.high c.requires.long c.loop-r-test.true _ (taking-length c.loop-r.invariant ∙ c.requires.room) c.loop-r.invariant.count).room,
)

pub slice_bounds-take_row-start-in-loop-r : goal.slice_bounds-take_row-start-in-loop-r
slice_bounds-take_row-start-in-loop-r c = omega (
  arith,
  (at_row (numbers _ c.facts_of-columns.ensures) _ _ c.requires.high c.requires.long c.loop-r-test.true _ (taking-length c.loop-r.invariant ∙ c.requires.room) c.loop-r.invariant.count).room,
)

pub take_row-next-requires : goal.take_row-next-requires
take_row-next-requires c =
    (at_row (numbers _ c.facts_of-columns.ensures) _ _ c.requires.high c.requires.long c.loop-r-test.true _ (taking-length c.loop-r.invariant ∙ c.requires.room) c.loop-r.invariant.count).lent

pub overflow_add-next : goal.overflow_add-next
overflow_add-next c = omega (
  arith,
  (at_row (numbers _ c.facts_of-columns.ensures) _ _ c.requires.high c.requires.long c.loop-r-test.true _ (taking-length c.loop-r.invariant ∙ c.requires.room) c.loop-r.invariant.count).room,
  c.take_row-next.ensures.value,
  c.well_formed,
  taking-length c.loop-r.invariant,
)

pub loop-r-preserved : goal.loop-r-preserved
loop-r-preserved c = let got = c.take_row-next.ensures in
    row-takes (numbers _ c.facts_of-columns.ensures) _ _ c.requires.high c.requires.long c.loop-r-test.true c.loop-r.invariant got.value got.data_after

pub returns : goal.returns
returns c = rows_taken _ _ (omega (arith, c.requires.high)) c.requires.room c.loop-r.invariant

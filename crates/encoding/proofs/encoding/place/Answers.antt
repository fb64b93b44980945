-- The goals of `place` that the search leaves open.
use mathlib.Core.Path.{◌∙◌}
use native.Mathlib.Omega.{arith}
use Rattle.tables.proofs.Numbers.{numbers}
use Rattle.encoding.proofs.Placing.{placing-starts, placing-length, at_row, row-turns, rows-placed}
use Rattle.encoding.proofs.encoding.place.Goals as goal

pub loop-r-init : goal.loop-r-init
loop-r-init c = placing-starts

pub slice_bounds-place_row-count : goal.slice_bounds-place_row-count
slice_bounds-place_row-count c = omega (
  arith,
  (at_row (numbers _ c.facts_of-columns.ensures) _ _ c.requires.high (placing-length c.loop-r.invariant ∙ c.requires.long) c.loop-r-test.true _ c.requires.room c.loop-r.invariant.count).room,
)

pub slice_bounds-place_row-start : goal.slice_bounds-place_row-start
slice_bounds-place_row-start c = omega (
  arith,
  (at_row (numbers _ c.facts_of-columns.ensures) _ _ c.requires.high (placing-length c.loop-r.invariant ∙ c.requires.long) c.loop-r-test.true _ c.requires.room c.loop-r.invariant.count).room,
)

pub place_row-next-requires : goal.place_row-next-requires
place_row-next-requires c =
    (at_row (numbers _ c.facts_of-columns.ensures) _ _ c.requires.high (placing-length c.loop-r.invariant ∙ c.requires.long) c.loop-r-test.true _ c.requires.room c.loop-r.invariant.count).lent

pub overflow_add-next : goal.overflow_add-next
overflow_add-next c = omega (
  arith,
  (at_row (numbers _ c.facts_of-columns.ensures) _ _ c.requires.high (placing-length c.loop-r.invariant ∙ c.requires.long) c.loop-r-test.true _ c.requires.room c.loop-r.invariant.count).room,
  c.place_row-next.ensures.value,
  c.well_formed,
)

pub loop-r-preserved : goal.loop-r-preserved
loop-r-preserved c = let put = c.place_row-next.ensures in
    row-turns (numbers _ c.facts_of-columns.ensures) _ _ c.requires.high (placing-length c.loop-r.invariant ∙ c.requires.long) c.loop-r-test.true c.loop-r.invariant put.value put.row_after

pub returns : goal.returns
returns c = rows-placed _ _ (omega (arith, c.requires.high)) c.requires.long c.loop-r.invariant

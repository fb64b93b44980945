-- `fill_row`: it lends the row, its sums and the checks of its levels as parts, and the filled part stands in its place. In a row of
-- power sums with more marks than sums nothing is to be done. Assumes nothing.
use native.Mathlib.Omega.{arith}
use mathlib.Core.Path.{refl, sym}
use Rattle.rows.proofs.Lending.{differs, checks-end, sums-end, checks-long, fits, row-filled, too_many}
use Rattle.rows.proofs.fill_row.Goals as goal

pub returns-then-m-word : goal.returns-then-m-word
returns-then-m-word c =
    let e = too_many (record { facts = c.facts_of-facts.ensures; count = c.sums_to-m.ensures; table = refl; asked = c.requires }) (differs _ c.ne.ensures c.if-ne.true) c.if-m-word.true in
    record { value = e.0; symbols_after = e.1 }

pub overflow_mul-size : goal.overflow_mul-size
overflow_mul-size c = omega (arith, checks-end (record { facts = c.facts_of-facts.ensures; count = c.sums_to-m.ensures; table = c.checks-checks.ensures; asked = c.requires }))

pub overflow_add-last : goal.overflow_add-last
overflow_add-last c = omega (arith, sums-end (record { facts = c.facts_of-facts.ensures; count = c.sums_to-m.ensures; table = c.checks-checks.ensures; asked = c.requires }))

pub slice_bounds-fill-end : goal.slice_bounds-fill-end
slice_bounds-fill-end c = sym (checks-long (record { facts = c.facts_of-facts.ensures; count = c.sums_to-m.ensures; table = c.checks-checks.ensures; asked = c.requires }))

pub slice_bounds-fill-end-2 : goal.slice_bounds-fill-end-2
slice_bounds-fill-end-2 c = omega (arith, sums-end (record { facts = c.facts_of-facts.ensures; count = c.sums_to-m.ensures; table = c.checks-checks.ensures; asked = c.requires }))

pub fill-requires : goal.fill-requires
fill-requires c = fits (record { facts = c.facts_of-facts.ensures; count = c.sums_to-m.ensures; table = c.checks-checks.ensures; asked = c.requires })

pub returns : goal.returns
returns c =
    let fill = c.fill in
    let e = row-filled (record { facts = c.facts_of-facts.ensures; count = c.sums_to-m.ensures; table = c.checks-checks.ensures; asked = c.requires }) fill.new.v fill.auto.v (fill.ensures.value, fill.ensures.v_after) in
    record { value = e.0; symbols_after = e.1 }

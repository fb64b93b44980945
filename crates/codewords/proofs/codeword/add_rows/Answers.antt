-- The goals of `add_rows` that the search leaves open.
use mathlib.Core.Path.{refl}
use native.Mathlib.Nat.{le_trans}
use lib.ListN.{length}
use Rattle.plans.proofs.Rows.{row-end}
use Rattle.codewords.proofs.Totals.{adding-turns, adding-ends}
use Rattle.codewords.proofs.codeword.add_rows.Goals as goal

pub loop-r-preserved : goal.loop-r-preserved
loop-r-preserved c = adding-turns _ _ _ _ c.loop-r-test.true c.loop-r.invariant (le_trans (row-end (length c.args.total.now) c.loop-r-test.true) c.requires) refl c.add_row.ensures

pub returns : goal.returns
returns c = adding-ends _ _ _ _ c.loop-r-test.false c.loop-r.invariant

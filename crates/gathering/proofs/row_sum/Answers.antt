-- `row_sum`: the sum over the row's part is that of the matrix's row. Assumes nothing.
use mathlib.Core.Path.{◌∙◌}
use native.Mathlib.Nat.{le_refl}
use Rattle.field.proofs.Fields.{our-field}
use Rattle.fills.proofs.Flat.{part-inner}
use Rattle.gathering.proofs.row_sum.Goals as goal

pub returns : goal.returns
returns c = c.dot.ensures ∙ part-inner _ (our-field c.args.q) c.args.i _ c.args.checks.now c.args.v.now (le_refl _)

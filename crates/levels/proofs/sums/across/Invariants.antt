-- `sums::across`: the sums of the rows passed are in place, and a row less is to come. Assumes nothing.
use lib.ListN.{length}
use Rattle.field.specs.Ours.{field_of}
use Rattle.plans.specs.Tables.{row_sums}
use Rattle.plans.proofs.Copying.{Copying}
use Rattle.levels.proofs.sums.across.Given as goal

abbrev pub invariant-loop-r : goal.invariant-loop-r
invariant-loop-r l = Copying l.initial.sums (row_sums (field_of l.q) (length l.initial.sums) l.symbols l.check) l.sums l.r

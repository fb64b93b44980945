-- Ones for weights: the rows' total under them. Assumes nothing.
use Rattle.field.specs.Ours.{field_of}
use Rattle.plans.specs.Plan.{all_ones}
use Rattle.codewords.specs.Asked.{total_row}
use Rattle.interleaved.proofs.plain_sum.Goals as goal

pub returns : goal.returns
unfolding field_of all_ones total_row
returns c = c.add_rows.ensures

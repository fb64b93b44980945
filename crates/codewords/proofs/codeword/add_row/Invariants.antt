-- After c turns the first c symbols are added, times the weight; the rest of the total is as it was.
use mathlib.Core.List.{map}
use Rattle.fills.specs.Lists.{plus}
use Rattle.field.specs.Field.{mul}
use Rattle.field.specs.Ours.{field_of}
use Rattle.plans.proofs.Copying.{Copying}
use Rattle.codewords.proofs.codeword.add_row.Given as goal

abbrev pub invariant-loop-c : goal.invariant-loop-c
invariant-loop-c l = Copying l.initial.total (plus l.initial.total (map (mul (field_of l.q) l.weight) l.row)) l.total l.c

-- After i turns `most` is the highest of the first i. Assumes nothing.
use Rattle.plans.proofs.Scan.{Highest}
use Rattle.refusals.proofs.all_below.Given as goal

abbrev pub invariant-loop-symbol : goal.invariant-loop-symbol
invariant-loop-symbol l = Highest l.q l.symbols l.symbol-index l.most

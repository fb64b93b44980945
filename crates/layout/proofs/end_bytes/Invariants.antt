-- After k turns the first k values are written, zeros behind them. Assumes nothing.
use Rattle.plans.proofs.Padded.{Padding}
use Rattle.layout.specs.Layout.{report_size}
use Rattle.layout.proofs.end_bytes.Given as goal

abbrev pub invariant-loop-k : goal.invariant-loop-k
invariant-loop-k l = Padding report_size l.value-items l.k l.bytes

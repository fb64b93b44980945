-- After c turns the first c columns are written: data where the mark is clear, 0 where it stands.
use Rattle.encoding.proofs.Placing.{Placing, bit_of}
use Rattle.encoding.proofs.encoding.place_row.Given as goal

abbrev pub invariant-loop-c : goal.invariant-loop-c
invariant-loop-c l = Placing (bit_of l.word) l.data l.initial.row l.c l.next l.row

-- After c turns the symbols of the first c columns are taken where the mark is clear.
use Rattle.encoding.proofs.Placing.{Taking, bit_of}
use Rattle.encoding.proofs.encoding.take_row.Given as goal

abbrev pub invariant-loop-c : goal.invariant-loop-c
invariant-loop-c l = Taking (bit_of l.word) l.row l.initial.data l.c l.next l.data

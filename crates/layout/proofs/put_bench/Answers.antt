-- Head, symbols, marks and sums stand one behind the other, and fill the buffer. Assumes nothing.
use mathlib.Core.Path.{◌≡◌}
use native.Mathlib.Omega.{arith}
use lib.ListN.{length}
use Rattle.plans.specs.Rooms.{row_room, symbol_room, learned_room}
use Rattle.layout.proofs.Benches.{length-words, bench-put}
use Rattle.layout.proofs.put_bench.Goals as goal

pub put-requires : goal.put-requires
put-requires c =
    let symbols : length c.args.bench.now.symbols ≡ symbol_room = omega arith in
    let marks : length c.args.bench.now.marks ≡ row_room = omega arith in
    let sums : length c.args.bench.now.sums ≡ learned_room = omega arith in
    omega (
      arith,
      length-words c.args.bench.now symbols marks sums,
      c.requires.fits,
      c.put-at_symbols.ensures.reached,
      c.put-at_symbols.auto.out,
      c.put-at_marks.ensures.reached,
      c.put-at_marks.auto.out,
      c.put_words-at_sums.ensures.reached,
      c.put_words-at_sums.auto.out,
    )

pub returns : goal.returns
returns c =
    bench-put
    c.args.bench.now
    (omega arith)
    (omega arith)
    (omega arith)
    c.requires.fits
    c.put-at_symbols.ensures
    c.put-at_marks.ensures
    c.put_words-at_sums.ensures
    c.put.ensures

-- One digit, or two. Assumes nothing.
use native.Mathlib.Omega.{arith}
use Rattle.words.proofs.Writing.{put_is}
use Rattle.texts.proofs.Texts.{one-digit, two_digits}
use Rattle.texts.proofs.Text.put_number.Goals as goal

pub returns-then-n-lt10-clause-written : goal.returns-then-n-lt10-clause-written
returns-then-n-lt10-clause-written c =
    let put = c.push.ensures.written in
    record { put = put_is (one-digit c.args.n c.if-n-lt10.true) put; most = omega (arith, put.reached) }

pub returns-else-n-lt10-clause-written : goal.returns-else-n-lt10-clause-written
returns-else-n-lt10-clause-written c =
    let put = c.put.ensures.written in
    record { put = put_is (two_digits c.args.n c.if-n-lt10.false (omega (arith, c.requires.small))) put; most = omega (arith, put.reached) }

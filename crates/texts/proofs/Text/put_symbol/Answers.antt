-- One digit, or two. Assumes nothing.
use mathlib.Core.Logic.{◌≢◌}
use mathlib.Core.Path.{◌≡◌}
use native.Mathlib.Omega.{arith}
use Rattle.words.proofs.Writing.{put_is}
use Rattle.texts.proofs.Texts.{one-shown, two-shown}
use Rattle.texts.proofs.Text.put_symbol.Goals as goal

pub returns-then-is_alone-clause-written : goal.returns-then-is_alone-clause-written
returns-then-is_alone-clause-written c =
    let a = c.args in
    let one : a.digits ≡ 1 = omega (arith, c.requires.digits.some, c.if-is_alone.true) in
    put_is (one-shown a.marked a.symbol one c.digit-low.ensures) c.push.ensures.written

pub returns-else-is_alone-clause-written : goal.returns-else-is_alone-clause-written
returns-else-is_alone-clause-written c =
    let a = c.args in
    let more : a.digits ≢ 1 = λ e. omega (arith, e, c.if-is_alone.false) in
    put_is (two-shown a.marked a.symbol c.requires.digits more c.digit.ensures c.digit-low.ensures) c.put.ensures.written

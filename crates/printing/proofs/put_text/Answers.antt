-- A refusal is told by its number; else the file is read, mended and printed. Assumes nothing.
use mathlib.Core.List.{◌++◌}
use mathlib.Core.Path.{sym, ap, ◌∙◌}
use native.Mathlib.Omega.{arith}
use Rattle.plans.specs.Refusal.{unasked}
use Rattle.plans.proofs.Refusals.{accepted, its-number, refused}
use Rattle.words.proofs.Writing.{put-length, put_then, put_is}
use Rattle.texts.specs.Text.{bytes, item, line_end}
use Rattle.printing.proofs.Printing.{refusal-small, text-refused, text-loaded}
use Rattle.printing.proofs.put_text.Goals as goal

pub put_loaded-requires : goal.put_loaded-requires
unfolding unasked
put_loaded-requires c = record { fit = accepted c.in-Ok.ensures; room = c.requires }

pub returns-in-Ok-clause-written : goal.returns-in-Ok-clause-written
unfolding unasked
returns-in-Ok-clause-written c = put_is (text-loaded _ (accepted c.in-Ok.ensures)) c.put_loaded.ensures.written

pub put_item-requires : goal.put_item-requires
put_item-requires c = record { small = omega (arith, c.number.ensures, refusal-small c.in-Err.refusal); room = omega (arith, c.requires) }

pub put-requires : goal.put-requires
put-requires c =
    let number = c.put_item.ensures.written in
    omega (arith, c.requires, number.most, put-length number.put)

pub returns-in-Err-clause-written : goal.returns-in-Err-clause-written
unfolding unasked bytes item line_end
returns-in-Err-clause-written c =
    let r = c.in-Err.refusal in
    let number = c.number.ensures ∙ its-number r c.in-Err.ensures in
    put_is (text-refused _ (refused r c.in-Err.ensures) ∙ ap (λ n. item "refused " n ++ line_end) (sym number))
    (put_then c.put_item.ensures.written.put c.put.ensures.written)

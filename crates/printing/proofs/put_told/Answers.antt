-- A report's number and what follows it, or a refusal's number. Assumes nothing.
use Rattle.std.specs.Prelude.{Result, Ok, Err}
use mathlib.Core.List.{List, ◌++◌}
use mathlib.Core.Path.{◌≡◌, sym, ap, subst}
use Prim.Native.Nat.{ℕ}
use native.Mathlib.Omega.{arith}
use Rattle.plans.specs.Plan.{plan_of}
use Rattle.plans.specs.Answers.{refusal_number, numbered, answer_number, report_values}
use Rattle.plans.specs.declared.Refusal.{Refusal}
use Rattle.plans.specs.declared.Report.{Report}
use Rattle.texts.specs.Text.{bytes, item, line_end, grid, answer_text, told_text}
use Rattle.words.proofs.Writing.{put-length, put_then, put_is}
use Rattle.printing.specs.Parts.{Printable, PrintableAnswer}
use Rattle.printing.proofs.Printing.{refusal-small}
use Rattle.printing.proofs.put_told.Goals as goal

-- a report that can be printed, and its text
ok_printable : (p : ℕ) {told : Result Report Refusal} {r : Report} {stripe marks : List ℕ} → told ≡ Ok r → PrintableAnswer p (numbered told) stripe marks
    → Printable p r stripe marks
unfolding numbered PrintableAnswer
ok_printable p {stripe = stripe} {marks} e t = subst (λ told. PrintableAnswer p (numbered told) stripe marks) e t

ok_text : (p : ℕ) (rows : List ℕ) {told : Result Report Refusal} {r : Report} → told ≡ Ok r
    → item " answer " (answer_number r.answer) ++ answer_text r.answer (report_values (plan_of p) r) rows ≡ told_text (plan_of p) (numbered told) rows
unfolding numbered told_text
ok_text p rows e = sym (ap (λ told. told_text (plan_of p) (numbered told) rows) e)

err_text : (p : ℕ) (rows : List ℕ) {told : Result Report Refusal} {r : Refusal} → told ≡ Err r
    → item " answer " (refusal_number r) ++ line_end ≡ told_text (plan_of p) (numbered told) rows
unfolding numbered told_text
err_text p rows e = sym (ap (λ told. told_text (plan_of p) (numbered told) rows) e)

pub put_item-requires : goal.put_item-requires
put_item-requires c =
    let h = ok_printable c.args.plan c.in-Ok.is c.requires.printable in
    record { small = omega (arith, c.number.ensures, h.answer); room = omega (arith, c.requires.room) }

pub put_report-requires : goal.put_report-requires
put_report-requires c =
    let number = c.put_item.ensures.written in
    record {
      printable = ok_printable c.args.plan c.in-Ok.is c.requires.printable;
      room = omega (arith, c.requires.room, number.most, put-length number.put);
    }

pub put_item-requires-in-Err : goal.put_item-requires-in-Err
put_item-requires-in-Err c = record { small = omega (arith, c.number-in-Err.ensures, refusal-small c.in-Err.refusal); room = omega (arith, c.requires.room) }

pub put-requires : goal.put-requires
put-requires c =
    let number = c.put_item-in-Err.ensures.written in
    omega (arith, c.requires.room, number.most, put-length number.put)

pub returns-in-Ok-clause-written : goal.returns-in-Ok-clause-written
unfolding bytes item
returns-in-Ok-clause-written c =
    let a = c.args in
    let rows = grid (plan_of a.plan) a.stripe.now a.marks.now in
    let number = put_is (ap (item " answer ") (sym c.number.ensures)) c.put_item.ensures.written.put in
    put_is (sym (ok_text a.plan rows c.in-Ok.is)) (put_then number c.put_report.ensures.written)

pub returns-in-Err-clause-written : goal.returns-in-Err-clause-written
unfolding bytes item line_end
returns-in-Err-clause-written c =
    let a = c.args in
    let rows = grid (plan_of a.plan) a.stripe.now a.marks.now in
    let number = put_is (ap (item " answer ") (sym c.number-in-Err.ensures)) c.put_item-in-Err.ensures.written.put in
    put_is (sym (err_text a.plan rows c.in-Err.is)) (put_then number c.put.ensures.written)

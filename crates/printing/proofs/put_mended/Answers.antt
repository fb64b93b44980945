-- What was read is not refused, so what mending leaves of it can be printed. Assumes nothing.
use Rattle.std.specs.Prelude.{Result}
use mathlib.Core.List.{List}
use mathlib.Core.Path.{◌≡◌, sym, ap, ap₂, ◌∙◌}
use Prim.Native.Nat.{ℕ}
use native.Mathlib.Omega.{arith}
use Rattle.plans.specs.Refusal.{unasked, lent_refusal}
use Rattle.plans.specs.declared.Report.{Report}
use Rattle.repair.specs.Mending.{mend_report, mend_stripe, mend_marks}
use Rattle.steps.proofs.Fit.{fit-lent}
use Rattle.files.specs.File.{symbols_in, marks_in}
use Rattle.files.proofs.Files.{file-fit, read-fit}
use Rattle.texts.specs.Text.{bytes, item, mend_text}
use Rattle.words.proofs.Writing.{put-length, put_then, put_is}
use Rattle.printing.specs.Parts.{Mended, PrintableAnswer}
use Rattle.printing.proofs.Printing.{plan-small, mend-printable, text-mended}
use Rattle.printing.proofs.put_mended.Goals as goal

-- the stripe s and the marks m, as they were read
module _ {p : ℕ} {file stripe marks out : List ℕ} {at : ℕ} {s m : List ℕ} (ask : Mended p file stripe marks out at) (es : s ≡ symbols_in file) (em : m ≡ marks_in file) where
  fit : lent_refusal p s m ≡ 0
  fit =
      ap₂ (lent_refusal p) es em
      ∙ ap (λ k. lent_refusal k (symbols_in file) (marks_in file)) ask.plan
      ∙ fit-lent _ _ _ (read-fit (file-fit file unasked ask.loading.fit).0)

  printable : {told : Result Report ℕ} {t n : List ℕ} → told ≡ mend_report p s m → t ≡ mend_stripe p s m → n ≡ mend_marks p s m → PrintableAnswer p told t n
  printable er et en = mend-printable p s m fit er et en

pub load-requires : goal.load-requires
load-requires c = c.requires.loading

pub put_item-requires : goal.put_item-requires
put_item-requires c =
    let known = (file-fit c.args.file.now unasked c.requires.loading.fit).0.plan-known in
    record { small = omega (arith, c.requires.plan, plan-small _ known); room = omega (arith, c.requires.room) }

pub put_told-requires : goal.put_told-requires
put_told-requires c =
    let e = c.mend-told.ensures in
    let plan = c.put_item.ensures.written in
    record {
      printable = printable c.requires c.load.ensures.stripe_after c.load.ensures.marks_after e.value e.stripe_after e.marks_after;
      room = omega (arith, c.requires.room, plan.most, put-length plan.put);
    }

pub returns-clause-written : goal.returns-clause-written
unfolding bytes item
returns-clause-written c =
    let p = c.args.plan in
    let e = c.mend-told.ensures in
    let read = c.load.ensures in
    put_is (sym (text-mended p _ _ e.value e.stripe_after e.marks_after ∙ ap₂ (mend_text p) read.stripe_after read.marks_after))
    (put_then c.put_item.ensures.written.put c.put_told.ensures.written)

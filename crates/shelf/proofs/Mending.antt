-- What a call of mending leaves, by the report buffer's size and the answer. Assumes nothing.
use mathlib.Core.Path.{◌≡◌, sym, ap, ◌∙◌}
use mathlib.Core.List.{List}
use Rattle.std.specs.Prelude.{Result}
use Prim.Native.Nat.{ℕ}
use lib.ListN.{length}
use Rattle.plans.specs.Plan.{plan_of}
use Rattle.plans.specs.Answers.{answer_number, answered, as_number}
use Rattle.repair.specs.Mending.{mend_report, mend_stripe, mend_marks}
use Rattle.plans.specs.declared.Report.{Report}
use Rattle.layout.specs.Layout.{report_size}
use Rattle.numbers.specs.Numbers.{unfit}
use Rattle.shelf.specs.Calls.{report_after, mend_number, mend_stripe_buffer, mend_marks_buffer, mend_report_buffer}
use Rattle.shelf.proofs.Sizing.{sized-fit, sized-unfit}

module _ (p : ℕ) (stripe marks report : List ℕ) where
  -- the answer's number and the three buffers
  abbrev pub Mended : ℕ → (s m r : List ℕ) → Type 0
  Mended n s m r =
      (n ≡ mend_number p stripe marks report)
      × ((s ≡ mend_stripe_buffer p stripe marks report)
      × ((m ≡ mend_marks_buffer p stripe marks report) × (r ≡ mend_report_buffer p stripe marks report)))

  pub mends-unfit : {n : ℕ} → (length report ≡ report_size → ⊥) → n ≡ unfit p → Mended n stripe marks report
  unfolding mend_number mend_stripe_buffer mend_marks_buffer mend_report_buffer
  mends-unfit h e = (
    e ∙ sym (sized-unfit report_size report _ _ h),
    (sym (sized-unfit report_size report _ _ h), (sym (sized-unfit report_size report _ _ h), sym (sized-unfit report_size report _ _ h))),
  )

  pub mends-fit : length report ≡ report_size → (mended : Result Report ℕ) → mended ≡ mend_report p stripe marks → {n : ℕ} {s m r : List ℕ}
      → n ≡ as_number answer_number (answered mended) → s ≡ mend_stripe p stripe marks → m ≡ mend_marks p stripe marks
      → r ≡ report_after (plan_of p) mended report → Mended n s m r
  unfolding mend_number mend_stripe_buffer mend_marks_buffer mend_report_buffer
  mends-fit fits mended e en es em er = (
    en ∙ ap (λ r. as_number answer_number (answered r)) e ∙ sym (sized-fit report_size report _ _ fits),
    (
      es ∙ sym (sized-fit report_size report _ _ fits),
      (em ∙ sym (sized-fit report_size report _ _ fits), er ∙ ap (λ r. report_after (plan_of p) r report) e ∙ sym (sized-fit report_size report _ _ fits)),
    ),
  )

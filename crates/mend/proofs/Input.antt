-- Bytes that are longer than any plan's file are refused by their header or as too long, and so are the first of them. Assumes nothing.
use mathlib.Core.Path.{◌≡◌, sym, ap, ap₂, ◌∙◌}
use mathlib.Core.Logic.{inl, inr}
use mathlib.Core.List.{List, ◌++◌}
use Prim.Native.Nat.{ℕ, suc, ◌<◌}
use native.Mathlib.Omega.{arith}
use borrow.Author.Tests.{le-leb, ne_eqb}
use lib.Dec.{leb, leb→le, nleb→lt}
use lib.ListN.{length, take}
use lib.Seq.{take_all, take-take, length-take-le, get_or-take}
use Rattle.field.specs.Lists.{when◌then◌else◌}
use Rattle.field.specs.Field.{size, gf32, gf64}
use Rattle.fills.specs.Lists.{all, same}
use Rattle.fills.proofs.Tests.{either}
use Rattle.plans.specs.Plan.{binary_plan, plan1, plan2, plan3, plan4, plan5, no_plan, plan_of, known, marks_offset, wide_marks, word_bytes, symbols_offset, file_length}
use Rattle.plans.specs.Refusal.{first_failed, unasked}
use Rattle.plans.proofs.Plans.{all-plans}
use Rattle.files.specs.File.{header_size, header_of, plan_in, file_refusal}
use Rattle.files.proofs.Files.{file-fit}
use Rattle.texts.specs.Text.{item, line_end, printed}
use Rattle.printing.proofs.Printing.{text-refused}
use Rattle.mend.specs.Input.{longest, NoneLonger, EnoughIsRead}

pub none-longer : NoneLonger
unfolding when◌then◌else◌ size gf32 gf64 all binary_plan plan1 plan2 plan3 plan4 plan5 no_plan marks_offset wide_marks word_bytes symbols_offset file_length
none-longer p = leb→le _ longest (all-plans (λ P. leb (file_length P) longest) tt p)

-- what a file that is too long for every plan is refused by: its plan, then its header, then its length
unfoldable long_refusal : (p : ℕ) (header : List ℕ) → ℕ
long_refusal p header = when known p then (when same header (header_of p) then 20 else 21) else 10

module _ (file : List ℕ) (h : longest < length file) where
  no_length : length file ≡ file_length (plan_of (plan_in file)) → ⊥
  no_length e = absurd (omega (arith, e, none-longer (plan_in file)))

  long-refused : file_refusal file unasked ≡ long_refusal (plan_in file) (take header_size file)
  unfolding when◌then◌else◌ first_failed file_refusal long_refusal
  long-refused = rw (le-leb header_size (length file) (omega arith), ne_eqb (length file) (file_length (plan_of (plan_in file))) no_length)

  long-printed : printed file ≡ item "refused " (long_refusal (plan_in file) (take header_size file)) ++ line_end
  long-printed = text-refused file (λ e. no_length (file-fit file unasked e).0.whole) ∙ ap (λ n. item "refused " n ++ line_end) long-refused

pub enough-is-read : EnoughIsRead
unfolding plan_in
enough-is-read file =
    elim (either (leb (length file) (suc longest))) [
      | inl t ↦ ap printed (take_all (suc longest) file (leb→le _ _ t))
      | inr t ↦ cut (nleb→lt _ _ t)
    ]
  where
    cut : suc longest < length file → printed (take (suc longest) file) ≡ printed file
    cut h =
        let front = take (suc longest) file in
        long-printed front (omega (arith, length-take-le (suc longest) file (omega arith)))
        ∙ ap₂ (λ p header. item "refused " (long_refusal p header) ++ line_end) (get_or-take (suc longest) file 0 0 (omega arith)) (take-take header_size (suc longest) file (omega arith))
        ∙ sym (long-printed file (omega arith))

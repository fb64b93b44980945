-- What is printed has room in the buffer that it is put in. Assumes nothing.
use Rattle.std.proofs.Common.{arith, ap, sym, ◌∙◌, ℕ, ◌-◌, ◌≤◌, ◌≡◌, List, length, replicate, length-append}
use lib.Seq.{length-take-le}
use Rattle.plans.specs.Tables.{padded}
use Rattle.texts.specs.Text.{text_room}
use Rattle.mend.proofs.main.Goals as goal

room : (n : ℕ) (xs : List ℕ) {size : ℕ} {out : List ℕ} → size ≡ length xs → out ≡ padded n xs → size ≤ length out
unfolding padded
room n xs high put = omega (arith, high, ap length put ∙ length-append xs (replicate (n - length xs) 0))

pub slice_bounds-out-end : goal.slice_bounds-out-end
slice_bounds-out-end c = room text_room _ c.text-size.ensures.value c.text-size.ensures.out_after

pub slice_bounds-write_whole-end-2 : goal.slice_bounds-write_whole-end-2
slice_bounds-write_whole-end-2 c = sym (length-take-le _ _ (room text_room _ c.text-size.ensures.value c.text-size.ensures.out_after))

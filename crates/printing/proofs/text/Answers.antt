-- The text fits, and what it leaves of the buffer is zeros. Assumes nothing.
use mathlib.Core.List.{List}
use mathlib.Core.Path.{◌≡◌, ap, ◌∙◌, subst}
use Prim.Native.Nat.{ℕ}
use native.Mathlib.Omega.{arith}
use lib.ListN.{length, replicate, length-replicate}
use Rattle.plans.specs.Tables.{padded}
use Rattle.plans.proofs.Padded.{put-padded}
use Rattle.words.specs.Written.{Put}
use Rattle.texts.specs.Text.{text_room}
use Rattle.printing.proofs.text.Goals as goal

-- from the front of zeros on
front : {old new xs : List ℕ} {at next : ℕ} → old ≡ replicate text_room 0 → at ≡ 0 → Put old at xs next new → new ≡ padded text_room xs
front {new = new} {xs} {at} {next} e z p =
    put-padded text_room (subst (λ i. Put (replicate text_room 0) i xs next new) z (subst (λ l. Put l at xs next new) e p))

pub put_text-requires : goal.put_text-requires
put_text-requires c =
    let text = c.new-text.ensures in
    omega (arith, text.empty, ap length text.zeros ∙ length-replicate {A = ℕ} (length c.args.out.now) 0, c.told-out)

pub returns : goal.returns
returns c =
    let text = c.new-text.ensures in
    let put = c.put_text.ensures.written in
    record {
      value = omega (arith, put.reached, text.empty);
      out_after = front (text.zeros ∙ ap (λ n. replicate n 0) c.told-out) text.empty put;
    }

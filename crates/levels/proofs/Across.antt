-- The sums of the rows under a check, row by row: those of the rows passed are in place. Assumes nothing.
use mathlib.Core.Path.{◌≡◌, sym, ap, ◌∙◌}
use mathlib.Core.List.{List}
use Prim.Native.Nat.{ℕ, ◌+◌, ◌*◌, ◌≤◌, ◌<◌}
use native.Mathlib.Omega.{arith}
use lib.ListN.{length, set}
use lib.Seq.{take_all}
use Rattle.field.specs.Field.{dot}
use Rattle.field.specs.Ours.{field_of}
use Rattle.field.specs.declared.Gf.{Gf}
use Rattle.plans.specs.Tables.{row_sums}
use Rattle.plans.proofs.Copying.{Copying, copying-turns, copying-ends}
use Rattle.plans.proofs.Parts.{part, part_of}
use Rattle.plans.proofs.Summing.{row-sums-length, row-sums-at}

module _ (q : Gf) (check symbols sums : List ℕ) where
  abbrev all : List ℕ
  all = row_sums (field_of q) (length sums) symbols check

  enough : length sums ≤ length all
  enough = let e = row-sums-length (field_of q) (length sums) symbols check in omega arith

  module _ {r : ℕ} (more : r < length sums) where
    pub across-turns : {sum : ℕ} {l : List ℕ} → sum ≡ dot (field_of q) check (part (r * length check) (length check) symbols)
        → Copying sums all l r → Copying sums all (set l r sum) (r + 1)
    across-turns {sum} {l} e s =
        rw (e ∙ ap (dot (field_of q) check) (part_of (r * length check) (length check) symbols) ∙ sym (row-sums-at (field_of q) (length sums) symbols check r more))
        (copying-turns sums all enough s more)

  pub across-ends : {r : ℕ} {l : List ℕ} → length sums ≤ r → Copying sums all l r → l ≡ all
  across-ends end s =
      let e = row-sums-length (field_of q) (length sums) symbols check in copying-ends sums all enough s end ∙ take_all (length sums) all (omega arith)

-- The goals of `put_row` that the search leaves open.
use mathlib.Core.Path.{refl, sym, ap, ◌∙◌}
use Prim.Native.Nat.{◌+◌}
use native.Mathlib.Omega.{arith}
use Rattle.words.proofs.Writing.{writing-turns, writing-put}
use Rattle.files.proofs.Stripes.{length-kept, get_d_kept}
use Rattle.files.proofs.put_row.Goals as goal

pub loop-c-preserved : goal.loop-c-preserved
loop-c-preserved c = let a = c.args in
    let l = c.loop-c in (
      refl,
      writing-turns _ _ _ l.invariant.1 (omega (arith, length-kept a.word a.row.now)) refl
          (c.kept.ensures ∙ get_d_kept a.word a.row.now l.c (omega arith)),
    )

pub returns : goal.returns
returns c = let a = c.args in
    let long = length-kept a.word a.row.now in
    writing-put _ _ _ c.loop-c.invariant.1 (omega (arith, long)) (ap (λ n. a.at + n) (sym long)) (omega arith)

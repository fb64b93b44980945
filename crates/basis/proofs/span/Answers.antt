-- `span`: what search leaves open, by the lemmas of Building.
use mathlib.Core.Path.{◌≡◌, sym, ap, ◌∙◌}
use Prim.Native.Nat.{ℕ}
use native.Mathlib.Nat.{mod-eq_of_lt}
use native.Mathlib.Omega.{arith}
use lib.ListN.{length}
use Rattle.std.proofs.Common.{is_some}
use Rattle.equations.specs.System.{vec}
use Rattle.equations.specs.Words.{column_of}
use Rattle.equations.proofs.Bits.{shifted_one, low_bits}
use Rattle.equations.proofs.Wording.{column-lt}
use Rattle.basis.proofs.Building.{building-start, building-tied, building-more, building-ends, spans-longer}
use Rattle.basis.proofs.span.Goals.{then-rest-ne0, else-rest-ne0+else-is_some}
use Rattle.basis.proofs.span.Goals as goal

pub loop-t-init : goal.loop-t-init
loop-t-init c = building-start _

-- need is met by the columns so far, so by all
pub returns-then-is_some : goal.returns-then-is_some
returns-then-is_some c =
    let one = shifted_one c.loop-t.t (omega arith) in
    let cut = c.gather_column-column.ensures ∙ sym (mod-eq_of_lt (column-lt c.args.checks.now c.args.n _ c.requires.bits c.args.m)) in
    let columns = λ (t : ℕ). column_of c.args.checks.now c.args.m c.args.n (vec c.args.places.now t) in
    let end = c.conclude-end.ensures in
    let tied = building-tied _ _ _ _ _ _ _ c.loop-t.invariant c.reduce-rest.ensures cut one c.if-rest-ne0.false in
    spans-longer columns _ _ _ _ _ _ (omega arith) (sym c.is_some.ensures ∙ c.if-is_some.true) (ap is_some end.same)
    (building-ends columns _ _ _ _ _ _ _ _ tied end (low_bits c.args.need c.args.m c.requires.few))

pub loop-t-preserved : goal.loop-t-preserved
loop-t-preserved c =
    let one = shifted_one c.loop-t.t (omega arith) in
    let cut = c.gather_column-column.ensures ∙ sym (mod-eq_of_lt (column-lt c.args.checks.now c.args.n _ c.requires.bits c.args.m)) in
    elim c.if-rest-ne0.branch [
      | then-rest-ne0 w ↦ rw (w.echelon-is, w.dependency-is, w.keep.ensures)
          (building-more _ _ _ _ _ _ _ c.loop-t.invariant c.reduce-rest.ensures cut one w.if-rest-ne0.true (omega arith))
      | else-rest-ne0+else-is_some w ↦ rw (w.echelon-is, w.dependency-is)
          (building-tied _ _ _ _ _ _ _ c.loop-t.invariant c.reduce-rest.ensures cut one w.if-rest-ne0.false)
    ]

pub returns : goal.returns
returns c =
    let e : c.loop-t.t ≡ length c.args.places.now = omega arith in
    building-ends (λ t. column_of c.args.checks.now c.args.m c.args.n (vec c.args.places.now t)) _ _ _ _ _ _ _ _
    (rw e at c.loop-t.invariant) c.conclude.ensures (low_bits c.args.need c.args.m c.requires.few)

-- Weights and rows are passed side by side, and each row's sum takes its weight into the total. Assumes nothing.
use lib.Dec.{lit<}
use mathlib.Core.Path.{◌≡◌, ◌∙◌}
use mathlib.Core.Logic.{inl, inr}
use native.Mathlib.Omega.{arith}
use Rattle.field.specs.Field.{◌⊕◌}
use Rattle.field.specs.Ours.{field_of}
use Rattle.interleaved.specs.Interleaved.{columns}
use Rattle.interleaved.proofs.Testing.{weighing-starts, weighing-turns, weighing-ends}
use Rattle.interleaved.proofs.weighted_total.Goals as goal

pub loop-weight-init : goal.loop-weight-init
loop-weight-init c =
    let size : c.into_iter-weight-iterator.result.b.size ≡ columns = cc in
    record { can = (tt, rw size (lit< tt)); ends = tt; size = size; begun = weighing-starts c.args.check.now c.args.weights.now c.args.stripe.now (cc) (cc) c.requires }

pub loop-weight-preserved : goal.loop-weight-preserved
unfolding ◌⊕◌ field_of
loop-weight-preserved c =
    let size : c.next.new.self.b.size ≡ columns = c.in-Some.ensures.steps.1.0 ∙ c.loop-weight.invariant.size in
    record {
      can = (tt, rw size (lit< tt));
      ends = tt;
      size = size;
      begun = weighing-turns c.args.check.now c.args.weights.now c.args.stripe.now _ _ c.in-Some.ensures.steps.0 c.in-Some.ensures.steps.1.1.0
          (c.in-Some.ensures.steps.1.1.1 ∙ c.loop-weight.invariant.size) c.dot.ensures c.product-total.ensures c.loop-weight.invariant.begun;
    }

pub returns : goal.returns
returns c =
    weighing-ends c.args.check.now c.args.weights.now c.args.stripe.now c.loop-weight.weight-iterator.b.rest.now
    (elim c.in-None.ensures.steps [
      | inl no-weight ↦ inl no-weight.1.0
      | inr no-row ↦ inr (omega (arith, no-row.1.1.0, c.loop-weight.invariant.size))
    ])
    c.loop-weight.invariant.begun

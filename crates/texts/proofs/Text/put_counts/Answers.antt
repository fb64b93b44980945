-- Each count is below 100. Assumes nothing.
use mathlib.Core.Path.{refl, ◌∙◌}
use native.Mathlib.Omega.{arith}
use Rattle.texts.specs.Text.{bytes, item}
use Rattle.texts.specs.Parts.{numbers}
use Rattle.numbers.proofs.Values.{below_at}
use Rattle.words.proofs.Writing.{joining-starts, joining-length, joining-turns, joining-ends}
use Rattle.texts.proofs.Text.put_counts.Goals as goal

pub loop-count-init : goal.loop-count-init
loop-count-init c = (refl, omega arith, joining-starts _ _ _ _)

pub put_item-requires : goal.put_item-requires
put_item-requires c =
    let l = c.loop-count in
    record {
      small = below_at numbers c.args.counts.now c.requires.small l.count-index c.loop-count-test.true;
      room = omega (arith, c.requires.room, l.invariant.1, joining-length _ _ _ _ l.invariant.2);
    }

pub loop-count-preserved : goal.loop-count-preserved
unfolding bytes item
loop-count-preserved c =
    let l = c.loop-count in
    let e = c.put_item.ensures.written in (
      c.put_item.ensures.same_buffer ∙ l.invariant.0,
      omega (arith, e.most, l.invariant.1),
      joining-turns _ _ _ _ l.invariant.2 c.loop-count-test.true refl e.put.written e.put.reached,
    )

pub returns-clause-same_buffer : goal.returns-clause-same_buffer
returns-clause-same_buffer c = c.loop-count.invariant.0

pub returns-clause-written : goal.returns-clause-written
returns-clause-written c =
    let l = c.loop-count in
    record { put = joining-ends _ _ _ _ l.invariant.2 (omega arith) (omega (arith, c.requires.room, l.invariant.1)); most = omega (arith, l.invariant.1) }

-- `solve_system`: what the solved system of the columns answers is what `fill` answers. Assumes nothing.
use mathlib.Core.Path.{refl}
use native.Mathlib.Omega.{arith}
use borrow.Author.Tests.{not-true, not-false}
use lib.ListN.{length}
use Rattle.field.proofs.Fields.{our-field}
use Rattle.equations.proofs.Elements.{zero-elements}
use Rattle.linear.specs.Steps.{system_room}
use Rattle.linear.proofs.Answers.{settles-none, settles-tied, settles-one}
use Rattle.linear.proofs.Rooms.{system-fits}
use Rattle.linear.proofs.solve_system.Goals as goal

pub gather-requires : goal.gather-requires
gather-requires c = record {
  from = omega (arith, c.requires.shape);
  to = system-fits (length c.args.target.now) (length c.args.places.now) c.requires.few c.requires.narrow;
  placed = c.requires.placed;
  coefficients = c.requires.coefficients;
  sums = c.requires.sums;
  elements = zero-elements _ (our-field c.args.q) system_room;
}

pub returns-then-not-s : goal.returns-then-not-s
returns-then-not-s c =
    settles-none _ _ _ _ _ _ _ _ _ _ c.gather.ensures.gathered c.solve-s.ensures (not-true _ c.if-not-s.true) _

pub returns-then-s : goal.returns-then-s
returns-then-s c =
    settles-tied _ _ _ _ _ _ _ _ _ _ c.gather.ensures.gathered c.solve-s.ensures (not-false _ c.if-not-s.false) c.if-s.true _

pub returns : goal.returns
returns c =
    settles-one _ _ _ _ _ _ _ _ _ _ c.gather.ensures.gathered c.solve-s.ensures (not-false _ c.if-not-s.false) c.if-s.false _ (λ t l. refl)

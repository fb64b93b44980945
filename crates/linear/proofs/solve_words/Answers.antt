-- `solve_words`: what the answer for the columns, each a word, says of them is what `fill` answers. Assumes nothing.
use mathlib.Core.Path.{◌≡◌, sym, ◌∙◌}
use native.Mathlib.Omega.{arith}
use lib.ListN.{length, take, get_or-append}
use Rattle.std.proofs.Common.{length-take}
use Rattle.field.specs.Ours.{field_of}
use Rattle.linear.proofs.Gathering.{words-none, words-tied, words-one}
use Rattle.linear.proofs.solve_words.Goals as goal

pub gather_need-need-requires : goal.gather_need-need-requires
unfolding field_of
gather_need-need-requires c = record { rows = omega (arith, c.requires.shape); few = c.requires.few; sums = c.requires.sums }

pub span-answer-requires : goal.span-answer-requires
unfolding field_of
span-answer-requires c = record {
  rows = omega (arith, c.requires.shape);
  few = omega (arith, c.requires.few);
  narrow = c.requires.narrow;
  below = c.requires.placed.below;
  bits = c.requires.coefficients;
}

pub returns-in_default : goal.returns-in_default
unfolding field_of
returns-in_default c = words-none _ _ _ _ _ _ _ c.requires.coefficients c.gather_need-need.ensures c.span-answer.ensures c.in_default.is _

pub returns-then-is_some : goal.returns-then-is_some
unfolding field_of
returns-then-is_some c =
    words-tied _ _ _ _ _ _ _ c.requires.coefficients c.gather_need-need.ensures c.span-answer.ensures _ c.in-Some.is
    (sym c.is_some.ensures ∙ c.if-is_some.true) _

-- the bits go to the front of the room, one to a place
pub returns : goal.returns
unfolding field_of
returns c =
    let k = length c.args.places.now in
    let long : length (take k c.args.solution.now) ≡ k = omega (arith, length-take k c.args.solution.now, c.requires.narrow, c.told-solution) in
    words-one _ _ _ _ _ _ _ c.requires.coefficients c.gather_need-need.ensures c.span-answer.ensures _ c.in-Some.is
    (sym c.is_some.ensures ∙ c.if-is_some.false) _
    (λ t l. get_or-append c.spread.new.bits _ 0 t (omega (arith, l, c.spread.auto.bits, long)) ∙ c.spread.ensures t (omega (arith, l, long)))

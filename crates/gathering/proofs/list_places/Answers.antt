-- `list_places`: the next place is the lowest bit that is left.
use mathlib.Core.Path.{◌≡◌, refl}
use native.Mathlib.Omega.{arith}
use lib.Count.{ones, ones-le}
use lib.ListN.{length, get_or-append}
use lib.Seq.{get_or-set_same, get_or-set_other}
use Rattle.std.proofs.Common.{length-take}
use Rattle.gathering.proofs.Words.{placing-start, placing-some, placing-turn, placing-end, places-same}
use Rattle.gathering.proofs.list_places.Goals as goal

pub loop-place-init : goal.loop-place-init
loop-place-init c = placing-start _ _ c.ranges.marks.fits

pub overflow_sub-rest : goal.overflow_sub-rest
overflow_sub-rest c =
    placing-some _ _ _ _ _ c.loop-place.invariant (omega (arith, length-take (ones c.args.marks) c.args.places.now))

pub loop-place-preserved : goal.loop-place-preserved
loop-place-preserved c =
    let at = c.loop-place in
    placing-turn _ _ _ _ _ at.invariant _ (omega (arith, length-take (ones c.args.marks) c.args.places.now))
    (λ s b. get_or-set_other at.place-items _ s _ 0 (omega arith)) (get_or-set_same at.place-items _ _ 0 (omega arith))

pub returns : goal.returns
returns c =
    let k = ones c.args.marks in
    let items = c.loop-place.place-items in
    let size : length items ≡ k = omega (arith, length-take k c.args.places.now, ones-le 64 c.args.marks c.ranges.marks.fits) in
    record {
      count = refl;
      places = places-same _ _ _ _ (λ t l. get_or-append items _ 0 t (omega arith)) (placing-end _ _ _ _ _ c.loop-place.invariant (omega arith));
    }

-- `scatter`: what search leaves open, by the lemmas of Columns.
use mathlib.Core.Path.{refl}
use Rattle.std.proofs.lemmas.List.{length_push}
use Rattle.std.proofs.lemmas.Slice.Zip.{zip_turn}
use Rattle.gathering.specs.Steps.{scattered}
use Rattle.gathering.proofs.Columns.{scattered-more}
use Rattle.gathering.proofs.scatter.Goals as goal

pub loop-place-init : goal.loop-place-init
unfolding scattered
loop-place-init c = refl

pub loop-place-preserved : goal.loop-place-preserved
loop-place-preserved c =
    let turn = zip_turn c.args.places.now c.args.x.now c.loop-place.yielded c.into_iter-place-iterator.result c.loop-place.place-iterator c.next.new.self c.next.result (cc) (cc) c.loop-place.yielded_by _ c.in-Some.is c.next.ensures.steps in
    rw (length_push c.loop-place.yielded (c.in-Some.place, c.in-Some.symbol), turn.2 0, turn.3 0) (scattered-more _ _ _ _ _ c.loop-place.invariant)

-- `make_fresh`: stripe and marks are copied over the bench's zeros. Assumes nothing.
use Rattle.std.proofs.Common.{rules}
use Prim.Native.Nat.{◌≤◌}
use lib.ListN.{length}
use Rattle.plans.specs.Rooms.{row_room, symbol_room}
use Rattle.plans.proofs.Plans.{rows-most, symbols-most}
use Rattle.plans.proofs.Refusals.{lent_fits, stripe-length, marks-length}
use Rattle.steps.proofs.Ends.{fresh-made}
use Rattle.steps.proofs.make_fresh.Goals as goal

pub slice_bounds-copy_from_slice-end : goal.slice_bounds-copy_from_slice-end
slice_bounds-copy_from_slice-end c =
    let fits : length c.args.stripe.now ≤ symbol_room = rw (stripe-length _ _ _ (lent_fits _ _ _ c.requires.fits).lengths) (symbols-most _) in
    search rules

pub slice_bounds-copy_from_slice-end-3 : goal.slice_bounds-copy_from_slice-end-3
slice_bounds-copy_from_slice-end-3 c =
    let fits : length c.args.marks.now ≤ row_room = rw (marks-length _ _ _ (lent_fits _ _ _ c.requires.fits).lengths) (rows-most _) in
    search rules

pub returns : goal.returns
returns c = fresh-made c.args.plan c.args.stripe.now c.args.marks.now c.requires.blank c.copy_from_slice.ensures.after c.copy_from_slice-2.ensures.after

-- `encode`: the data are placed around the check places, and these are mended as marks. Assumes nothing.
use lib.Seq.{length-take-le}
use mathlib.Core.Path.{sym}
use Rattle.encoding.proofs.Carrying.{lent-fit}
use Rattle.repair.proofs.Encoding.{places-few, encode-fits, encode-refused, encode-done}
use Rattle.repair.proofs.encode.Goals as goal

pub returns-in_err-encode_refusal-clause-stripe_after : goal.returns-in_err-encode_refusal-clause-stripe_after
returns-in_err-encode_refusal-clause-stripe_after c = encode-refused _ _ _ _ c.in_err-encode_refusal.ensures

pub slice_bounds-words-end : goal.slice_bounds-words-end
slice_bounds-words-end c = places-few c.args.plan c.check_places-places.ensures

pub slice_bounds-marks-end : goal.slice_bounds-marks-end
slice_bounds-marks-end c = sym (length-take-le _ _ (places-few c.args.plan c.check_places-places.ensures))

pub copy_from_slice-requires : goal.copy_from_slice-requires
copy_from_slice-requires c = length-take-le _ _ (places-few c.args.plan c.check_places-places.ensures)

pub place-requires : goal.place-requires
place-requires c =
    let fits = encode-fits _ _ _ c.in_ok-encode_refusal.ensures in
    lent-fit _ c.check_places-places.ensures _ _ fits.0 fits.1

pub returns-clause-stripe_after : goal.returns-clause-stripe_after
returns-clause-stripe_after c =
    encode-done _ _ _ c.in_ok-encode_refusal.ensures c.check_places-places.ensures c.copy_from_slice.ensures.after c.place.ensures c.mend.ensures.stripe_after

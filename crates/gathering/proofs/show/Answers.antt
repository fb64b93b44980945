-- `show`: zeros at the listed places of the copy hide what is marked, and leave the rest. Assumes nothing.
use mathlib.Core.Path.{◌≡◌, sym, ap, ◌∙◌}
use mathlib.Core.List.{List, ◌++◌}
use Prim.Native.Nat.{ℕ, ◌^◌, ◌≤◌, ◌<◌}
use native.Mathlib.Omega.{arith}
use lib.Count.{ones-le}
use lib.ListN.{length, take, drop}
use lib.Seq.{take-set-lt, take-append_seam}
use Rattle.std.proofs.Common.{length-take, get_or-take}
use Rattle.equations.specs.System.{vec}
use Rattle.equations.proofs.Bits.{bit-bound}
use Rattle.gathering.specs.Steps.{Places, Listed, scattered}
use Rattle.gathering.proofs.Words.{places-same}
use Rattle.gathering.proofs.Columns.{length-scattered, scattered-more, scattered-hides}
use Rattle.gathering.proofs.show.Goals as goal

-- the part that is listed
module _ (marks k n : ℕ) (places : List ℕ) (L : Listed marks k (vec places)) (fit : marks < 2 ^ n) (narrow : n ≤ length places) where
  few : k ≤ n
  few = omega (arith, L.count, ones-le n marks fit)

  long : length (take k places) ≡ k
  long = omega (arith, length-take k places, few)

  listed : Places marks k (vec (take k places))
  listed = places-same _ _ _ _ (λ t l. get_or-take k places t 0 l) L.places

  below : (t : ℕ) → t < k → vec (take k places) t < n
  below t l = bit-bound n marks _ fit (listed.marked t l)

pub loop-place-init : goal.loop-place-init
unfolding scattered
loop-place-init c =
    let copied = c.copy_from_slice.ensures.after in
    let rest = drop (length c.args.v.now) c.args.shown.now in
    ap (λ v. take (length v) (c.copy_from_slice.new.self ++ rest)) (sym copied) ∙ take-append_seam c.copy_from_slice.new.self rest ∙ copied

pub bounds-shown-place : goal.bounds-shown-place
bounds-shown-place c =
    let list = c.list_places-k in
    let narrow : length c.args.v.now ≤ length list.new.places = omega (arith, list.array_long, c.requires.narrow) in
    let l : c.loop-place.place-index < list.result = omega (arith, long _ _ _ _ list.ensures c.requires.within narrow) in
    omega (arith, below _ _ _ _ list.ensures c.requires.within narrow _ l)

pub loop-place-preserved : goal.loop-place-preserved
loop-place-preserved c =
    let list = c.list_places-k in
    let narrow : length c.args.v.now ≤ length list.new.places = omega (arith, list.array_long, c.requires.narrow) in
    let l : c.loop-place.place-index < list.result = omega (arith, long _ _ _ _ list.ensures c.requires.within narrow) in
    take-set-lt (length c.args.v.now) c.loop-place.shown _ 0 (below _ _ _ _ list.ensures c.requires.within narrow _ l)
    ∙ scattered-more _ _ _ _ _ c.loop-place.invariant

pub returns : goal.returns
returns c =
    let list = c.list_places-k in
    let narrow : length c.args.v.now ≤ length list.new.places = omega (arith, list.array_long, c.requires.narrow) in
    let size = long _ _ _ _ list.ensures c.requires.within narrow in
    let end : c.loop-place.place-index ≡ list.result = omega (arith, size) in
    let places = listed _ _ _ _ list.ensures c.requires.within narrow in
    record {
      few = few _ _ _ _ list.ensures c.requires.within narrow;
      shown = record {
        listed = rw size places;
        within = c.requires.within;
        size = ap length c.loop-place.invariant ∙ length-scattered c.args.v.now _ _ _;
        hides = λ x l. ap (λ s. vec s x) (rw end at c.loop-place.invariant)
            ∙ scattered-hides c.args.marks _ _ _ places (below _ _ _ _ list.ensures c.requires.within narrow) x;
      };
    }

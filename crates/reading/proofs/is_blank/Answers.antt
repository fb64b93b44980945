-- The symbols are compared with themselves blanked, which stand at the front of the room. Assumes nothing.
use mathlib.Core.Path.{◌≡◌, sym, ap, ◌∙◌}
use mathlib.Core.List.{List}
use Prim.Native.Nat.{ℕ, ◌≤◌}
use native.Mathlib.Omega.{arith}
use lib.ListN.{length, take, replicate}
use lib.Seq.{sets}
use Rattle.fills.specs.Lists.{same}
use Rattle.plans.specs.Plan.{plan_of, marks_of}
use Rattle.plans.specs.Rooms.{symbol_room}
use Rattle.plans.proofs.Plans.{shape}
use Rattle.words.proofs.Writing.{front-set}
use Rattle.files.specs.File.{blanked}
use Rattle.files.specs.Parts.{Symbols}
use Rattle.files.proofs.Stripes.{length-blanked, length-marks-of}
use Rattle.files.proofs.Files.{bytes-same}
use Rattle.reading.proofs.is_blank.Goals as goal

module _ {p : ℕ} {symbols marks : List ℕ} (ask : Symbols p symbols marks) where
  long : length (blanked (marks_of (plan_of p) marks) symbols) ≡ length symbols
  long = length-blanked _ _ ∙ length-marks-of (plan_of p) _ ∙ sym ask.long

  small : length symbols ≤ symbol_room
  small = omega (arith, ask.long, shape _ ask.plan-known)

  module _ {room : List ℕ} (e : room ≡ sets (replicate symbol_room 0) 0 (blanked (marks_of (plan_of p) marks) symbols)) where
    front : take (length symbols) room ≡ blanked (marks_of (plan_of p) marks) symbols
    front = ap (take (length symbols)) e ∙ front-set _ _ (replicate symbol_room 0) long small

    front_long : length symbols ≡ length (take (length symbols) room)
    front_long = sym (ap length front ∙ long)

pub put_symbols-requires : goal.put_symbols-requires
put_symbols-requires c = record { sized = c.requires; room = omega (arith, small c.requires) }

pub slice_bounds-blank-end : goal.slice_bounds-blank-end
slice_bounds-blank-end c = omega (arith, c.put_symbols.auto.file, small c.requires)

pub slice_bounds-eq-end : goal.slice_bounds-eq-end
slice_bounds-eq-end c = front_long c.requires c.put_symbols.ensures.written

pub returns : goal.returns
returns c = c.eq.ensures ∙ bytes-same _ _ ∙ ap (same c.args.symbols.now) (front c.requires c.put_symbols.ensures.written)

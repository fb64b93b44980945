-- Where a column is free, it read off with a 1 at its own place gives 0; where none is, only zero does. Assumes nothing.
use native.Mathlib.Omega.{arith}
use lib.Seq.{get_or-set_same, get_or-set_other}
use Rattle.field.proofs.Fields.{our-field}
use Rattle.elimination.proofs.Elimination.{dependent-yes, dependent-no}
use Rattle.systems.proofs.find_dependency.Goals as goal

pub returns-in_default : goal.returns-in_default
returns-in_default c =
    dependent-no _ (our-field c.args.shape.field) _ _ _ _ _ _ c.requires.readable.form (rw c.in_default.is at c.requires.loose)

pub returns : goal.returns
returns c =
    let z = c.read_off.new.z in
    let loose = rw c.in-Some.is at c.requires.loose in
    dependent-yes _ (our-field c.args.shape.field) _ _ _ _ _ _ _ _ c.requires.readable.form loose
    (λ i. c.requires.readable.held.elements _) c.read_off.ensures
    (λ j ne. get_or-set_other z _ j 1 0 ne) (get_or-set_same z _ 1 0 (omega (arith, loose)))

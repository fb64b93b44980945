-- `factor`: x + 1 times the inverse of y; where x is 1 that is 0. Assumes nothing.
use mathlib.Core.Path.{sym, ap, ◌∙◌}
use Prim.Native.Nat.{ℕ}
use Rattle.field.specs.Field.{◌⊕◌, mul, inverse}
use Rattle.field.specs.Ours.{field_of}
use Rattle.field.proofs.Sum.{⊕-self}
use Rattle.field.proofs.Laws.{zero-mul}
use Rattle.field.proofs.Fields.{our-field}
use Rattle.elimination.proofs.factor.Goals as goal

pub returns-then-x-eq1 : goal.returns-then-x-eq1
returns-then-x-eq1 c = let a = c.args in
    let times : ℕ → ℕ = λ x. mul (field_of a.q) x (inverse (field_of a.q) a.y) in
    sym (ap (λ x. times (x ⊕ 1)) c.if-x-eq1.true ∙ ap times (⊕-self 1) ∙ zero-mul _ (our-field a.q) _)

pub returns : goal.returns
unfolding ◌⊕◌
returns c = c.product.ensures ∙ ap (mul _ _) c.inverse.ensures

-- A choice by a buffer's size, and by those of the two text buffers. Assumes nothing.
use mathlib.Core.Path.{◌≡◌, ap, ◌∙◌}
use mathlib.Core.List.{List}
use Prim.Native.Nat.{ℕ}
use lib.ListN.{length}
use borrow.Author.Tests.{eq-eqb, ne_eqb}
use Rattle.field.specs.Lists.{when◌then◌else◌}
use Rattle.texts.specs.Text.{text_room}
use Rattle.shelf.specs.Calls.{sized, size_room, roomy}

module _ {A : Type 0} (n : ℕ) (buffer : List ℕ) (x y : A) where
  pub sized-fit : length buffer ≡ n → sized n buffer x y ≡ x
  unfolding sized when◌then◌else◌
  sized-fit e = ap (λ b. when b then x else y) (eq-eqb (length buffer) n e)

  pub sized-unfit : (length buffer ≡ n → ⊥) → sized n buffer x y ≡ y
  unfolding sized when◌then◌else◌
  sized-unfit h = ap (λ b. when b then x else y) (ne_eqb (length buffer) n h)

module _ {A : Type 0} (text size : List ℕ) (x y : A) where
  pub roomy-fit : length text ≡ text_room → length size ≡ size_room → roomy text size x y ≡ x
  unfolding roomy
  roomy-fit e f = sized-fit text_room text (sized size_room size x y) y e ∙ sized-fit size_room size x y f

  pub roomy-no-text : (length text ≡ text_room → ⊥) → roomy text size x y ≡ y
  unfolding roomy
  roomy-no-text h = sized-unfit text_room text (sized size_room size x y) y h

  pub roomy-no-size : length text ≡ text_room → (length size ≡ size_room → ⊥) → roomy text size x y ≡ y
  unfolding roomy
  roomy-no-size e h = sized-fit text_room text (sized size_room size x y) y e ∙ sized-unfit size_room size x y h

-- Buffers of elements of a field. Assumes nothing.
use Prim.Native.Nat.{ℕ, zero, suc, ◌<◌}
use mathlib.Core.Path.{◌≡◌, refl}
use mathlib.Core.List.{List}
use native.Mathlib.Decide.{ℕ_discrete}
use lib.ListN.{length, set, replicate}
use lib.Seq.{get_or-set_same, get_or-set_other}
use Rattle.field.specs.Field.{Field, size}
use Rattle.field.proofs.Laws.{IsField, size-pos}
use Rattle.equations.specs.System.{vec, Elements}

-- a store of an element
pub set-elements : (F : Field) (a : List ℕ) (i v : ℕ) → v < size F → i < length a → Elements F (vec a) → Elements F (vec (set a i v))
set-elements F a i v l b h j = elim (ℕ_discrete j i)
    [ yes e ↦ rw (e, get_or-set_same a i v 0 b) l | no ne ↦ rw (get_or-set_other a i j v 0 ne) (h j) ]

-- a buffer of zeros
pub blank : (n j : ℕ) → vec (replicate n 0) j ≡ 0
blank zero j = refl
blank (suc n) zero = refl
blank (suc n) (suc j) = blank n j

pub zero-elements : (F : Field) (K : IsField F) (n : ℕ) → Elements F (vec (replicate n 0))
zero-elements F K n j = rw (blank n j) (size-pos F K)

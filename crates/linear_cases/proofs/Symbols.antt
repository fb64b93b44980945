-- What passes the test is made of elements of the field. Assumes nothing.
use mathlib.Core.Path.{◌≡◌, refl, subst}
use mathlib.Core.List.{List, [], ◌∷◌}
use Prim.Native.Nat.{ℕ, zero, suc, ◌<◌}
use lib.Dec.{T, ltb, ltb→lt}
use Rattle.field.specs.Field.{size, gf2, gf16, gf256}
use Rattle.field.specs.Ours.{field_of}
use Rattle.field.specs.declared.Gf.{Gf}
use Rattle.field.specs.declared.Gf.TheVariants.{Two, Sixteen, Bytes}
use Rattle.field.proofs.Test.{both_left, both_right}
use Rattle.field.proofs.Laws.{size-pos}
use Rattle.field.proofs.Fields.{our-field}
use Rattle.equations.specs.System.{vec, Elements}
use Rattle.linear_cases.specs.Symbols.{size_of, symbols}

size-of : (q : Gf) → size_of q ≡ size (field_of q)
unfolding field_of size gf2 gf16 gf256
size-of Two = refl
size-of Sixteen = refl
size-of Bytes = refl

pub symbols-elements : (q : Gf) (l : List ℕ) → T (symbols q l) → Elements (field_of q) (vec l)
symbols-elements q [] t j = size-pos _ (our-field q)
symbols-elements q (x ∷ xs) t zero = subst (λ n. x < n) (size-of q) (ltb→lt _ _ (both_left (ltb x (size_of q)) (symbols q xs) t))
symbols-elements q (x ∷ xs) t (suc j) = symbols-elements q xs (both_right (ltb x (size_of q)) (symbols q xs) t) j

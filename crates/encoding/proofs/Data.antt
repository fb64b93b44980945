-- Data at the places that are not marked: put there, taken from there, and what two stripes with the same data share. Assumes nothing.
use mathlib.Core.Path.{◌≡◌, refl, sym, ap, ◌∙◌}
use mathlib.Core.Bool.{Bool, true, false}
use mathlib.Core.List.{List, [], ◌∷◌, ◌++◌, flat_map}
use Prim.Native.Nat.{ℕ, suc, ◌+◌}
use native.Mathlib.Nat.{suc_inj}
use native.Mathlib.Omega.{arith}
use lib.Dec.{T}
use lib.ListN.{length, take, drop}
use Rattle.field.specs.Lists.{when◌then◌else◌}
use Rattle.field.proofs.Test.{both}
use Rattle.fills.specs.Lists.{all, only, first, rest, beside}
use Rattle.fills.proofs.Tests.{all_first, all_rest}
use Rattle.fills.proofs.Choices.{Alike}
use Rattle.fills.proofs.Beside.{drop-rest, beside-append, beside-front, beside-alike}
use Rattle.encoding.specs.Data.{placed, taken}
use Rattle.plans.specs.Tables.{unmarked}
use Rattle.words.proofs.Stores.{flat_append}

-- ---- how much is put and taken

pub unmarked-append : (ms ns : List Bool) → unmarked (ms ++ ns) ≡ unmarked ms + unmarked ns
unfolding when◌then◌else◌ only
unmarked-append [] ns = omega arith
unmarked-append (true ∷ ms) ns = unmarked-append ms ns
unmarked-append (false ∷ ms) ns = omega (arith, unmarked-append ms ns)

pub placed-length : (ms : List Bool) (ds : List ℕ) → length (placed ms ds) ≡ length ms
unfolding placed
placed-length [] ds = refl
placed-length (true ∷ ms) ds = ap suc (placed-length ms ds)
placed-length (false ∷ ms) ds = ap suc (placed-length ms (rest ds))

pub placed-all : (q : ℕ → Bool) → T (q 0) → (ms : List Bool) (ds : List ℕ) → T (all q ds) → T (all q (placed ms ds))
unfolding all placed
placed-all q z [] ds t = tt
placed-all q z (true ∷ ms) ds t = both (q 0) (all q (placed ms ds)) z (placed-all q z ms ds t)
placed-all q z (false ∷ ms) ds t =
    both (q (first ds)) (all q (placed ms (rest ds))) (all_first q z ds t) (placed-all q z ms (rest ds) (all_rest q ds t))

pub taken-length : (ms : List Bool) (v : List ℕ) → length (taken ms v) ≡ unmarked ms
unfolding when◌then◌else◌ only flat_map beside taken
taken-length [] v = refl
taken-length (true ∷ ms) v = taken-length ms (rest v)
taken-length (false ∷ ms) v = ap suc (taken-length ms (rest v))

pub taken-all : (q : ℕ → Bool) → T (q 0) → (ms : List Bool) (v : List ℕ) → T (all q v) → T (all q (taken ms v))
unfolding when◌then◌else◌ all flat_map beside taken
taken-all q z [] v t = tt
taken-all q z (true ∷ ms) v t = taken-all q z ms (rest v) (all_rest q v t)
taken-all q z (false ∷ ms) v t =
    both (q (first v)) (all q (taken ms (rest v))) (all_first q z v t) (taken-all q z ms (rest v) (all_rest q v t))

-- ---- in two parts

-- the data behind those of the first part go to the second
pub placed-append : (ms ns : List Bool) (ds : List ℕ) → placed (ms ++ ns) ds ≡ placed ms ds ++ placed ns (drop (unmarked ms) ds)
unfolding when◌then◌else◌ only placed
placed-append [] ns ds = refl
placed-append (true ∷ ms) ns ds = ap (λ l. 0 ∷ l) (placed-append ms ns ds)
placed-append (false ∷ ms) ns ds =
    ap (λ l. first ds ∷ l)
    (placed-append ms ns (rest ds) ∙ ap (λ l. placed ms (rest ds) ++ placed ns l) (sym (drop-rest (unmarked ms) ds)))

pub taken-append : (ms ns : List Bool) (v : List ℕ) → taken (ms ++ ns) v ≡ taken ms v ++ taken ns (drop (length ms) v)
unfolding taken
taken-append ms ns v = ap (flat_map (λ l. l)) (beside-append _ ms ns v) ∙ flat_append (λ l. l) (beside _ ms v) (beside _ ns (drop (length ms) v))

-- what stands behind the places is not taken
pub taken-front : (ms : List Bool) (v : List ℕ) → taken ms (take (length ms) v) ≡ taken ms v
unfolding taken
taken-front ms v = ap (flat_map (λ l. l)) (beside-front _ ms v)

-- ---- put and taken back

-- what was put is taken back
pub taken-placed : (ms : List Bool) (ds : List ℕ) → length ds ≡ unmarked ms → taken ms (placed ms ds) ≡ ds
unfolding when◌then◌else◌ only flat_map first rest beside placed taken
taken-placed [] [] l = refl
taken-placed [] (d ∷ ds) l = absurd (omega arith)
taken-placed (true ∷ ms) ds l = taken-placed ms ds l
taken-placed (false ∷ ms) [] l = absurd (omega arith)
taken-placed (false ∷ ms) (d ∷ ds) l = ap (λ t. d ∷ t) (taken-placed ms ds (suc_inj l))

-- vectors agree where unmarked exactly where the same is taken from them
pub alike-taken : (ms : List Bool) (v w : List ℕ) → Alike ms v w → taken ms v ≡ taken ms w
unfolding when◌then◌else◌ taken
alike-taken ms v w a = ap (flat_map (λ l. l)) (beside-alike _ (λ x y. refl) ms v w a)

pub taken-alike : (ms : List Bool) (v w : List ℕ) → taken ms v ≡ taken ms w → Alike ms v w
unfolding when◌then◌else◌ flat_map first rest beside taken
taken-alike [] v w e = tt
taken-alike (true ∷ ms) v w e = taken-alike ms (rest v) (rest w) e
taken-alike (false ∷ ms) v w e = (ap first e, taken-alike ms (rest v) (rest w) (ap rest e))

-- Data and check places; what encoding and extraction refuse; extraction.
use Rattle.std.specs.Prelude.{ℕ, Bool, true, false, ◌&&◌, eqb, length}
use mathlib.Core.List.{List, [], ◌∷◌, flat_map}
use Rattle.field.specs.Lists.{when◌then◌else◌}
use Rattle.field.specs.Field.{size}
use Rattle.fills.specs.Lists.{first, rest, beside}
use Rattle.plans.specs.Plan.{Plan, plan_of, known, check_places_of, carried}
use Rattle.plans.specs.Refusal.{stripe_fits, all_below, first_failed}
use Rattle.codewords.specs.Codeword.{is_codeword}

-- ---- data and check places

-- the data at the places that are not marked, in order, and 0 at the others
unfoldable pub placed : List Bool → List ℕ → List ℕ
placed [] ds = []
placed (true ∷ ms) ds = 0 ∷ placed ms ds
placed (false ∷ ms) ds = first ds ∷ placed ms (rest ds)

-- the symbols at the places that are not marked, in order
unfoldable pub taken : List Bool → List ℕ → List ℕ
taken ms xs = flat_map (λ l. l) (beside (λ m x. when m then [] else x ∷ []) ms xs)

-- ---- what encoding refuses

unfoldable pub encode_refusal : ℕ → List ℕ → List ℕ → ℕ
encode_refusal p ds stripe =
    let P = plan_of p in
    first_failed ((10, known p) ∷ (11, eqb (length ds) (carried P) && stripe_fits P stripe) ∷ (13, all_below (size P.field) ds) ∷ [])

-- ---- extraction

unfoldable pub extracted : Plan → List ℕ → List ℕ
extracted P stripe = taken (check_places_of P) stripe

unfoldable pub extract_refusal : ℕ → List ℕ → List ℕ → ℕ
extract_refusal p stripe ds =
    let P = plan_of p in
    first_failed ((10, known p) ∷ (11, stripe_fits P stripe && eqb (length ds) (carried P)) ∷ (13, all_below (size P.field) stripe) ∷ (16, is_codeword P stripe) ∷ [])

-- what the lent data buffer holds afterwards
unfoldable pub extract_data : ℕ → List ℕ → List ℕ → List ℕ
extract_data p stripe ds = when eqb (extract_refusal p stripe ds) 0 then extracted (plan_of p) stripe else ds

-- The values beside an answer, each below a bound where all are. Assumes nothing.
use mathlib.Core.Path.{◌≡◌, subst}
use mathlib.Core.List.{List, [], ◌∷◌}
use Prim.Native.Nat.{ℕ, zero, suc, ◌<◌}
use native.Mathlib.Nat.{not-suc-le-zero, le_of_suc-le-suc}
use lib.Dec.{T, ltb, ltb→lt, lit<}
use lib.ListN.{length, take, get_or}
use Rattle.field.proofs.Test.{both_left, both_right}
use Rattle.fills.specs.Lists.{all}
use Rattle.plans.specs.Plan.{Plan}
use Rattle.plans.specs.Refusal.{all_below}
use Rattle.plans.specs.Answers.{place_values, end_values}
use Rattle.plans.specs.declared.Report.{Report}
use Rattle.plans.specs.declared.Place.{Place}
use Rattle.plans.specs.declared.Place.TheVariants.{Row, Across}

pub below_at : (q : ℕ) (xs : List ℕ) → T (all_below q xs) → (i : ℕ) → i < length xs → get_or xs i 0 < q
unfolding all all_below
below_at q [] t i h = absurd (not-suc-le-zero h)
below_at q (x ∷ xs) t zero h = ltb→lt x q (both_left (ltb x q) (all_below q xs) t)
below_at q (x ∷ xs) t (suc i) h = below_at q xs (both_right (ltb x q) (all_below q xs) t) i (le_of_suc-le-suc h)

-- ---- the values of a Clash

pub row_below : {place : Place} {row level q : ℕ} → place ≡ Row row level → T (all_below q (place_values place)) → (level < q) × (row < q)
unfolding place_values
row_below {place} {row} {level} {q} e t =
    let h = below_at q (level ∷ row ∷ []) (subst (λ p. T (all_below q (place_values p))) e t) in (h 0 (lit< tt), h 1 (lit< tt))

pub across-below : {place : Place} {level q : ℕ} → place ≡ Across level → T (all_below q (place_values place)) → level < q
unfolding place_values
across-below {place} {level} {q} e t = below_at q (level ∷ []) (subst (λ p. T (all_below q (place_values p))) e t) 0 (lit< tt)

-- ---- the values of Restored and Stuck

pub end_below : (q : ℕ) (P : Plan) (r : Report) → T (all_below q (end_values P r))
    → (r.level < q) × (r.left < q) × T (all_below q (take (length P.levels) r.rows))
unfolding all all_below end_values
end_below q P r t =
    let counts = take (length P.levels) r.rows in
    let u = both_right (ltb r.level q) (all_below q (r.left ∷ counts)) t in (
      ltb→lt r.level q (both_left (ltb r.level q) (all_below q (r.left ∷ counts)) t),
      ltb→lt r.left q (both_left (ltb r.left q) (all_below q counts) u),
      both_right (ltb r.left q) (all_below q counts) u,
    )

-- The values of Restored and Stuck are the first of a report's five numbers. Assumes nothing.
use mathlib.Core.Path.{◌≡◌, refl, sym, ap, ap₂, ◌∙◌, subst}
use mathlib.Core.List.{List, [], ◌∷◌}
use Prim.Native.Nat.{ℕ, suc, ◌+◌, ◌<◌, ◌≤◌}
use native.Mathlib.Omega.{arith}
use lib.Dec.{T}
use lib.ListN.{length, take, get_or}
use lib.Seq.{length-take-le}
use Rattle.plans.specs.Plan.{plan_of}
use Rattle.plans.specs.Answers.{end_values}
use Rattle.plans.specs.Refusal.{all_below}
use Rattle.plans.specs.declared.Report.{Report}
use Rattle.plans.proofs.Plans.{levels-most}
use Rattle.layout.specs.Layout.{report_size}
use Rattle.numbers.proofs.Values.{below_at}

three-are : (l : List ℕ) → length l ≡ 3 → l ≡ get_or l 0 0 ∷ get_or l 1 0 ∷ get_or l 2 0 ∷ []
three-are [] e = absurd (omega arith)
three-are (x ∷ []) e = absurd (omega arith)
three-are (x ∷ y ∷ []) e = absurd (omega arith)
three-are (x ∷ y ∷ z ∷ []) e = refl
three-are (x ∷ y ∷ z ∷ w ∷ l) e = absurd (omega arith)

-- of a report of a plan that has n levels
module _ (p : ℕ) (r : Report) (three : length r.rows ≡ 3) {n : ℕ} (e : n ≡ length (plan_of p).levels) where
  abbrev five : List ℕ
  five = r.level ∷ r.left ∷ get_or r.rows 0 0 ∷ get_or r.rows 1 0 ∷ get_or r.rows 2 0 ∷ []

  pub end-first : take (n + 2) five ≡ end_values (plan_of p) r
  unfolding end_values
  end-first =
      let two : n + 2 ≡ suc (suc n) = omega arith in
      ap (λ k. take k five) two ∙ ap₂ (λ k l. r.level ∷ r.left ∷ take k l) e (sym (three-are r.rows three))

  -- so many, which is fewer than a report has bytes
  pub few : n + 2 ≤ 5
  few = omega (arith, levels-most p)

  pub end-length : length (take (n + 2) five) ≡ n + 2
  end-length = length-take-le (n + 2) five few

  pub end-room : length (take (n + 2) five) ≤ report_size
  end-room = omega (arith, few, end-length)

  -- a value that is written
  pub end-at : (q : ℕ) → T (all_below q (end_values (plan_of p) r)) → (k : ℕ) → k < length (take (n + 2) five) → get_or (take (n + 2) five) k 0 < q
  end-at q t = below_at q (take (n + 2) five) (subst (λ l. T (all_below q l)) (sym end-first) t)

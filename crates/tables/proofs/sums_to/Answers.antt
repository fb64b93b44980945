-- The sums stand at their level; at level 3 every plan has all its checks. Assumes nothing.
use mathlib.Core.Path.{◌≡◌, ap, ◌∙◌}
use mathlib.Core.Logic.{inl, inr}
use mathlib.Core.List.{map}
use Prim.Native.Nat.{ℕ, min}
use native.Mathlib.Omega.{arith}
use lib.Dec.{leb, leb→le, nleb→lt}
use lib.ListN.{length, get_or}
use Rattle.field.specs.Lists.{up_from}
use Rattle.field.proofs.Lists.{get_or-map-below}
use Rattle.fills.proofs.Tests.{either}
use Rattle.plans.specs.Plan.{plan_of, checks_to}
use Rattle.plans.proofs.Plans.{levels-most, checks-beyond}
use Rattle.tables.proofs.sums_to.Goals as goal

at-level : (p t : ℕ) → get_or (map (λ t. length (checks_to (plan_of p) t)) (up_from 0 4)) (min t 3) 0 ≡ length (checks_to (plan_of p) t)
at-level p t =
    get_or-map-below _ 4 (min t 3) 0 (omega arith)
    ∙ elim (either (leb t 3)) [
      | inl l ↦ let low : min t 3 ≡ t = omega (arith, leb→le t 3 l) in ap (λ t. length (checks_to (plan_of p) t)) low
      | inr l ↦
          let most = levels-most p in
          ap length (checks-beyond (plan_of p) (min t 3) t (omega (arith, nleb→lt t 3 l)) (omega (arith, nleb→lt t 3 l)))
    ]

pub returns : goal.returns
returns c = rw (c.min.ensures, c.facts_of.ensures.sums) (at-level c.args.plan c.args.level)

-- The totals stand at their level; past level 3 no plan has one. Assumes nothing.
use Rattle.std.proofs.Common.{rules}
use mathlib.Core.Path.{◌≡◌, sym, ap, ◌∙◌}
use mathlib.Core.Logic.{inl, inr}
use mathlib.Core.List.{map}
use Prim.Native.Nat.{ℕ}
use native.Mathlib.Omega.{arith}
use lib.Dec.{ltb, ltb→lt, nltb→le}
use lib.ListN.{length, get_or, get_or-eq_default}
use Rattle.field.specs.Lists.{up_from}
use Rattle.field.proofs.Lists.{get_or-map-below}
use Rattle.fills.proofs.Tests.{either}
use Rattle.plans.specs.Plan.{Level, plan_of, no_level, level_of}
use Rattle.plans.proofs.Plans.{levels-most, level-beyond}
use Rattle.tables.proofs.totals.Goals as goal

at-level : (p t : ℕ) → get_or (map (λ t. length (level_of (plan_of p) t).weights) (up_from 0 4)) t 0 ≡ length (level_of (plan_of p) t).weights
unfolding up_from no_level
at-level p t =
    elim (either (ltb t 4)) [
      | inl l ↦ get_or-map-below (λ t. length (level_of (plan_of p) t).weights) 4 t 0 (ltb→lt t 4 l)
      | inr l ↦
          let most = levels-most p in
          get_or-eq_default (map (λ t. length (level_of (plan_of p) t).weights) (up_from 0 4)) 0 (nltb→le t 4 l)
          ∙ sym (ap (λ (L : Level). length L.weights) (level-beyond (plan_of p) t (omega (arith, nltb→le t 4 l))))
    ]

pub returns : goal.returns
returns c =
    let e : c.unwrap_or.result ≡ get_or c.facts_of.result.totals c.args.level 0 = search rules in
    e ∙ rw c.facts_of.ensures.totals (at-level c.args.plan c.args.level)

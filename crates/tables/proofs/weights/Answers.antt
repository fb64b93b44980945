-- Each plan's weights are computed, level by level; the other levels have none. Assumes nothing.
use native.Mathlib.Omega.{arith}
use Rattle.std.proofs.Common.{rules}
use mathlib.Core.Path.{◌≡◌, refl, sym, ap, ap₂}
use mathlib.Core.Logic.{◌≢◌}
use mathlib.Core.List.{[], flat_map}
use Prim.Native.Nat.{ℕ, zero, suc}
use Rattle.field.specs.Lists.{up_from}
use Rattle.field.specs.Field.{◌⊕◌, size, double, times, mul, gf16, gf256}
use Rattle.field.specs.Power.{power}
use Rattle.plans.specs.Plan.{Plan, all_ones, binary_plan, plan1, plan2, plan3, weights4, plan4, plan5, no_plan, plan_of, no_level, level_of}
use Rattle.plans.specs.Tables.{weight_table}
use Rattle.plans.proofs.Plans.{unknown, weights-none}
use Rattle.tables.proofs.weights.Goals.{in_default-via-in-1+in_default, in_default-via-in-2+in_default, in_default-via-in-3+in_default, in_default-via-in-4+in_default, in_default-via-in-5+in_default, in_default-via-in_default}
use Rattle.tables.proofs.weights.Goals as goal

-- what is computed for a number and a level stands for the plan and the level
at : {p k t u : ℕ} → p ≡ k → t ≡ u → weight_table (plan_of k) u ≡ weight_table (plan_of p) t
at e f = ap₂ (λ p t. weight_table (plan_of p) t) (sym e) (sym f)

none : (P : Plan) (t : ℕ) → (level_of P t).weights ≡ [] → [] ≡ weight_table P t
unfolding flat_map weight_table
none P t e = ap (λ rows. flat_map (λ row. row) rows) (sym e)

others : (p t : ℕ) → t ≢ 2 → t ≢ 3 → [] ≡ weight_table (plan_of p) t
others p t n2 n3 = none _ _ (weights-none p t n2 n3)

-- plan 1 has no level 3
lower : (t : ℕ) → t ≢ 2 → (level_of plan1 t).weights ≡ []
unfolding plan1 no_level level_of
lower zero n = refl
lower (suc zero) n = refl
lower (suc (suc zero)) n = absurd (n refl)
lower (suc (suc (suc t))) n = refl

pub returns-in-1-eq2 : goal.returns-in-1-eq2
unfolding flat_map all_ones plan1 plan_of level_of weight_table
returns-in-1-eq2 c = at c.in-1-eq2.is-0 c.in-1-eq2.is-1

pub returns-in-2-eq2 : goal.returns-in-2-eq2
unfolding flat_map all_ones binary_plan plan2 plan_of level_of weight_table
returns-in-2-eq2 c = at c.in-2-eq2.is-0 c.in-2-eq2.is-1

pub returns-in-2-eq3 : goal.returns-in-2-eq3
unfolding flat_map all_ones binary_plan plan2 plan_of level_of weight_table
returns-in-2-eq3 c = at c.in-2-eq3.is-0 c.in-2-eq3.is-1

pub returns-in-3-eq2 : goal.returns-in-3-eq2
unfolding flat_map up_from ◌⊕◌ size double times mul gf16 power all_ones plan3 plan_of level_of weight_table
returns-in-3-eq2 c = at c.in-3-eq2.is-0 c.in-3-eq2.is-1

pub returns-in-3-eq3 : goal.returns-in-3-eq3
unfolding flat_map all_ones plan3 plan_of level_of weight_table
returns-in-3-eq3 c = at c.in-3-eq3.is-0 c.in-3-eq3.is-1

pub returns-in-4-eq2 : goal.returns-in-4-eq2
unfolding flat_map up_from ◌⊕◌ size double times mul gf256 power weights4 plan4 plan_of level_of weight_table
returns-in-4-eq2 c = at c.in-4-eq2.is-0 c.in-4-eq2.is-1

pub returns-in-4-eq3 : goal.returns-in-4-eq3
unfolding flat_map all_ones plan4 plan_of level_of weight_table
returns-in-4-eq3 c = at c.in-4-eq3.is-0 c.in-4-eq3.is-1

pub returns-in-5-eq2 : goal.returns-in-5-eq2
unfolding flat_map all_ones binary_plan plan5 plan_of level_of weight_table
returns-in-5-eq2 c = at c.in-5-eq2.is-0 c.in-5-eq2.is-1

pub returns-in-5-eq3 : goal.returns-in-5-eq3
unfolding flat_map all_ones binary_plan plan5 plan_of level_of weight_table
returns-in-5-eq3 c = at c.in-5-eq3.is-0 c.in-5-eq3.is-1

pub returns-in_default : goal.returns-in_default
unfolding up_from no_plan plan_of no_level level_of
returns-in_default c =
    elim c.in_default.branch [
      | in_default-via-in-1+in_default w ↦ rw w.in_default.is-0 (none plan1 _ (lower c.args.level (omega arith)))
      | in_default-via-in-2+in_default w ↦ others _ _ (omega arith) (omega arith)
      | in_default-via-in-3+in_default w ↦ others _ _ (omega arith) (omega arith)
      | in_default-via-in-4+in_default w ↦ others _ _ (omega arith) (omega arith)
      | in_default-via-in-5+in_default w ↦ others _ _ (omega arith) (omega arith)
      | in_default-via-in_default w ↦ rw (unknown c.args.plan (search rules)) (none no_plan _ refl)
    ]

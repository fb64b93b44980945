-- The goals of `totals_hold` that the search leaves open.
use mathlib.Core.Path.{◌≡◌, sym, ap, subst, ◌∙◌}
use Prim.Native.Nat.{ℕ, ◌-◌, ◌≤◌}
use native.Mathlib.Omega.{arith}
use lib.Dec.{T}
use Rattle.std.specs.declared.slice.ChunksExact.{ChunksExact}
use lib.ListN.{length}
use Rattle.std.proofs.Common.{rules}
use Rattle.field.proofs.Laws.{IsField}
use Rattle.field.proofs.Fields.{our-field}
use Rattle.plans.specs.Plan.{known, plan_of}
use Rattle.plans.specs.Tables.{weight_table}
use Rattle.plans.proofs.Plans.{levels-known, columns-most}
use Rattle.codewords.proofs.Walk.{cutting-turns, cutting-fails, cutting-ends}
use Rattle.codewords.proofs.Holding.{all_give0, rows-pos, weights-cut, none-length, rows-inside, total-pos, its-total}
use Rattle.codewords.proofs.codeword.totals_hold.Goals as goal

its-known : (p level : ℕ) → 1 ≤ level → level ≤ length (plan_of p).levels → T (known p)
its-known p level above within = levels-known p (level - 1) (omega arith)

pub chunks_exact-weights-items-requires : goal.chunks_exact-weights-items-requires
chunks_exact-weights-items-requires c =
    rw c.facts_of-facts.ensures.rows (rows-pos c.args.plan (its-known c.args.plan c.args.level c.requires.above c.requires.within))

pub loop-weights-init : goal.loop-weights-init
loop-weights-init c =
    let p = c.args.plan in
    let k = its-known p c.args.level c.requires.above c.requires.within in
    let size : c.into_iter-weights-iterator.result.size ≡ (plan_of p).rows = cc (c.facts_of-facts.ensures.rows) in
    let all : c.into_iter-weights-iterator.result.rest.now ≡ weight_table (plan_of p) c.args.level = ap (λ (i : ChunksExact ℕ). i.rest.now) c.into_iter-weights-iterator.ensures.into_iter_gives ∙ c.chunks_exact-weights-items.ensures.rest ∙ c.weights.ensures in
    let K = subst IsField c.facts_of-facts.ensures.field.names (our-field c.facts_of-facts.result.field) in
    record { can = rw size (rows-pos p k); ends = tt; size = size; walk = rw all (weights-cut p c.args.level k K c.args.stripe.now) }

pub slice_bounds-room-end : goal.slice_bounds-room-end
slice_bounds-room-end c = rw c.facts_of-facts.ensures.columns (columns-most c.args.plan)

pub slice_bounds-total-end : goal.slice_bounds-total-end
slice_bounds-total-end c = sym (none-length c.args.plan c.facts_of-facts.ensures.columns)

pub add_rows-requires : goal.add_rows-requires
add_rows-requires c =
    rows-inside c.args.plan c.facts_of-facts.ensures (its-known c.args.plan c.args.level c.requires.above c.requires.within) _ c.requires.long
    _ (c.in-Some.ensures.steps.1.1 ∙ c.loop-weights.invariant.size)

pub returns-then-not-vanishes : goal.returns-then-not-vanishes
unfolding all_give0
returns-then-not-vanishes c =
    let high = c.in-Some.ensures.steps.1.1 ∙ c.loop-weights.invariant.size in
    cutting-fails c.loop-weights.invariant.walk _ _ c.in-Some.ensures.steps.1.0 high
    (sym (c.vanishes.ensures ∙ its-total c.args.plan c.facts_of-facts.ensures (its-known c.args.plan c.args.level c.requires.above c.requires.within)
    _ c.requires.long _ high c.add_rows.auto.total c.add_rows.ensures c.requires.above c.level_checks-checks.ensures) ∙ c.if-not-vanishes.true)

pub loop-weights-preserved : goal.loop-weights-preserved
unfolding all_give0
loop-weights-preserved c =
    let high = c.in-Some.ensures.steps.1.1 ∙ c.loop-weights.invariant.size in
    let size : c.next.new.self.size ≡ (plan_of c.args.plan).rows = c.in-Some.ensures.steps.0 ∙ c.loop-weights.invariant.size in
    record {
      can = rw size (rows-pos c.args.plan (its-known c.args.plan c.args.level c.requires.above c.requires.within));
      ends = tt;
      size = size;
      walk = cutting-turns c.loop-weights.invariant.walk _ _ c.in-Some.ensures.steps.1.0 high
          (sym (c.vanishes.ensures ∙ its-total c.args.plan c.facts_of-facts.ensures (its-known c.args.plan c.args.level c.requires.above c.requires.within)
          _ c.requires.long _ high c.add_rows.auto.total c.add_rows.ensures c.requires.above c.level_checks-checks.ensures) ∙ c.if-not-vanishes.false);
    }

pub returns : goal.returns
returns c = cutting-ends c.loop-weights.invariant.walk (omega (arith, c.in-None.ensures.steps.1.0, c.loop-weights.invariant.size))

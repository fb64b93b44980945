-- Level, rows left and the counts stand one behind the other, and a line feed behind them. Assumes nothing.
use mathlib.Core.List.{flat_map}
use mathlib.Core.Path.{◌≡◌, sym, ap, subst}
use Prim.Native.Nat.{ℕ, ◌≤◌}
use native.Mathlib.Omega.{arith}
use lib.Dec.{T}
use lib.ListN.{length, take}
use lib.Seq.{length-take-le}
use Rattle.plans.specs.Plan.{plan_of}
use Rattle.plans.specs.Refusal.{all_below}
use Rattle.plans.specs.declared.Report.{Report}
use Rattle.plans.proofs.Plans.{levels-most}
use Rattle.numbers.proofs.Values.{end_below}
use Rattle.words.proofs.Writing.{put-length, put_then, put_is}
use Rattle.texts.specs.Text.{bytes, item, line_end}
use Rattle.texts.specs.Parts.{numbers}
use Rattle.texts.proofs.Texts.{end-text}
use Rattle.texts.proofs.Text.put_summary.Goals as goal

-- there are counts, up to 3
counts : (p : ℕ) (r : Report) → length r.rows ≡ 3 → {n : ℕ} → n ≡ length (plan_of p).levels → (length (take n r.rows) ≡ n) × (n ≤ 3)
counts p r three {n} e = let few : n ≤ 3 = omega (arith, levels-most p) in (length-take-le n r.rows (omega arith), few)

pub put_item-requires : goal.put_item-requires
put_item-requires c =
    record { small = (end_below numbers (plan_of c.args.plan) c.args.report c.requires.small).0; room = omega (arith, c.requires.room) }

pub put_item-requires-2 : goal.put_item-requires-2
put_item-requires-2 c =
    let level = c.put_item.ensures.written in
    record {
      small = (end_below numbers (plan_of c.args.plan) c.args.report c.requires.small).1;
      room = omega (arith, c.requires.room, level.most, put-length level.put);
    }

pub put-requires : goal.put-requires
put-requires c =
    let level = c.put_item.ensures.written in
    let left = c.put_item-2.ensures.written in
    omega (arith, c.requires.room, level.most, put-length level.put, left.most, put-length left.put)

pub slice_bounds-rows-end : goal.slice_bounds-rows-end
slice_bounds-rows-end c = omega (arith, counts c.args.plan c.args.report (omega arith) c.facts_of-levels.ensures.levels)

pub slice_bounds-put_counts-end : goal.slice_bounds-put_counts-end
slice_bounds-put_counts-end c = sym (counts c.args.plan c.args.report (omega arith) c.facts_of-levels.ensures.levels).0

pub put_counts-requires : goal.put_counts-requires
put_counts-requires c =
    let levels = c.facts_of-levels.ensures.levels in
    let some = counts c.args.plan c.args.report (omega arith) levels in
    let level = c.put_item.ensures.written in
    let left = c.put_item-2.ensures.written in
    let rows = c.put.ensures.written in
    record {
      small =
          subst (λ n. T (all_below numbers (take n c.args.report.rows))) (sym levels)
          (end_below numbers (plan_of c.args.plan) c.args.report c.requires.small).2;
      room =
          omega (arith, c.requires.room, level.most, put-length level.put, left.most, put-length left.put, rows.reached, put-length rows, some);
    }

pub put-requires-2 : goal.put-requires-2
put-requires-2 c =
    let some = counts c.args.plan c.args.report (omega arith) c.facts_of-levels.ensures.levels in
    let level = c.put_item.ensures.written in
    let left = c.put_item-2.ensures.written in
    let rows = c.put.ensures.written in
    let each = c.put_counts.ensures.written in
    omega (arith, c.requires.room, level.most, put-length level.put, left.most, put-length left.put, rows.reached, put-length rows, each.most, put-length each.put, some)

pub returns-clause-written : goal.returns-clause-written
unfolding bytes item line_end
returns-clause-written c =
    let r = c.args.report in
    let levels = c.facts_of-levels.ensures.levels in
    let some = counts c.args.plan r (omega arith) levels in
    let level = c.put_item.ensures.written in
    let left = c.put_item-2.ensures.written in
    let rows = c.put.ensures.written in
    let each = c.put_counts.ensures.written in
    let front = put_then (put_then level.put left.put) rows in
    let counted = put_is (ap (λ n. flat_map (item " ") (take n r.rows)) (sym levels)) each.put in
    record {
      put = put_then (put_is (end-text c.args.plan c.requires.plan-known r (omega arith)) (put_then front counted)) c.put-2.ensures.written;
      most = omega (arith, level.most, left.most, rows.reached, each.most, some, c.put-2.ensures.written.reached);
    }

-- What is written is the first of the five numbers, as many as the report has values; each is a byte, and its place is there. Assumes nothing.
use mathlib.Core.Path.{sym, ap, ◌∙◌}
use native.Mathlib.Omega.{arith}
use Rattle.plans.proofs.Padded.{padding-starts, padding-turns, padding-ends}
use Rattle.plans.specs.Tables.{padded}
use Rattle.words.specs.Words.{byte_range}
use Rattle.layout.specs.Layout.{report_size}
use Rattle.layout.proofs.Bytes.{few, end-first, end-length, end-room, end-at}
use Rattle.layout.proofs.end_bytes.Goals as goal

pub overflow_add-size : goal.overflow_add-size
overflow_add-size c = omega (arith, few c.args.plan c.args.report (omega arith) c.facts_of-size.ensures.levels)

pub slice_bounds-values-end : goal.slice_bounds-values-end
slice_bounds-values-end c = few c.args.plan c.args.report (omega arith) c.facts_of-size.ensures.levels

pub slice_bounds-value-items-end : goal.slice_bounds-value-items-end
slice_bounds-value-items-end c = sym (end-length c.args.plan c.args.report (omega arith) c.facts_of-size.ensures.levels)

pub loop-k-init : goal.loop-k-init
loop-k-init c = padding-starts report_size _ (end-room c.args.plan c.args.report (omega arith) c.facts_of-size.ensures.levels)

pub overflow_cast-bytes : goal.overflow_cast-bytes
overflow_cast-bytes c =
    omega (arith, end-at c.args.plan c.args.report (omega arith) c.facts_of-size.ensures.levels byte_range c.requires c.loop-k.k c.loop-k-test.true)

pub loop-k-preserved : goal.loop-k-preserved
loop-k-preserved c =
    padding-turns report_size _ (end-room c.args.plan c.args.report (omega arith) c.facts_of-size.ensures.levels) c.loop-k.invariant c.loop-k-test.true

pub returns : goal.returns
returns c =
    let fits = end-room c.args.plan c.args.report (omega arith) c.facts_of-size.ensures.levels in
    padding-ends report_size _ fits c.loop-k.invariant c.loop-k-test.false
    ∙ ap (padded report_size) (end-first c.args.plan c.args.report (omega arith) c.facts_of-size.ensures.levels)

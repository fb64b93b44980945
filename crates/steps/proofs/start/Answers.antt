-- `start`: what is refused leaves the empty bench; else it becomes the fresh one. Assumes nothing.
use mathlib.Core.Path.{refl, ap, ◌∙◌}
use Rattle.plans.specs.Answers.{numbered}
use Rattle.plans.proofs.Refusals.{accepted, number-pos, its-number, handed-on}
use Rattle.steps.specs.Steps.{empty, stepped}
use Rattle.steps.proofs.Ends.{started-done, started-refused}
use Rattle.steps.proofs.start.Goals as goal

pub returns-in_err-lent_refusal : goal.returns-in_err-lent_refusal
unfolding empty
returns-in_err-lent_refusal c = let e = c.in_err-lent_refusal.ensures in
    ap (stepped empty) (handed-on _ _ c.from_residual.ensures.1) ∙ started-refused c.args.plan c.args.stripe.now c.args.marks.now _ (its-number _ e) (number-pos _)

pub make_fresh-requires-clause-fits : goal.make_fresh-requires-clause-fits
make_fresh-requires-clause-fits c = accepted c.in_ok-lent_refusal.ensures

pub make_fresh-requires-clause-blank : goal.make_fresh-requires-clause-blank
unfolding empty
make_fresh-requires-clause-blank c = refl

pub returns : goal.returns
unfolding numbered
returns c = started-done c.args.plan c.args.stripe.now c.args.marks.now c.make_fresh.ensures (accepted c.in_ok-lent_refusal.ensures)

-- `fill`: where nothing is marked the sums are compared. Assumes nothing.
use mathlib.Core.Path.{sym, ◌∙◌}
use Rattle.linear.specs.Answer.{answer_of, vector_of}
use Rattle.linear.proofs.Answers.{unmarked-one, unmarked-none}
use Rattle.linear.proofs.fill.Goals as goal

pub returns-then-has_sums : goal.returns-then-has_sums
unfolding answer_of vector_of
returns-then-has_sums c =
    let f = unmarked-one c.args.q c.args.checks.now c.args.target.now c.args.v.now c.args.marks c.if-marks-ne0.false
    (sym c.if-has_sums.true ∙ c.has_sums.ensures) in
    record { value = rw f; v_after = rw f }

pub returns-else-has_sums : goal.returns-else-has_sums
unfolding answer_of vector_of
returns-else-has_sums c =
    let f = unmarked-none c.args.q c.args.checks.now c.args.target.now c.args.v.now c.args.marks c.if-marks-ne0.false
    (sym c.if-has_sums.false ∙ c.has_sums.ensures) in
    record { value = rw f; v_after = rw f }

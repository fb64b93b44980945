-- `write_filling`: what is filled has checks and target sums of symbols. Assumes nothing.
use Rattle.linear_cases.proofs.Symbols.{symbols-elements}
use Rattle.linear_cases.proofs.write_filling.Goals as goal

pub fill-answer-requires : goal.fill-answer-requires
fill-answer-requires g c =
    let marked = c.requires.marked in
    record {
      few = marked.few;
      narrow = marked.narrow;
      shape = marked.shape;
      within = marked.within;
      coefficients = symbols-elements _ c.args.checks.now marked.coefficients;
      sums = symbols-elements _ c.args.target.now marked.sums;
    }

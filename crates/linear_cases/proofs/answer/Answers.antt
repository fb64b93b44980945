-- `answer`: what is solved is a system of symbols. Assumes nothing.
use Rattle.std.proofs.Common.{arith, rules, ◌≡◌, length}
use Rattle.linear_cases.proofs.Symbols.{symbols-elements}
use Rattle.linear_cases.proofs.answer.Goals as goal

pub solve-s-requires : goal.solve-s-requires
solve-s-requires g c =
    let size : length c.args.system ≡ 12 = search rules in
    record {
      rows = omega arith;
      pivots = c.requires.pivots;
      solution = c.requires.unknowns;
      dependency = c.requires.unknowns;
      elements = symbols-elements _ c.args.system c.requires.elements;
    }

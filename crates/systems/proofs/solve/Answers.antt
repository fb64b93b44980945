-- The reduced system has the solutions and dependencies of the system, and both are read off it. Assumes nothing.
use Rattle.field.proofs.Fields.{our-field}
use Rattle.elimination.proofs.Elimination.{same-consistency, same-dependence}
use Rattle.systems.proofs.solve.Goals as goal

pub returns : goal.returns
returns c =
    let field = our-field c.args.q in
    let reduced = c.reduce-reduced.ensures in
    record {
      consistency = same-consistency _ field _ _ _ _ reduced.same _ _ (λ i. c.requires.elements _) (λ i. reduced.elements _)
          c.find_solution-consistent.ensures;
      dependence = same-dependence _ field _ _ _ _ reduced.same _ _ c.find_dependency-dependent.ensures;
    }

-- The row is the first of those from r on that the test takes. Assumes nothing.
use borrow.Author.Tests.{tests}
use Rattle.std.proofs.Common.{rules, ◌≡◌, ◌≢◌}
use Rattle.std.proofs.lemmas.Iterator.{first_from_Range}
use Rattle.equations.specs.System.{ent}
use Rattle.elimination.proofs.Turns.{found-is}
use Rattle.elimination.proofs.Shape.find_row.Goals as goal

pub returns : goal.returns
returns c =
    let M = ent c.args.a.now c.args.self.width in
    found-is M _ _ _ _
    (first_from_Range _ _ _ _ (λ i. M i c.args.c ≢ 0) (λ i. M i c.args.c ≡ 0) c.find.ensures.ran
    (λ x q k. search (rules, tests)) (λ x q k. search (rules, tests)))

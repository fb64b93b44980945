-- `fill_marked`: what its callees answer. Assumes nothing.
use mathlib.Core.Path.{◌≡◌, sym, ◌∙◌}
use mathlib.Core.List.{List}
use Prim.Native.Nat.{ℕ, ◌≤◌}
use native.Mathlib.Omega.{arith}
use lib.ListN.{length, take}
use Rattle.std.proofs.Common.{rules, length-take}
use Rattle.equations.proofs.Bits.{bit-bound}
use Rattle.gathering.specs.Most.{most_columns}
use Rattle.linear.proofs.Answers.{settled, settled-filled, settled-kept}
use Rattle.linear.proofs.fill_marked.Goals as goal

-- as many places as columns are marked
few : (k : ℕ) (places : List ℕ) → k ≤ most_columns → length places ≡ most_columns → length (take k places) ≡ k
few k places l e = omega (arith, length-take k places)

pub solve-answer-requires : goal.solve-answer-requires
solve-answer-requires c =
    let shown = c.show-k.ensures.shown in
    record {
      few = c.requires.few;
      narrow = omega (arith, few c.show-k.result c.show-k.new.places (omega (arith, c.show-k.ensures.few, c.requires.narrow)) c.show-k.array_long);
      shape = rw shown.size c.requires.shape;
      placed = record { below = λ t l. omega (arith, bit-bound _ c.args.marks _ shown.within (shown.listed.marked t l), shown.size) };
      coefficients = c.requires.coefficients;
      sums = c.requires.sums;
    }

pub scatter-requires : goal.scatter-requires
scatter-requires c =
    let shown = c.show-k.ensures.shown in
    record {
      placed = record { below = λ t l. bit-bound _ c.args.marks _ shown.within (shown.listed.marked t l) };
      symbols = let room : length c.solve-answer.new.solution ≡ most_columns = search rules in
          omega (arith, few c.show-k.result c.show-k.new.places (omega (arith, c.show-k.ensures.few, c.requires.narrow)) c.show-k.array_long, room);
    }

pub returns-then-eq : goal.returns-then-eq
returns-then-eq c =
    let settles = c.solve-answer.ensures.fills c.args.v.now c.args.marks c.show-k.ensures.shown in
    record {
      value = settled _ _ _ _ _ settles;
      v_after = c.scatter.ensures ∙ settled-filled _ _ _ _ _ settles (search rules);
    }

pub returns-else-eq : goal.returns-else-eq
returns-else-eq c =
    let settles = c.solve-answer.ensures.fills c.args.v.now c.args.marks c.show-k.ensures.shown in
    record { value = settled _ _ _ _ _ settles; v_after = settled-kept _ _ _ _ _ settles (search rules) }

-- By the kind of place: its values are those of the variant. Assumes nothing.
use mathlib.Core.Path.{sym, ap}
use mathlib.Core.List.{◌++◌}
use lib.ListN.{replicate}
use Rattle.plans.specs.Answers.{place_values}
use Rattle.numbers.proofs.Values.{row_below, across-below}
use Rattle.layout.specs.Layout.{place_bytes}
use native.Mathlib.Omega.{arith}
use Rattle.layout.proofs.clash_bytes.Goals as goal

pub overflow_cast-result : goal.overflow_cast-result
overflow_cast-result c = omega (arith, (row_below c.in-Row.is c.requires).1)

pub overflow_cast-result-in-Row : goal.overflow_cast-result-in-Row
overflow_cast-result-in-Row c = omega (arith, (row_below c.in-Row.is c.requires).0)

pub overflow_cast-result-in-Across : goal.overflow_cast-result-in-Across
overflow_cast-result-in-Across c = omega (arith, across-below c.in-Across.is c.requires)

pub returns-in-Row : goal.returns-in-Row
unfolding place_values place_bytes
returns-in-Row c = sym (ap (λ p. replicate 5 0 ++ place_bytes p (place_values p)) c.in-Row.is)

pub returns-in-Across : goal.returns-in-Across
unfolding place_values place_bytes
returns-in-Across c = sym (ap (λ p. replicate 5 0 ++ place_bytes p (place_values p)) c.in-Across.is)

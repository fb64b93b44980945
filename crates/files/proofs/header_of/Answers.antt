-- The bytes are those of the definition, and each fits a byte by the plans' sizes. Assumes nothing.
use mathlib.Core.Path.{refl}
use native.Mathlib.Omega.{arith}
use Rattle.words.specs.Words.{bytes_of}
use Rattle.files.specs.File.{header_of}
use Rattle.plans.specs.Plan.{marks_offset, symbols_offset}
use Rattle.plans.proofs.Plans.{shape}
use Rattle.files.proofs.Stripes.{known-below, word-bytes-most, words-few, wide-byte}
use Rattle.files.proofs.header_of.Goals as goal

pub overflow_mul-facts : goal.overflow_mul-facts
overflow_mul-facts c = omega (arith, (words-few c.args.plan c.facts_of-facts.ensures.word-bytes c.facts_of-facts.ensures.rows))

pub overflow_add-facts : goal.overflow_add-facts
overflow_add-facts c = omega (arith, (words-few c.args.plan c.facts_of-facts.ensures.word-bytes c.facts_of-facts.ensures.rows))

pub overflow_cast-result : goal.overflow_cast-result
overflow_cast-result c = omega (arith, known-below _ c.requires)

pub overflow_cast-result-2 : goal.overflow_cast-result-2
overflow_cast-result-2 c = omega (arith, shape _ c.requires)

pub overflow_cast-result-3 : goal.overflow_cast-result-3
overflow_cast-result-3 c = omega (arith, shape _ c.requires)

pub overflow_cast-result-4 : goal.overflow_cast-result-4
overflow_cast-result-4 c = let facts = c.facts_of-facts.ensures in omega (arith, facts.word-bytes, word-bytes-most c.args.plan)

pub returns : goal.returns
unfolding bytes_of marks_offset symbols_offset header_of
returns c = let facts = c.facts_of-facts.ensures in
    rw (c.size_bytes-symbols.ensures, facts.rows, facts.columns, facts.word-bytes, wide-byte) refl

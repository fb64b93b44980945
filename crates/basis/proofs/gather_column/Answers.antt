-- `gather_column`: the word of those bits, by the lemmas of equations on words.
use Rattle.std.proofs.Common.{rules}
use Rattle.equations.specs.Words.{column_of}
use Rattle.equations.proofs.Wording.{packed-is, coefficient-bit}
use Rattle.basis.proofs.gather_column.Goals as goal

pub returns : goal.returns
unfolding column_of
returns c =
    packed-is _ (coefficient-bit c.args.checks.now c.args.n c.args.p c.requires.bits) _ _ c.word_of.ensures.small
    (λ i l. let h = c.word_of.ensures.each i l in search rules)

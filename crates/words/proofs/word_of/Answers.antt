-- `word_of`: what search leaves open, by the lemmas of Bytes. Assumes nothing.
use mathlib.Core.Path.{◌≡◌}
use native.Mathlib.Omega.{arith}
use Rattle.words.proofs.Bytes.{reading-starts, reading-fits, reading-turns}
use Rattle.words.proofs.word_of.Goals as goal

pub loop-byte-init : goal.loop-byte-init
loop-byte-init c =
    let all : c.into_iter-byte-iterator.result.iter.rest.now ≡ c.args.bytes.now = cc in
    rw all (reading-starts c.args.bytes.now)

pub overflow_mul-word : goal.overflow_mul-word
overflow_mul-word c = omega (arith, reading-fits c.loop-byte.invariant c.next.new.self.iter.rest.now c.in-Some.byte.now c.in-Some.ensures.steps c.type_inv.bytes c.requires)

pub overflow_add-word : goal.overflow_add-word
overflow_add-word c =
    omega (arith, c.from.ensures, reading-fits c.loop-byte.invariant c.next.new.self.iter.rest.now c.in-Some.byte.now c.in-Some.ensures.steps c.type_inv.bytes c.requires)

pub loop-byte-preserved : goal.loop-byte-preserved
loop-byte-preserved c =
    rw (c.from.ensures) (reading-turns c.loop-byte.invariant c.next.new.self.iter.rest.now c.in-Some.byte.now c.in-Some.ensures.steps c.type_inv.bytes)

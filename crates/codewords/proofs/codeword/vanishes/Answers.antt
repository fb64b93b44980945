-- The goals of `vanishes` that the search leaves open.
use mathlib.Core.Path.{◌≡◌, sym, ◌∙◌}
use native.Mathlib.Omega.{arith}
use borrow.Author.Tests.{eq-eqb, ne_eqb}
use lib.ListN.{length}
use Rattle.codewords.proofs.Walk.{cutting-starts, cutting-turns, cutting-fails, cutting-ends}
use Rattle.codewords.proofs.Holding.{gives0, all_give0, give0-walk, none-give}
use Rattle.std.proofs.Common.{rules}
use Rattle.codewords.proofs.codeword.vanishes.Goals as goal

pub returns-then-is_empty : goal.returns-then-is_empty
unfolding all_give0
returns-then-is_empty c = none-give _ c.args.checks.now c.args.v.now (search rules)

pub loop-check-init : goal.loop-check-init
loop-check-init c =
    let size : c.into_iter-check-iterator.result.size ≡ length c.args.v.now = cc in
    let all : c.into_iter-check-iterator.result.rest.now ≡ c.args.checks.now = cc in
    record { can = rw size (search rules); ends = tt; size = size; walk = rw all (cutting-starts (search rules) c.args.checks.now (give0-walk _ _ _)) }

pub returns-then-dot-ne0 : goal.returns-then-dot-ne0
unfolding gives0 all_give0
returns-then-dot-ne0 c =
    cutting-fails c.loop-check.invariant.walk _ _ c.in-Some.ensures.steps.1.0 (c.in-Some.ensures.steps.1.1 ∙ c.loop-check.invariant.size) (ne_eqb _ 0 (λ z. c.if-dot-ne0.true (c.dot.ensures ∙ z)))

pub loop-check-preserved : goal.loop-check-preserved
unfolding gives0
loop-check-preserved c =
    let size : c.next.new.self.size ≡ length c.args.v.now = c.in-Some.ensures.steps.0 ∙ c.loop-check.invariant.size in
    record {
      can = rw size (search rules);
      ends = tt;
      size = size;
      walk = cutting-turns c.loop-check.invariant.walk _ _ c.in-Some.ensures.steps.1.0 (c.in-Some.ensures.steps.1.1 ∙ c.loop-check.invariant.size)
          (eq-eqb _ 0 (sym c.dot.ensures ∙ c.if-dot-ne0.false));
    }

pub returns : goal.returns
unfolding all_give0
returns c = cutting-ends c.loop-check.invariant.walk (omega (arith, c.in-None.ensures.steps.1.0, c.loop-check.invariant.size))

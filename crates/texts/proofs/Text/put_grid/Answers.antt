-- Each row stands in front of what is left of the stripe, and there is room for its line. Assumes nothing.
use mathlib.Core.List.{◌++◌}
use mathlib.Core.Logic.{◌⊎◌, inl, inr}
use mathlib.Core.Path.{◌≡◌, refl, sym, ap, ◌∙◌, subst}
use Prim.Native.Nat.{ℕ, ◌+◌, ◌*◌, ◌≤◌, min}
use native.Mathlib.Omega.{arith}
use lib.ListN.{length}
use Rattle.fills.specs.Marks.{bits_of}
use Rattle.plans.specs.Plan.{plan_of}
use Rattle.plans.proofs.Plans.{columns-most}
use Rattle.texts.specs.Text.{line_end, symbol_digits, shown}
use Rattle.texts.specs.Parts.{Digits}
use Rattle.words.proofs.Writing.{put_is}
use Rattle.texts.proofs.Texts.{plan-digits, columns-pos, row-long, row-room, printing-starts, printing-turns, printing-ends, none-left}
use Rattle.texts.proofs.Text.put_grid.Goals as goal

pub chunks-requires : goal.chunks-requires
chunks-requires c = omega (arith, c.facts_of-columns.ensures.columns, columns-pos c.args.plan c.requires.sized.plan-known)

pub loop-row-init : goal.loop-row-init
loop-row-init c = (refl, (cc (c.facts_of-columns.ensures.columns)), printing-starts c.requires (cc) (cc))

pub loop-row-init-derived : goal.loop-row-init-derived
loop-row-init-derived c = ((omega (arith, (loop-row-init c).1, columns-pos c.args.plan c.requires.sized.plan-known), tt), tt)

pub put_line-requires : goal.put_line-requires
put_line-requires c =
    let P = plan_of c.args.plan in
    let h = c.in-Some.ensures.steps in
    let p = c.loop-row.invariant.2 in
    let row = c.in-Some.row.now in
    let digits = sym c.symbol_digits-digits.ensures in
    let wide = row-long (symbol_digits P) P.columns p h.1 row (h.0.1.1 ∙ ap (λ k. min k (length c.loop-row.row-iterator.a.rest.now)) c.loop-row.invariant.1) in
    record {
      digits = subst Digits digits (plan-digits P);
      narrow = omega (arith, wide, columns-most c.args.plan);
      room =
          let P' : ℕ → Type 0 = λ n. c.loop-row.self.at + length row * n + 1 ≤ length c.loop-row.self.out.now in
          subst P' digits (row-room (symbol_digits P) P.columns p h.1 row wide);
    }

pub loop-row-preserved : goal.loop-row-preserved
loop-row-preserved c =
    let P = plan_of c.args.plan in
    let h = c.in-Some.ensures.steps in
    let p = c.loop-row.invariant.2 in
    let row = c.in-Some.row.now in
    let wide = row-long (symbol_digits P) P.columns p h.1 row (h.0.1.1 ∙ ap (λ k. min k (length c.loop-row.row-iterator.a.rest.now)) c.loop-row.invariant.1) in (
      c.put_line.ensures.same_buffer ∙ c.loop-row.invariant.0,
      h.0.0 ∙ c.loop-row.invariant.1,
      printing-turns (symbol_digits P) P.columns p h.1 row h.0.1.0 wide
          (put_is (ap (λ n. shown n (bits_of (length row) c.in-Some.word.now) row ++ line_end) (sym c.symbol_digits-digits.ensures)) c.put_line.ensures.written),
    )

pub returns-clause-same_buffer : goal.returns-clause-same_buffer
returns-clause-same_buffer c = c.loop-row.invariant.0

pub returns-clause-written : goal.returns-clause-written
returns-clause-written c =
    let P = plan_of c.args.plan in
    let p = c.loop-row.invariant.2 in
    let left = c.loop-row.row-iterator in
    let ended : (length left.a.rest.now ≡ 0) ⊎ (length left.b.rest.now ≡ 0) = elim c.in-None.ensures.steps [ inl u ↦ inl u.1.1.0 | inr u ↦ inr u.1.0 ] in
    printing-ends (symbol_digits P) P.columns p
    (none-left (symbol_digits P) P.columns p (columns-pos c.args.plan c.requires.sized.plan-known) ended)

-- `gather_need`: where a sum is not its target a bit is left, by the lemmas of equations on words.
use mathlib.Core.Bool.{not}
use mathlib.Core.Path.{◌≡◌, refl, ap, ◌∙◌}
use Prim.Native.Nat.{ℕ, ◌<◌}
use lib.Dec.{eqb}
use lib.ListN.{length}
use Rattle.std.proofs.Common.{rules}
use Rattle.field.specs.Field.{◌⊕◌, gf2}
use Rattle.field.specs.Ours.{field_of}
use Rattle.field.proofs.Fields.{gf2-field}
use Rattle.field.proofs.Sum.{of-bits}
use Rattle.equations.specs.System.{vec, ent, inner}
use Rattle.equations.specs.Words.{bit_at}
use Rattle.equations.proofs.Bits.{below-2}
use Rattle.equations.proofs.Inner.{inner-lt}
use Rattle.equations.proofs.Wording.{packed-is, packed-bit}
use Rattle.gathering.proofs.gather_need.Goals as goal

other : (a b : ℕ) → a < 2 → b < 2 → not (eqb a b) ≡ eqb (a ⊕ b) 1
unfolding ◌⊕◌
other a b la lb =
    of-bits (λ a. not (eqb a b) ≡ eqb (a ⊕ b) 1) (of-bits (λ b. not (eqb 0 b) ≡ eqb (0 ⊕ b) 1) refl refl b lb)
    (of-bits (λ b. not (eqb 1 b) ≡ eqb (1 ⊕ b) 1) refl refl b lb) a la

pub returns : goal.returns
unfolding field_of
returns c =
    let checks = c.args.checks.now in
    let target = vec c.args.target.now in
    let n = length c.args.shown.now in
    let sum : ℕ → ℕ = λ i. inner gf2 (ent checks n i) (vec c.args.shown.now) n in
    let small : (i : ℕ) → target i ⊕ sum i < 2 = λ i. below-2 _ (gf2-field.sum_lt _ _ (c.requires.sums i) (inner-lt _ gf2-field _ _ _)) in
    let each : (i : ℕ) → i < length c.args.target.now → eqb (bit_at c.word_of.result i) 1 ≡ not (eqb (target i) (sum i)) =
    λ i l. let h = c.word_of.ensures.each i l in search rules in
    λ i l. ap (λ w. bit_at w i) (packed-is _ small _ _ c.word_of.ensures.small
    (λ j b. each j b ∙ other _ _ (below-2 _ (c.requires.sums j)) (below-2 _ (inner-lt _ gf2-field _ _ _))))
    ∙ packed-bit _ small _ i l

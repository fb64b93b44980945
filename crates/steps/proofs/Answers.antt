-- What the code's answer says of a fill. Assumes nothing.
use mathlib.Core.Path.{◌≡◌, refl}
use mathlib.Core.List.{List}
use Prim.Native.Nat.{ℕ}
use native.Mathlib.Omega.{arith}
use Rattle.linear.specs.Answer.{answer_of, vector_of}
use Rattle.fills.specs.Fill.{Fill, none, tied, one}
use Rattle.linear.specs.declared.FillAnswer.TheVariants.{Tied, None, One}

pub answer-tied : (f : Fill) → answer_of f ≡ Tied → f ≡ tied
unfolding answer_of
answer-tied tied e = refl
answer-tied none e = let z : ◌≡◌ {A = ℕ} 0 1 = cc in absurd (omega arith)
answer-tied (one w) e = let z : ◌≡◌ {A = ℕ} 0 1 = cc in absurd (omega arith)

pub answer-none : (f : Fill) → answer_of f ≡ None → f ≡ none
unfolding answer_of
answer-none tied e = let z : ◌≡◌ {A = ℕ} 0 1 = cc in absurd (omega arith)
answer-none none e = refl
answer-none (one w) e = let z : ◌≡◌ {A = ℕ} 0 1 = cc in absurd (omega arith)

pub answer-one : (f : Fill) (v : List ℕ) → answer_of f ≡ One → f ≡ one (vector_of f v)
unfolding answer_of vector_of
answer-one tied v e = let z : ◌≡◌ {A = ℕ} 0 1 = cc in absurd (omega arith)
answer-one none v e = let z : ◌≡◌ {A = ℕ} 0 1 = cc in absurd (omega arith)
answer-one (one w) v e = refl

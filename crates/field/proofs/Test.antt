-- A test of every number below a bound, computed once, and what it shows of each. Assumes nothing.
use mathlib.Core.Path.{sym, subst}
use mathlib.Core.Bool.{Bool, true, false, ◌&&◌}
use mathlib.Core.Logic.{inl, inr}
use Prim.Native.Nat.{ℕ, zero, suc, ◌<◌}
use native.Mathlib.Nat.{not-suc-le-zero, le_of_suc-le-suc, eq-or-lt_of_le}
use lib.Dec.{T}

pub both_left : (a b : Bool) → T (a && b) → T a
both_left true b t = tt
both_left false b t = t

pub both_right : (a b : Bool) → T (a && b) → T b
both_right true b t = t
both_right false b t = absurd t

pub both : (a b : Bool) → T a → T b → T (a && b)
both true b s t = t
both false b s t = s

-- the test f passes at each number below n
abbrev pub below : ℕ → (ℕ → Bool) → Bool
below zero f = true
below (suc n) f = f n && below n f

pub at : (n : ℕ) (f : ℕ → Bool) → T (below n f) → (k : ℕ) → k < n → T (f k)
at zero f t k h = absurd (not-suc-le-zero h)
at (suc n) f t k h =
    elim (eq-or-lt_of_le (le_of_suc-le-suc h)) [
      | inl e ↦ subst (λ i. T (f i)) (sym e) (both_left (f n) (below n f) t)
      | inr l ↦ at n f (both_right (f n) (below n f) t) k l
    ]

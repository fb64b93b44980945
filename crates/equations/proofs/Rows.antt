-- Places in a flat buffer of rows of w: what `omega`, to which `i * w` is an unknown, has to be told. Assumes nothing.
use Prim.Native.Nat.{ℕ, ◌+◌, ◌*◌, ◌≤◌, ◌<◌}
use mathlib.Core.Path.{subst}
use mathlib.Core.Logic.{◌≢◌, ◌⊎◌, inl, inr}
use native.Mathlib.Nat.{mul-le-mul_right, suc-mul}
use native.Mathlib.Decide.{dec_lt}
use native.Mathlib.Omega.{arith}

-- row i lies within m rows
pub row_fits : (m w i : ℕ) → i < m → i * w + w ≤ m * w
row_fits m w i h = subst (λ n. n ≤ m * w) (suc-mul i w) (mul-le-mul_right w h)

-- two rows do not overlap
pub rows_apart : (w i p : ℕ) → i ≢ p → (i * w + w ≤ p * w) ⊎ (p * w + w ≤ i * w)
rows_apart w i p ne = elim (dec_lt i p) [ yes l ↦ inl (row_fits p w i l) | no nl ↦ inr (row_fits i w p (omega arith)) ]

-- A list written over another, from its start on: the loop's invariant. Assumes nothing.
use mathlib.Core.Path.{◌≡◌, refl, sym, ap, ◌∙◌}
use mathlib.Core.List.{List, ◌++◌, append-nil}
use Prim.Native.Nat.{ℕ, ◌+◌, ◌≤◌, ◌<◌}
use native.Mathlib.Nat.{zero-add, le_of_eq}
use native.Mathlib.Numerals.{add-one}
use native.Mathlib.Omega.{arith}
use lib.ListN.{length, take, get_or, set, drop_of_length-le}
use lib.Seq.{paste, paste-zero, paste-suc, length-paste}

-- the first i are copied
pub record Copying (to₀ from to : List ℕ) (i : ℕ) : Type 0 where
  pub within : i ≤ length to₀
  pub long : length to ≡ length to₀
  pub copied : to ≡ paste to₀ 0 from i

module _ (to₀ from : List ℕ) (fits : length to₀ ≤ length from) where
  pub copying-starts : Copying to₀ from to₀ 0
  copying-starts = record { within = omega arith; long = refl; copied = paste-zero to₀ 0 from }

  pub copying-turns : {to : List ℕ} {i : ℕ} → Copying to₀ from to i → i < length to₀ → Copying to₀ from (set to i (get_or from i 0)) (i + 1)
  copying-turns {to} {i} c h =
      let e : set to i (get_or from i 0) ≡ paste to₀ 0 from (i + 1) =
      ap (λ l. set l i (get_or from i 0)) c.copied
      ∙ ap (λ n. set (paste to₀ 0 from i) n (get_or from i 0)) (sym (zero-add i))
      ∙ paste-suc to₀ 0 from i 0 (omega arith) (omega arith)
      ∙ ap (paste to₀ 0 from) (sym (add-one i)) in
      record {
        within = omega arith;
        long = ap length e ∙ length-paste to₀ 0 from (i + 1) (omega arith) (omega arith);
        copied = e;
      }

  pub copying-ends : {to : List ℕ} {i : ℕ} → Copying to₀ from to i → length to₀ ≤ i → to ≡ take (length to₀) from
  copying-ends {to} {i} c h =
      let e : i ≡ length to₀ = omega (arith, c.within) in
      c.copied ∙ ap (paste to₀ 0 from) e
      ∙ ap (λ l. take (length to₀) from ++ l) (drop_of_length-le to₀ (le_of_eq (sym (zero-add (length to₀)))))
      ∙ append-nil (take (length to₀) from)

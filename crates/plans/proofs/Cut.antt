-- A loop over rows: row r of a flat list of R rows of N numbers, as it is cut out, from r * n to r * n + n. Assumes nothing.
use mathlib.Core.Path.{◌≡◌, sym, ap, ap₂, ◌∙◌, subst}
use mathlib.Core.Bool.{Bool}
use mathlib.Core.List.{List}
use Prim.Native.Nat.{ℕ, ◌+◌, ◌*◌, ◌≤◌, ◌<◌}
use native.Mathlib.Nat.{add-mul, le_trans}
use native.Mathlib.Omega.{arith}
use lib.ListN.{length, get_or, take, drop}
use Rattle.fills.specs.Marks.{bits_of}
use Rattle.plans.specs.Plan.{Plan, row_at, marks_at}
use Rattle.plans.proofs.Parts.{part, part_of, part_length}
use Rattle.plans.proofs.Rows.{row-end}

-- turn r of a loop over R rows, by code that has the rows' width N as n
pub record Cut (R N : ℕ) (l : List ℕ) (r n : ℕ) : Type 0 where
  pub long : R * N ≤ length l
  pub below : r < R
  pub wide : n ≡ N

module _ {R N : ℕ} {l : List ℕ} {r n : ℕ} (k : Cut R N l r n) where
  -- the row ends in the list, where the next one starts
  pub cut_inside : r * n + n ≤ length l
  cut_inside = subst (λ m. r * m + m ≤ length l) (sym k.wide) (le_trans (row-end N k.below) k.long)

  pub cut-next : r * n + n ≡ (r + 1) * n
  cut-next = omega (arith, add-mul r 1 n)

  pub cut-length : length (part (r * n) n l) ≡ n
  cut-length = part_length (r * n) n l cut_inside

  pub cut-row : part (r * n) n l ≡ take N (drop (r * N) l)
  cut-row = part_of (r * n) n l ∙ ap (λ m. take m (drop (r * m) l)) k.wide

-- what a function of a mark word's bits and a row of a stripe gives
pub cut-marks : (P : Plan) {l : List ℕ} {r n : ℕ} → Cut P.rows P.columns l r n → {A : Type 0} (f : List Bool → List ℕ → A) (marks : List ℕ)
    → let row = part (r * n) n l in f (bits_of (length row) (get_or marks r 0)) row ≡ f (marks_at P marks r) (row_at P l r)
unfolding marks_at row_at
cut-marks P {r = r} k f marks = ap₂ (λ m row. f (bits_of m (get_or marks r 0)) row) (cut-length k ∙ k.wide) (cut-row k)

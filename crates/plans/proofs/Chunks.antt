-- A loop over the rows of a flat list, R rows of N numbers, by its chunks. Assumes nothing.
use mathlib.Core.Path.{◌≡◌, sym, ap, ◌∙◌}
use mathlib.Core.Logic.{inl, inr}
use mathlib.Core.Bool.{Bool, true, false}
use mathlib.Core.List.{List, ◌∷◌}
use Prim.Native.Nat.{ℕ, ◌+◌, ◌*◌, ◌-◌, ◌≤◌, ◌<◌}
use native.Mathlib.Nat.{zero-mul, add-zero, eq-or-lt_of_le}
use native.Mathlib.Omega.{arith}
use denote.Ref.{Bor}
use lib.ListN.{length, get_or, take, drop, length-drop}
use lib.Seq.{take_at, drop_at, take-take, drop-drop, length-take-le}
use Rattle.std.proofs.lemmas.List.{get_or-drop}
use Rattle.std.specs.Prelude.{Some, None}
use Rattle.std.specs.Slice.Iter.{chunks_size, chunks_rest, chunks_steps}
use Rattle.std.specs.declared.slice.Chunks.{Chunks}
use Rattle.field.specs.Lists.{up_from}
use Rattle.fills.specs.Lists.{all}
use Rattle.plans.proofs.Parts.{drop-take}
use Rattle.plans.proofs.Rows.{row-end}
use Rattle.plans.proofs.Scan.{Passing, passing-none, passing-more, passing-all, up-false}

-- k rows are passed, and each of them passed the test f
pub record Walk (f : ℕ → Bool) (R N : ℕ) (l : List ℕ) (k : ℕ) (s : Chunks ℕ) : Type 0 where
  pub long : R * N ≤ length l
  pub wide : chunks_size s ≡ N
  pub left : chunks_rest s ≡ drop (k * N) (take (R * N) l)
  pub passed : Passing f R k

-- the row whose turn it is
pub record Row (R N : ℕ) (l : List ℕ) (k : ℕ) (row : List ℕ) : Type 0 where
  pub more : k < R
  pub is : row ≡ take N (drop (k * N) l)
  pub long : length row ≡ N

-- the words of a list, each with the row beside it
pub front-turn : (k : ℕ) (l : List ℕ) {x : ℕ} {left next : List ℕ} → left ≡ drop k l → left ≡ x ∷ next → (x ≡ get_or l k 0) × (next ≡ drop (k + 1) l)
front-turn k l e more = (
  ap (λ xs. get_or xs 0 0) (sym more ∙ e) ∙ get_or-drop k l 0 0 ∙ ap (λ i. get_or l i 0) (add-zero k),
  ap (drop 1) (sym more ∙ e) ∙ drop-drop 1 k l,
)

pub walk-starts : {f : ℕ → Bool} {R N : ℕ} {l : List ℕ} {s : Chunks ℕ} → R * N ≤ length l → chunks_size s ≡ N → chunks_rest s ≡ take (R * N) l → Walk f R N l 0 s
walk-starts {f} {R} {N} {l} long wide left = record {
  long = long;
  wide = wide;
  left = left ∙ ap (λ n. drop n (take (R * N) l)) (sym (zero-mul N));
  passed = passing-none;
}

module _ {f : ℕ → Bool} {R N : ℕ} {l : List ℕ} {k : ℕ} {s : Chunks ℕ} (w : Walk f R N l k s) where
  left-length : length (chunks_rest s) ≡ R * N - k * N
  left-length = ap length w.left ∙ length-drop (k * N) (take (R * N) l) ∙ ap (λ n. n - k * N) (length-take-le (R * N) l w.long)

  module _ (t : Chunks ℕ) (row : Bor (List ℕ)) (step : chunks_steps s (Some row) t) where
    pub walk-row : Row R N l k row.now
    walk-row = record {
      more = more;
      is =
          sym (ap (take N) step.1.0 ∙ take_at row.now (chunks_rest t) N long)
          ∙ ap (take N) (w.left ∙ ap (λ n. drop (k * N) (take n l)) all-rows ∙ drop-take (k * N) (R * N - k * N) l)
          ∙ take-take N (R * N - k * N) (drop (k * N) l) (omega (arith, row-end N more));
      long = long;
    }
      where
        more : k < R
        more =
            elim (eq-or-lt_of_le w.passed.within) [
              | inl e ↦ let same : k * N ≡ R * N = ap (λ n. n * N) e in absurd (omega (arith, step.1.2, left-length))
              | inr m ↦ m
            ]

        all-rows : R * N ≡ k * N + (R * N - k * N)
        all-rows = omega (arith, row-end N more)

        long : length row.now ≡ N
        long = omega (arith, step.1.1, left-length, w.wide, row-end N more)

    pub walk-turns : (Row R N l k row.now → f k ≡ true) → Walk f R N l (k + 1) t
    walk-turns e =
        let at : k * N + N ≡ (k + 1) * N = omega arith in
        record {
          long = w.long;
          wide = step.0 ∙ w.wide;
          left =
              sym (ap (drop N) step.1.0 ∙ drop_at row.now (chunks_rest t) N walk-row.long)
              ∙ ap (drop N) w.left ∙ drop-drop N (k * N) (take (R * N) l) ∙ ap (λ n. drop n (take (R * N) l)) at;
          passed = passing-more w.passed walk-row.more (e walk-row);
        }

    pub walk-stops : (Row R N l k row.now → f k ≡ false) → all f (up_from 0 R) ≡ false
    walk-stops e = up-false f R k walk-row.more (e walk-row)

  -- with no row left every row is passed
  module _ (t : Chunks ℕ) (pos : 0 < N) (step : chunks_steps s None t) where
    pub walk-over : R ≤ k
    walk-over =
        elim (eq-or-lt_of_le w.passed.within) [
          | inl e ↦ omega arith
          | inr m ↦ absurd (omega (arith, row-end N m, step.1.0, left-length))
        ]

    pub walk-ends : all f (up_from 0 R) ≡ true
    walk-ends = passing-all w.passed walk-over

-- What the inner functions that write and read files ask of their callers, and what reading refuses behind the header.
use Rattle.std.specs.Prelude.{ℕ, ◌+◌, ◌*◌, ◌≤◌, ◌≡◌, List, [], ◌∷◌, T, length, take}
use Rattle.fills.specs.Lists.{same}
use Rattle.plans.specs.Plan.{Plan, plan_of, known, marks_of, file_length}
use Rattle.plans.specs.Refusal.{first_failed, unasked, marks_fit, symbols_fit}
use Rattle.words.specs.Words.{word_bits}
use Rattle.files.specs.File.{header_size, header_of, blanked, plan_in, file_refusal}

-- a row no wider than a mark word, and room for it in the file
pub record RowPut (row file : List ℕ) (at : ℕ) : Type 0 where
  pub narrow : length row ≤ word_bits
  pub room : at + length row ≤ length file

-- symbols and mark words as long as a known plan's
pub record Symbols (p : ℕ) (symbols marks : List ℕ) : Type 0 where
  pub plan-known : T (known p)
  pub words : length marks ≡ (plan_of p).rows
  pub long : length symbols ≡ (plan_of p).rows * (plan_of p).columns

-- and room for them in the file
pub record SymbolsPut (p : ℕ) (symbols marks file : List ℕ) (at : ℕ) : Type 0 where
  pub sized : Symbols p symbols marks
  pub room : at + length symbols ≤ length file

-- a file of a known plan with the plan's header and length
pub record Whole (p : ℕ) (file : List ℕ) : Type 0 where
  pub plan-known : T (known p)
  pub plan : p ≡ plan_in file
  pub header : T (same (take header_size file) (header_of p))
  pub long : length file ≡ file_length (plan_of p)

-- a file that is not refused, and buffers as long as its plan's stripe and marks
pub record Loading (file stripe marks : List ℕ) : Type 0 where
  pub fit : file_refusal file unasked ≡ 0
  pub long : length stripe ≡ (plan_of (plan_in file)).rows * (plan_of (plan_in file)).columns
  pub words : length marks ≡ (plan_of (plan_in file)).rows

-- what of a file's marks and symbols is refused, no other test being asked
abbrev pub content_refusal : Plan → (marks symbols : List ℕ) → ℕ
content_refusal P marks symbols =
    first_failed ((12, marks_fit P marks) ∷ (13, symbols_fit P marks symbols) ∷ (22, same symbols (blanked (marks_of P marks) symbols)) ∷ [])

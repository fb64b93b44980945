-- A file of any plan but 4 and 5 is as it was: its plan is, its mark words have four bytes, and byte 3 is 0; so the definitions agree, part by part. Assumes nothing.
use mathlib.Core.Path.{◌≡◌, refl, sym, ap, ap₂, ◌∙◌, fun_ext}
use mathlib.Core.Bool.{false, ◌&&◌, and-false}
use mathlib.Core.List.{List, [], ◌∷◌, ◌++◌, map, flat_map}
use Prim.Native.Nat.{ℕ, zero, suc, ◌+◌, ◌*◌, ◌/◌, ◌%◌, ◌^◌, ◌<◌}
use native.Mathlib.Omega.{arith}
use borrow.Author.Tests.{lt-leb}
use lib.Dec.{ltb}
use lib.ListN.{get_or, take, drop}
use lib.Pow.{shr-shr}
use Rattle.field.specs.Lists.{when◌then◌else◌, up_from}
use Rattle.field.specs.Field.{size, gf32}
use Rattle.plans.specs.Plan.{Plan, plan1, plan2, plan3, binary_plan, no_plan, plan_of, known, marks_of, marks_offset, wide_marks, word_bytes, symbols_offset, file_length}
use Rattle.words.specs.Words.{bytes_of, number_at, words_at}
use Rattle.files.specs.File.{header_of, blanked, file_of, write_refusal, write_file, plan_in, marks_in, symbols_in, file_refusal, read_refusal, read_stripe, read_marks}
use Rattle.files.specs.Before.{plan_before, known_before, bytes2, bytes4, word_at, offset_before, length_before, header_before, file_before, write_refusal_before, write_file_before, marks_before, symbols_before, read_refusal_before, read_stripe_before, read_marks_before, Older, AsBefore}

-- ---- numbers as bytes

bytes2-as : (n : ℕ) → bytes_of 2 n ≡ bytes2 n
unfolding bytes_of bytes2
bytes2-as n = refl

bytes4-as : bytes_of 4 ≡ bytes4
unfolding bytes_of bytes4
bytes4-as =
    fun_ext (λ n.
    let third = shr-shr n 8 8 in
    ap₂ (λ x y. n % 256 ∷ n / 256 % 256 ∷ x % 256 ∷ y % 256 ∷ []) third (ap (λ q. q / 256) third ∙ shr-shr n 16 8))

word-as : (bytes : List ℕ) (i : ℕ) → number_at 4 bytes i ≡ word_at bytes i
unfolding number_at word_at
word-as bytes i =
    let one : suc i ≡ i + 1 = omega arith in
    let two : suc (suc i) ≡ i + 2 = omega arith in
    let three : suc (suc (suc i)) ≡ i + 3 = omega arith in
    rw (three, two, one) (joined (get_or bytes i 0) (get_or bytes (i + 1) 0) (get_or bytes (i + 2) 0) (get_or bytes (i + 3) 0))
  where
    joined : (a b c d : ℕ) → a + 256 * (b + 256 * (c + 256 * (d + 256 * 0))) ≡ a + b * 256 + c * 2 ^ 16 + d * 2 ^ 24
    joined a b c d = omega arith

-- ---- what is kept of a number that is neither 4 nor 5

record Kept (p : ℕ) : Type 0 where
  plan : plan_of p ≡ plan_before p
  is_known : known p ≡ known_before p
  narrow : wide_marks (plan_of p) ≡ false

past : (p : ℕ) → 3 < p → known_before p ≡ false
unfolding known_before
past p h = ap (λ b. ltb 0 p && b) (lt-leb p 3 h) ∙ and-false (ltb 0 p)

kept : (p : ℕ) → Older p → Kept p
unfolding size gf32 binary_plan plan1 plan2 plan3 no_plan plan_of known wide_marks plan_before known_before
kept zero h = record { plan = refl; is_known = refl; narrow = refl }
kept (suc zero) h = record { plan = refl; is_known = refl; narrow = refl }
kept (suc (suc zero)) h = record { plan = refl; is_known = refl; narrow = refl }
kept (suc (suc (suc zero))) h = record { plan = refl; is_known = refl; narrow = refl }
kept (suc (suc (suc (suc zero)))) h = absurd (h.0 refl)
kept (suc (suc (suc (suc (suc zero))))) h = absurd (h.1 refl)
kept (suc (suc (suc (suc (suc (suc p)))))) h = record { plan = refl; is_known = sym (past (suc (suc (suc (suc (suc (suc p)))))) (omega arith)); narrow = refl }

-- ---- the parts of a file

module _ {p : ℕ} (k : Kept p) where
  size-as : word_bytes (plan_of p) ≡ 4
  unfolding when◌then◌else◌ word_bytes
  size-as = ap (λ b. when b then 8 else 4) k.narrow

  offset-as : symbols_offset (plan_of p) ≡ offset_before (plan_before p)
  unfolding symbols_offset offset_before
  offset-as = ap₂ (λ n (P : Plan). marks_offset + n * P.rows) size-as k.plan

  length-as : file_length (plan_of p) ≡ length_before (plan_before p)
  unfolding file_length length_before
  length-as = ap₂ (λ n (P : Plan). n + P.rows * P.columns) offset-as k.plan

  header-as : header_of p ≡ header_before p
  unfolding when◌then◌else◌ header_of header_before
  header-as =
      ap₂ (λ b n. p ∷ (plan_of p).rows ∷ (plan_of p).columns ∷ (when b then 1 else 0) ∷ bytes_of 2 marks_offset ++ bytes_of 2 n) k.narrow offset-as
      ∙ ap₂ (λ a b. p ∷ (plan_of p).rows ∷ (plan_of p).columns ∷ 0 ∷ a ++ b) (bytes2-as marks_offset) (bytes2-as (offset_before (plan_before p)))
      ∙ ap (λ (P : Plan). p ∷ P.rows ∷ P.columns ∷ 0 ∷ bytes2 marks_offset ++ bytes2 (offset_before (plan_before p))) k.plan

  -- the bytes of mark words
  words-as : (marks : List ℕ) → flat_map (bytes_of (word_bytes (plan_of p))) marks ≡ flat_map bytes4 marks
  words-as marks = ap (λ f. flat_map f marks) (ap bytes_of size-as ∙ bytes4-as)

  file-as : (stripe marks : List ℕ) → file_of p stripe marks ≡ file_before p stripe marks
  unfolding file_of file_before
  file-as stripe marks =
      ap₂ (λ h w. h ++ w ++ blanked (marks_of (plan_of p) marks) stripe) header-as (words-as marks)
      ∙ ap (λ P. header_before p ++ flat_map bytes4 marks ++ blanked (marks_of P marks) stripe) k.plan

  refusal-as : (stripe marks file : List ℕ) → write_refusal p stripe marks file ≡ write_refusal_before p stripe marks file
  unfolding write_refusal write_refusal_before
  refusal-as stripe marks file = rw (length-as, k.is_known, k.plan) refl

module _ (file : List ℕ) (k : Kept (plan_in file)) where
  marks-as : marks_in file ≡ marks_before file
  unfolding marks_in marks_before
  marks-as =
      ap₂ (λ n (P : Plan). words_at n file marks_offset P.rows) (size-as k) k.plan
      ∙ ap (λ f. map f (up_from 0 (plan_before (plan_in file)).rows)) (fun_ext (λ r. word-as file (marks_offset + 4 * r)))

  symbols-as : symbols_in file ≡ symbols_before file
  unfolding symbols_in symbols_before
  symbols-as = ap₂ (λ n (P : Plan). take (P.rows * P.columns) (drop n file)) (offset-as k) k.plan

  read_as : (stripe marks : List ℕ) → read_refusal file stripe marks ≡ read_refusal_before file stripe marks
  unfolding file_refusal read_refusal read_refusal_before
  read_as stripe marks = rw (marks-as, symbols-as, header-as k, length-as k, k.is_known, k.plan) refl

pub as_before : AsBefore
unfolding write_file write_file_before read_stripe read_stripe_before read_marks read_marks_before
as_before = record {
  writes-refused = λ p stripe marks file h. refusal-as (kept p h) stripe marks file;
  writes = λ p stripe marks file h. rw (refusal-as (kept p h) stripe marks file, file-as (kept p h) stripe marks) refl;
  reads-refused = λ file stripe marks h. read_as file (kept (plan_in file) h) stripe marks;
  reads-stripe = λ file stripe marks h. rw (read_as file (kept (plan_in file) h) stripe marks, symbols-as file (kept (plan_in file) h)) refl;
  reads-marks = λ file stripe marks h. rw (read_as file (kept (plan_in file) h) stripe marks, marks-as file (kept (plan_in file) h)) refl;
}

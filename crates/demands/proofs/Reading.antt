-- Silence of reading: files that differ only under marks are read alike, but for refusal 22. Assumes nothing.
use mathlib.Core.Path.{◌≡◌, refl, sym, ap, ap₂, ◌∙◌, subst}
use mathlib.Core.Logic.{◌⊎◌, inl, inr}
use mathlib.Core.Bool.{Bool, true, false, ◌&&◌}
use mathlib.Core.List.{List, [], ◌∷◌}
use Prim.Native.Nat.{ℕ, zero, suc, ◌+◌, ◌*◌, ◌≤◌, ◌<◌}
use native.Mathlib.Nat.{eq-zero-or-pos}
use native.Mathlib.Omega.{arith}
use lib.Dec.{T, eqb, leb}
use lib.ListN.{length, take, drop, get_or}
use lib.Seq.{get_or-take, take-take}
use Rattle.field.specs.Lists.{when◌then◌else◌}
use Rattle.field.proofs.Lists.{map-up-same}
use Rattle.fills.specs.Lists.{same}
use Rattle.fills.proofs.Tests.{same→eq}
use Rattle.plans.specs.Plan.{known, plan_of, marks_of, marks_offset, word_bytes, symbols_offset, file_length}
use Rattle.plans.specs.Refusal.{first_failed, stripe_fits, words_fit, marks_fit, symbols_fit}
use Rattle.files.specs.File.{header_size, header_of, blanked, plan_in, marks_in, symbols_in, file_refusal, read_refusal, read_stripe, read_marks}
use Rattle.words.specs.Words.{byte_range, number_at, words_at}
use Rattle.words.proofs.Bytes.{word-inside}
use Rattle.steps.proofs.Fit.{pass}
use Rattle.demands.specs.Silence.{SameUnmarked, SameFile, same-reading, first-22, second-22, SilentReading}
use Rattle.demands.proofs.Alike.{at-alike}
use Rattle.demands.proofs.Blind.{part-lengths, blanked-alike, symbols-same}
use Rattle.demands.proofs.Refused.{read-refused}

-- ---- the order for a file, up to its last test

-- the same number; or one is 22 and the other 0
abbrev pub But22 : ℕ → ℕ → Type 0
But22 m n = (m ≡ n) ⊎ (((m ≡ 0) × (n ≡ 22)) ⊎ ((m ≡ 22) × (n ≡ 0)))

test-same : (k : ℕ) (b : Bool) {m n : ℕ} → But22 m n → But22 (when b then m else k) (when b then n else k)
unfolding when◌then◌else◌
test-same k true s = s
test-same k false s = inl refl

last-test : (x y : Bool) → But22 (when x then 0 else 22) (when y then 0 else 22)
unfolding when◌then◌else◌
last-test true true = inl refl
last-test true false = inr (inl (refl, refl))
last-test false true = inr (inr (refl, refl))
last-test false false = inl refl

module _ (a b c d e m s : Bool) where
  but_last : (x y : Bool) → But22 (first_failed ((20, a) ∷ (10, b) ∷ (21, c) ∷ (20, d) ∷ (11, e) ∷ (12, m) ∷ (13, s) ∷ (22, x) ∷ [])) (first_failed ((20, a) ∷ (10, b) ∷ (21, c) ∷ (20, d) ∷ (11, e) ∷ (12, m) ∷ (13, s) ∷ (22, y) ∷ []))
  unfolding first_failed
  but_last x y =
      test-same 20 a (test-same 10 b (test-same 21 c (test-same 20 d (test-same 11 e (test-same 12 m (test-same 13 s (last-test x y)))))))

  last-passed : (x : Bool) → first_failed ((20, a) ∷ (10, b) ∷ (21, c) ∷ (20, d) ∷ (11, e) ∷ (12, m) ∷ (13, s) ∷ (22, x) ∷ []) ≡ 0 → T x
  unfolding first_failed
  last-passed x q =
      (pass 21 x _ (pass 12 s _ (pass 11 m _ (pass 10 e _ (pass 19 d _ (pass 20 c _ (pass 9 b _ (pass 19 a _ q).1).1).1).1).1).1).1).0

-- ---- two files that differ only under marks

module _ (f g : List ℕ) (h : SameFile f g) where
  abbrev n : ℕ
  n = symbols_offset (plan_of (plan_in f))

  byte-same : (i : ℕ) → i < n → get_or f i 0 ≡ get_or g i 0
  byte-same i l = sym (get_or-take n f i 0 l) ∙ ap (λ l. get_or l i 0) h.before ∙ get_or-take n g i 0 l

  pub plan-same : plan_in f ≡ plan_in g
  unfolding marks_offset symbols_offset plan_in
  plan-same = byte-same 0 (omega arith)

  header-same : take header_size f ≡ take header_size g
  unfolding marks_offset symbols_offset
  header-same = sym (take-take header_size n f (omega arith)) ∙ ap (take header_size) h.before ∙ take-take header_size n g (omega arith)

  word_same : (k i : ℕ) → i + k ≤ n → number_at k f i ≡ number_at k g i
  unfolding number_at
  word_same zero i l = refl
  word_same (suc k) i l = ap₂ (λ b w. b + byte_range * w) (byte-same i (omega arith)) (word_same k (suc i) (omega arith))

  pub marks-in-same : marks_in f ≡ marks_in g
  unfolding marks_offset symbols_offset marks_in
  marks-in-same =
      let P = plan_of (plan_in f) in
      let s = word_bytes P in
      map-up-same (λ r. number_at s f (marks_offset + s * r)) (λ r. number_at s g (marks_offset + s * r)) 0 P.rows (λ r l.
      word_same s (marks_offset + s * (0 + r)) (omega (arith, word-inside s (0 + r) P.rows (omega arith))))
      ∙ ap (λ p. words_at (word_bytes (plan_of p)) g marks_offset (plan_of p).rows) plan-same

  pub symbols-alike : SameUnmarked (plan_in f) (marks_in f) (symbols_in f) (symbols_in g)
  unfolding symbols_in
  symbols-alike = record {
    long =
        part-lengths ((plan_of (plan_in f)).rows * (plan_of (plan_in f)).columns) n f g h.long
        ∙ ap (λ p. length (take ((plan_of p).rows * (plan_of p).columns) (drop (symbols_offset (plan_of p)) g))) plan-same;
    agree = h.agree;
  }

  fits-same : symbols_fit (plan_of (plan_in f)) (marks_in f) (symbols_in f) ≡ symbols_fit (plan_of (plan_in g)) (marks_in g) (symbols_in g)
  fits-same =
      symbols-same (plan_in f) (marks_in f) (symbols_in f) (symbols_in g) symbols-alike
      ∙ (λ i. symbols_fit (plan_of (plan-same i)) (marks-in-same i) (symbols_in g))

  blanked-same : blanked (marks_of (plan_of (plan_in f)) (marks_in f)) (symbols_in f) ≡ blanked (marks_of (plan_of (plan_in g)) (marks_in g)) (symbols_in g)
  blanked-same =
      let ms = marks_of (plan_of (plan_in f)) (marks_in f) in
      blanked-alike ms (symbols_in f) (symbols_in g) (at-alike ms (symbols_in f) (symbols_in g) h.agree)
      ∙ (λ i. blanked (marks_of (plan_of (plan-same i)) (marks-in-same i)) (symbols_in g))

  -- the same tests but the last
  pub refusal-same : {a b : Bool} → a ≡ b → But22 (file_refusal f a) (file_refusal g b)
  unfolding file_refusal
  refusal-same {a} e =
      subst (But22 (file_refusal f a))
      (λ i.
      first_failed ((20, leb header_size (h.long i)) ∷ (10, known (plan-same i)) ∷ (21, same (header-same i) (header_of (plan-same i))) ∷ (20, eqb (h.long i) (file_length (plan_of (plan-same i)))) ∷ (11, e i) ∷ (12, marks_fit (plan_of (plan-same i)) (marks-in-same i)) ∷ (13, fits-same i) ∷ (22, same (symbols_in g) (blanked (marks_of (plan_of (plan_in g)) (marks_in g)) (symbols_in g))) ∷ []))
      (but_last _ _ _ _ _ _ _ _ _)

  read_same : (s m : List ℕ) → But22 (read_refusal f s m) (read_refusal g s m)
  unfolding read_refusal
  read_same s m = refusal-same (λ i. stripe_fits (plan_of (plan-same i)) s && words_fit (plan_of (plan-same i)) m)

  -- files that are not refused have the same symbols: 0 under the marks
  symbols-in-same : (a b : Bool) → file_refusal f a ≡ 0 → file_refusal g b ≡ 0 → symbols_in f ≡ symbols_in g
  unfolding file_refusal
  symbols-in-same a b e e' =
      same→eq _ _ (last-passed _ _ _ _ _ _ _ _ e) ∙ blanked-same ∙ sym (same→eq _ _ (last-passed _ _ _ _ _ _ _ _ e'))

  -- where the refusals are the same, the buffers are
  buffers-same : (s m : List ℕ) → read_refusal f s m ≡ read_refusal g s m
      → (read_stripe f s m ≡ read_stripe g s m) × (read_marks f s m ≡ read_marks g s m)
  unfolding read_refusal read_stripe read_marks
  buffers-same s m e =
      elim (eq-zero-or-pos (read_refusal f s m)) [
        | inl z ↦ (
          (λ i. when eqb (e i) 0 then symbols-in-same _ _ z (sym e ∙ z) i else s),
          (λ i. when eqb (e i) 0 then marks-in-same i else m),
        )
        | inr pos ↦
            let left = read-refused f s m (λ z. omega (arith, z)) in
            let right = read-refused g s m (λ z. omega (arith, e, z)) in
            (left.0 ∙ sym right.0, left.1 ∙ sym right.1)
      ]

pub silent-reading : SilentReading
silent-reading f g s m h =
    elim (read_same f g h s m) [
      | inl e ↦ let b = buffers-same f g h s m e in same-reading e b.0 b.1
      | inr (inl e) ↦ second-22 e.0 e.1
      | inr (inr e) ↦ first-22 e.0 e.1
    ]

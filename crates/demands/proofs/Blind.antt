-- What does not look under marks: the tests of refusal, and a file. And lists that agree at a place. Assumes nothing.
use mathlib.Core.Path.{◌≡◌, refl, sym, ap, ap₂, ◌∙◌, subst}
use mathlib.Core.Logic.{inl, inr, ◌≢◌}
use mathlib.Core.Bool.{Bool, ◌&&◌}
use mathlib.Core.List.{List, [], ◌∷◌, ◌++◌, flat_map}
use Prim.Native.Nat.{ℕ, zero, suc, ◌+◌, ◌*◌, ◌-◌, ◌<◌, ◌≤◌}
use native.Mathlib.Nat.{suc_inj, eq-or-lt_of_le, add-sub_of_le}
use native.Mathlib.Omega.{arith}
use lib.Dec.{eqb}
use lib.ListN.{length, take, drop, get_or, set, length-set, length-take, length-drop}
use lib.Seq.{sets, ext_get_or, get_or-append-add}
use Rattle.field.specs.Lists.{when◌then◌else◌, up_from}
use Rattle.field.specs.Field.{size}
use Rattle.fills.specs.Lists.{all}
use Rattle.fills.specs.Marks.{bits_of}
use Rattle.fills.proofs.Choices.{Alike}
use Rattle.fills.proofs.Beside.{beside-alike}
use Rattle.plans.specs.Plan.{Plan, known, plan_of, row_at, marks_at, marks_of, word_bytes, file_length}
use Rattle.plans.specs.Refusal.{stripe_fits, words_fit, marks_fit, unmarked_below, symbols_fit, lent_refusal, first_failed, lent_tests}
use Rattle.words.specs.Words.{bytes_of}
use Rattle.files.specs.File.{header_of, blanked, file_of, write_refusal, write_file}
use Rattle.plans.proofs.Refusals.{unmarked-alike}
use Rattle.demands.specs.Silence.{SameUnmarked, SilentWriting}
use Rattle.demands.proofs.Alike.{at-alike, row-at, agree-rows}

-- ---- lists of one length that agree at a place

-- they agree there after the same write, if it is written or they agreed
set-alike : (s t : List ℕ) (k x i : ℕ) → length s ≡ length t → (i ≢ k → get_or s i 0 ≡ get_or t i 0) → get_or (set s k x) i 0 ≡ get_or (set t k x) i 0
set-alike [] [] k x i l e = refl
set-alike [] (z ∷ t) k x i l e = absurd (omega arith)
set-alike (y ∷ s) [] k x i l e = absurd (omega arith)
set-alike (y ∷ s) (z ∷ t) zero x zero l e = refl
set-alike (y ∷ s) (z ∷ t) zero x (suc i) l e = e (λ q. omega (arith, q))
set-alike (y ∷ s) (z ∷ t) (suc k) x zero l e = e (λ q. omega (arith, q))
set-alike (y ∷ s) (z ∷ t) (suc k) x (suc i) l e = set-alike s t k x i (suc_inj l) (λ ne. e (λ q. ne (suc_inj q)))

-- and after the same writes
pub sets-alike : (s t : List ℕ) (k : ℕ) (xs : List ℕ) (i : ℕ) → length s ≡ length t
    → ((k ≤ i → i < k + length xs → ⊥) → get_or s i 0 ≡ get_or t i 0) → get_or (sets s k xs) i 0 ≡ get_or (sets t k xs) i 0
sets-alike s t k [] i l e = e (λ h g. omega arith)
sets-alike s t k (x ∷ xs) i l e =
    sets-alike (set s k x) (set t k x) (suc k) xs i (length-set s k x ∙ l ∙ sym (length-set t k x)) (λ out.
    set-alike s t k x i l (λ ne. e (λ h g. elim (eq-or-lt_of_le h) [ inl q ↦ ne (sym q) | inr j ↦ out j (omega arith) ])))

-- behind them the same stands
pub append-behind : (s t z : List ℕ) (i : ℕ) → length s ≡ length t → length s ≤ i → get_or (s ++ z) i 0 ≡ get_or (t ++ z) i 0
append-behind s t z i l h =
    subst (λ k. get_or (s ++ z) k 0 ≡ get_or (t ++ z) k 0) (add-sub_of_le h)
    (get_or-append-add s z (i - length s) 0
    ∙ sym (ap (λ n. get_or (t ++ z) (n + (i - length s)) 0) l ∙ get_or-append-add t z (i - length s) 0))

-- parts of lists of one length are of one length
pub part-lengths : (n k : ℕ) (s t : List ℕ) → length s ≡ length t → length (take n (drop k s)) ≡ length (take n (drop k t))
part-lengths n k s t l =
    let e : length (drop k s) ≡ length (drop k t) = length-drop k s ∙ ap (λ m. m - k) l ∙ sym (length-drop k t) in
    length-take n (drop k s) ∙ omega (arith, e) ∙ sym (length-take n (drop k t))

-- ---- rows

pub row-le : (P : Plan) (l : List ℕ) (r : ℕ) → length (row_at P l r) ≤ P.columns
unfolding row_at
row-le P l r = simp length-take (omega arith)

pub row-lengths : (P : Plan) (s t : List ℕ) (r : ℕ) → length s ≡ length t → length (row_at P s r) ≡ length (row_at P t r)
unfolding row_at
row-lengths P s t r l = part-lengths P.columns (r * P.columns) s t l

-- rows with the same symbols are equal
pub row-equal : (P : Plan) (s t : List ℕ) (r : ℕ) → length s ≡ length t
    → ((c : ℕ) → c < P.columns → get_or s (r * P.columns + c) 0 ≡ get_or t (r * P.columns + c) 0) → row_at P s r ≡ row_at P t r
row-equal P s t r l h =
    ext_get_or 0 (row_at P s r) (row_at P t r) (row-lengths P s t r l) (λ c g.
    let k : c < P.columns = omega (arith, row-le P s r) in row-at P s r c k ∙ h c k ∙ sym (row-at P t r c k))

-- ---- what does not look under marks

pub blanked-alike : (ms : List Bool) (v w : List ℕ) → Alike ms v w → blanked ms v ≡ blanked ms w
unfolding when◌then◌else◌ blanked
blanked-alike = beside-alike (λ m x. when m then 0 else x) (λ x y. refl)

-- the same for every row
pub all_same : (f g : ℕ → Bool) (k n : ℕ) → ((r : ℕ) → r < k + n → f r ≡ g r) → all f (up_from k n) ≡ all g (up_from k n)
unfolding all up_from
all_same f g k zero h = refl
all_same f g k (suc n) h = ap₂ ◌&&◌ (h k (omega arith)) (all_same f g (suc k) n (λ r l. h r (omega arith)))

pub flat-same : {A : Type 0} (f g : ℕ → List A) (k n : ℕ) → ((r : ℕ) → r < k + n → f r ≡ g r) → flat_map f (up_from k n) ≡ flat_map g (up_from k n)
unfolding flat_map up_from
flat-same f g k zero h = refl
flat-same f g k (suc n) h = ap₂ ◌++◌ (h k (omega arith)) (flat-same f g (suc k) n (λ r l. h r (omega arith)))

-- mark words that are the same for every row of the plan mark the same places
pub marks-same : (P : Plan) (M N : List ℕ) → ((r : ℕ) → r < P.rows → get_or M r 0 ≡ get_or N r 0) → marks_of P M ≡ marks_of P N
unfolding marks_of marks_at
marks-same P M N h = flat-same (marks_at P M) (marks_at P N) 0 P.rows (λ r l. ap (bits_of P.columns) (h r (omega arith)))

module _ (p : ℕ) (marks s t : List ℕ) (h : SameUnmarked p marks s t) where
  abbrev Q : Plan
  Q = plan_of p

  pub rows_alike : (r : ℕ) → r < Q.rows → Alike (marks_at Q marks r) (row_at Q s r) (row_at Q t r)
  rows_alike = agree-rows p marks s t h.agree

  pub symbols-same : symbols_fit Q marks s ≡ symbols_fit Q marks t
  unfolding symbols_fit
  symbols-same =
      all_same (λ r. unmarked_below (size Q.field) (marks_at Q marks r) (row_at Q s r))
      (λ r. unmarked_below (size Q.field) (marks_at Q marks r) (row_at Q t r)) 0 Q.rows (λ r l.
      unmarked-alike (size Q.field) (marks_at Q marks r) (row_at Q s r) (row_at Q t r) (rows_alike r (omega arith)))

  pub lent_same : lent_refusal p s marks ≡ lent_refusal p t marks
  unfolding lent_tests lent_refusal stripe_fits
  lent_same =
      ap₂ (λ n z. first_failed ((10, known p) ∷ (11, eqb n (Q.rows * Q.columns) && words_fit Q marks) ∷ (12, marks_fit Q marks) ∷ (13, z) ∷ []))
      h.long symbols-same

-- ---- writing a file

pub silent-writing : SilentWriting
unfolding when◌then◌else◌ blanked write_refusal write_file file_of stripe_fits
silent-writing p marks s t file h =
    let P = plan_of p in
    let e : write_refusal p s marks file ≡ write_refusal p t marks file =
    ap₂ (λ n z.
    first_failed ((10, known p) ∷ (11, eqb n (P.rows * P.columns) && words_fit P marks && eqb (length file) (file_length P)) ∷ (12, marks_fit P marks) ∷ (13, z) ∷ []))
    h.long (symbols-same p marks s t h) in (
      e,
      ap₂ (λ n bytes. when eqb n 0 then header_of p ++ flat_map (bytes_of (word_bytes P)) marks ++ bytes else file) e
          (beside-alike _ (λ x y. refl) (marks_of P marks) s t (at-alike (marks_of P marks) s t h.agree)),
    )

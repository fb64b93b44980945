-- Vectors and stripes that agree where unmarked: place by place, row by row, under more marks and under none. Assumes nothing.
use mathlib.Core.Path.{◌≡◌, refl, sym, ap, ◌∙◌, subst, subst₂}
use mathlib.Core.Bool.{Bool, true, false}
use mathlib.Core.List.{List, [], ◌∷◌, flat_map}
use mathlib.Core.Logic.{◌⊎◌, inl, inr}
use Prim.Native.Nat.{ℕ, zero, suc, ◌+◌, ◌*◌, ◌/◌, ◌%◌, ◌^◌, ◌<◌, ◌≤◌, suc-le-suc}
use native.Mathlib.Nat.{suc_inj, le_of_suc-le-suc, zero-add, zero-lt-suc, mod-lt, div-lt_iff_lt-mul, div-add-mod'}
use native.Mathlib.Omega.{arith}
use lib.Arith.{lt-one}
use lib.Dec.{T, T_not, eqb, ltb}
use lib.Count.{ones, ones_in}
use lib.ListN.{length, drop, get_or}
use lib.Pow.{pow_pos}
use lib.Seq.{get_or-take, get_or-drop, ext_get_or}
use Rattle.field.specs.Lists.{when◌then◌else◌, up_from}
use Rattle.field.specs.Field.{Field}
use Rattle.field.proofs.Sum.{of-bits, bit}
use Rattle.field.proofs.Test.{both_left, both_right, both}
use Rattle.fills.specs.Lists.{all, only, vanish, first, rest, beside}
use Rattle.fills.specs.Marks.{bits_of}
use Rattle.fills.proofs.Choices.{Alike, Inside, get_or-first, get_or-rest, alike_at}
use Rattle.fills.proofs.Filling.{Independent, independent-of}
use Rattle.fills.proofs.Weights.{half_lt, marked, bits-step, marked-bits, agrees-weight, weightless-vanish}
use Rattle.plans.specs.Plan.{Plan, plan_of, row_at, marks_at, marks_of}
use Rattle.plans.specs.Refusal.{all_below, unmarked_below}
use Rattle.plans.proofs.Flat.{flat-length}
use Rattle.plans.proofs.Rows.{marks-length}
use Rattle.demands.specs.Words.{Agree}
use Rattle.demands.proofs.Lists.{flat-row}

-- ---- vectors

pub at-alike : (ms : List Bool) (v w : List ℕ) → ((i : ℕ) → get_or ms i true ≡ false → get_or v i 0 ≡ get_or w i 0) → Alike ms v w
at-alike [] v w h = tt
at-alike (true ∷ ms) v w h = at-alike ms (rest v) (rest w) (λ i e. sym (get_or-rest v i) ∙ h (suc i) e ∙ get_or-rest w i)
at-alike (false ∷ ms) v w h = (
  sym (get_or-first v) ∙ h 0 refl ∙ get_or-first w,
  at-alike ms (rest v) (rest w) (λ i e. sym (get_or-rest v i) ∙ h (suc i) e ∙ get_or-rest w i),
)

pub alike_refl : (ms : List Bool) (v : List ℕ) → Alike ms v v
alike_refl ms v = at-alike ms v v (λ i e. refl)

pub alike-sym : (ms : List Bool) (v w : List ℕ) → Alike ms v w → Alike ms w v
alike-sym ms v w a = at-alike ms w v (λ i e. sym (alike_at ms v w a i e))

pub alike-trans : (ms : List Bool) (u v w : List ℕ) → Alike ms u v → Alike ms v w → Alike ms u w
alike-trans ms u v w a b = at-alike ms u w (λ i e. alike_at ms u v a i e ∙ alike_at ms v w b i e)

-- more marks ask for less
pub alike-inside : (ms ns : List Bool) (v w : List ℕ) → Inside ms ns → Alike ms v w → Alike ns v w
alike-inside [] [] v w i a = tt
alike-inside [] (n ∷ ns) v w i a = absurd i
alike-inside (m ∷ ms) [] v w i a = absurd i
alike-inside (true ∷ ms) (true ∷ ns) v w i a = alike-inside ms ns (rest v) (rest w) i.1 a
alike-inside (true ∷ ms) (false ∷ ns) v w i a = absurd (i.0 tt)
alike-inside (false ∷ ms) (true ∷ ns) v w i a = alike-inside ms ns (rest v) (rest w) i.1 a.1
alike-inside (false ∷ ms) (false ∷ ns) v w i a = (a.0, alike-inside ms ns (rest v) (rest w) i.1 a.1)

-- where none is marked, no place is
pub unmarked-at : (ms : List Bool) → marked ms ≡ 0 → (c : ℕ) → c < length ms → get_or ms c true ≡ false
unfolding when◌then◌else◌ only
unmarked-at [] z c l = absurd (omega arith)
unmarked-at (true ∷ ms) z c l = absurd (omega arith)
unmarked-at (false ∷ ms) z zero l = refl
unmarked-at (false ∷ ms) z (suc c) l = unmarked-at ms z c (le_of_suc-le-suc l)

-- vectors of one length that agree everywhere are equal
pub alike-unmarked : (ms : List Bool) (v w : List ℕ) → marked ms ≡ 0 → length v ≡ length w → length w ≤ length ms → Alike ms v w → v ≡ w
alike-unmarked ms v w z l k a = ext_get_or 0 v w l (λ i h. alike_at ms v w a i (unmarked-at ms z i (omega arith)))

-- where no symbol is marked, each is below q
pub unmarked-all : (q : ℕ) (ms : List Bool) (v : List ℕ) → marked ms ≡ 0 → length v ≡ length ms → T (unmarked_below q ms v) → T (all_below q v)
unfolding when◌then◌else◌ only all first rest beside all_below unmarked_below
unmarked-all q [] [] z l t = tt
unmarked-all q [] (x ∷ v) z l t = absurd (omega arith)
unmarked-all q (true ∷ ms) v z l t = absurd (omega arith)
unmarked-all q (false ∷ ms) [] z l t = tt
unmarked-all q (false ∷ ms) (x ∷ v) z l t =
    both (ltb x q) (all_below q v) (both_left (ltb x q) (unmarked_below q ms v) t)
    (unmarked-all q ms v z (suc_inj l) (both_right (ltb x q) (unmarked_below q ms v) t))

-- where no column is marked, the marked columns are independent
pub unmarked-independent : (F : Field) (checks : List (List ℕ)) (ms : List Bool) → marked ms ≡ 0 → Independent F checks ms
unmarked-independent F checks ms z =
    independent-of F checks ms λ w d.
    T_not (vanish w) d.nonzero (weightless-vanish w (omega (arith, agrees-weight F ms w d.agrees)))

-- ---- row by row

-- past the end every place counts as marked
unmarked-lt : (ms : List Bool) (i : ℕ) → get_or ms i true ≡ false → i < length ms
unmarked-lt [] i e = absurd (subst T e tt)
unmarked-lt (m ∷ ms) zero e = zero-lt-suc (length ms)
unmarked-lt (m ∷ ms) (suc i) e = suc-le-suc (unmarked-lt ms i e)

module _ (P : Plan) where
  -- column c of row r: its symbol, and its mark
  pub row-at : (Z : List ℕ) (r c : ℕ) → c < P.columns → get_or (row_at P Z r) c 0 ≡ get_or Z (r * P.columns + c) 0
  unfolding row_at
  row-at Z r c l = get_or-take P.columns (drop (r * P.columns) Z) c 0 l ∙ get_or-drop (r * P.columns) Z c 0

  pub mark-at : (marks : List ℕ) (r c : ℕ) → r < P.rows → c < P.columns
      → get_or (marks_of P marks) (r * P.columns + c) true ≡ get_or (marks_at P marks r) c true
  unfolding marks_of
  mark-at marks r c h l =
      let N = P.columns in
      let all = flat_map (marks_at P marks) (up_from 0 P.rows) in
      sym (get_or-drop (r * N) all c true) ∙ sym (get_or-take N (drop (r * N) all) c true l)
      ∙ ap (λ ms. get_or ms c true) (flat-row (marks_at P marks) N 0 P.rows (λ r l. marks-length P marks r) r h ∙ ap (marks_at P marks) (zero-add r))

  -- a place that is unmarked stands in the stripe
  pub unmarked-in : (marks : List ℕ) (i : ℕ) → get_or (marks_of P marks) i true ≡ false → i < P.rows * P.columns
  unfolding marks_of
  unmarked-in marks i e =
      subst (λ n. i < n) (flat-length (marks_at P marks) P.columns 0 P.rows (λ r l. marks-length P marks r)) (unmarked-lt (marks_of P marks) i e)

  -- what holds at each column of each row holds at each place
  pub of_places : (S : ℕ → Type 0) → ((r c : ℕ) → r < P.rows → c < P.columns → S (r * P.columns + c))
      → (i : ℕ) → i < P.rows * P.columns → S i
  of_places S h i l =
      let z : 0 < P.columns = positive P.columns P.rows i l in
      subst S (div-add-mod' i P.columns) (h (i / P.columns) (i % P.columns) ((div-lt_iff_lt-mul z).1 l) (mod-lt i z))
    where
      positive : (N R i : ℕ) → i < R * N → 0 < N
      positive zero R i l = absurd (omega arith)
      positive (suc N) R i l = zero-lt-suc N

module _ (p : ℕ) (marks X Y : List ℕ) where
  abbrev P : Plan
  P = plan_of p

  -- stripes agree where they agree in every row
  pub agree-rows : Agree p marks X Y → (r : ℕ) → r < P.rows → Alike (marks_at P marks r) (row_at P X r) (row_at P Y r)
  agree-rows a r h =
      at-alike (marks_at P marks r) (row_at P X r) (row_at P Y r) (λ c e.
      let l : c < P.columns = subst (λ n. c < n) (marks-length P marks r) (unmarked-lt (marks_at P marks r) c e) in
      row-at P X r c l ∙ a (r * P.columns + c) (mark-at P marks r c h l ∙ e) ∙ sym (row-at P Y r c l))

  pub rows_agree : ((r : ℕ) → r < P.rows → Alike (marks_at P marks r) (row_at P X r) (row_at P Y r)) → Agree p marks X Y
  rows_agree h i e =
      of_places P (λ i. get_or (marks_of P marks) i true ≡ false → get_or X i 0 ≡ get_or Y i 0) (λ r c lr lc e.
      sym (row-at P X r c lc)
      ∙ alike_at (marks_at P marks r) (row_at P X r) (row_at P Y r) (h r lr) c (sym (mark-at P marks r c lr lc) ∙ e) ∙ row-at P Y r c lc)
      i (unmarked-in P marks i e) e

-- ---- mark words

pub inside-refl : (ms : List Bool) → Inside ms ms
inside-refl [] = tt
inside-refl (m ∷ ms) = (λ t. t, inside-refl ms)

pub inside-trans : (ls ms ns : List Bool) → Inside ls ms → Inside ms ns → Inside ls ns
inside-trans [] [] ns i j = j
inside-trans [] (m ∷ ms) ns i j = absurd i
inside-trans (l ∷ ls) [] ns i j = absurd i
inside-trans (l ∷ ls) (m ∷ ms) [] i j = absurd j
inside-trans (l ∷ ls) (m ∷ ms) (n ∷ ns) i j = (λ t. j.0 (i.0 t), inside-trans ls ms ns i.1 j.1)

-- the word without marks lies inside each
pub clear-inside : (n w : ℕ) → Inside (bits_of n 0) (bits_of n w)
unfolding bits_of up_from
clear-inside zero w = tt
clear-inside (suc n) w = subst₂ Inside (sym (bits-step n 0)) (sym (bits-step n w)) (λ t. absurd t, clear-inside n (w / 2))

-- no marks, or the same, lie inside
pub fewer : (n w u : ℕ) → (w ≡ 0) ⊎ (w ≡ u) → Inside (bits_of n w) (bits_of n u)
fewer n w u (inl e) = rw e (clear-inside n u)
fewer n w u (inr e) = rw e (inside-refl (bits_of n u))

-- and words that lie inside each other are equal
pub inside-same : (n v w : ℕ) → v < 2 ^ n → w < 2 ^ n → Inside (bits_of n v) (bits_of n w) → Inside (bits_of n w) (bits_of n v) → v ≡ w
inside-same zero v w h k i j = lt-one h ∙ sym (lt-one k)
inside-same (suc n) v w h k i j =
    let i' = subst₂ Inside (bits-step n v) (bits-step n w) i in
    let j' = subst₂ Inside (bits-step n w) (bits-step n v) j in
    let e = inside-same n (v / 2) (w / 2) (half_lt n v h) (half_lt n w k) i'.1 j'.1 in
    let d = last (v % 2) (w % 2) (bit v) (bit w) i'.0 j'.0 in
    omega arith
  where
    last : (a b : ℕ) → a < 2 → b < 2 → (T (eqb a 1) → T (eqb b 1)) → (T (eqb b 1) → T (eqb a 1)) → a ≡ b
    last a b la lb =
        of-bits (λ a. (T (eqb a 1) → T (eqb b 1)) → (T (eqb b 1) → T (eqb a 1)) → a ≡ b)
        (of-bits (λ b. (⊥ → T (eqb b 1)) → (T (eqb b 1) → ⊥) → 0 ≡ b) (λ f g. refl) (λ f g. absurd (g tt)) b lb)
        (of-bits (λ b. (Unit {0} → T (eqb b 1)) → (T (eqb b 1) → Unit {0}) → 1 ≡ b) (λ f g. absurd (f tt)) (λ f g. refl) b lb) a la

-- no marks in a word that lies inside the one without
pub inside-clear : (n w : ℕ) → w < 2 ^ n → Inside (bits_of n w) (bits_of n 0) → w ≡ 0
inside-clear n w h i = inside-same n w 0 h (pow_pos n) i (clear-inside n w)

pub clear-unmarked : (n : ℕ) → marked (bits_of n 0) ≡ 0
unfolding ones ones_in
clear-unmarked n = marked-bits n 0 (pow_pos n)

-- Flat lists, cut into rows one by one, and a test of each row: the loops over checks and over weights. Assumes nothing.
use mathlib.Core.Path.{◌≡◌, refl, sym, ap, ap₂, ◌∙◌, subst}
use mathlib.Core.Bool.{Bool, true, false, ◌&&◌}
use mathlib.Core.List.{List, [], ◌∷◌, ◌++◌, map, flat_map, append_assoc, append-nil}
use Prim.Native.Nat.{ℕ, zero, suc, ◌+◌, ◌*◌, ◌/◌, ◌≤◌, ◌<◌}
use native.Mathlib.Nat.{add_comm, add-div_left, div-eq_of_lt, lt-div-mul-add, div-mul-le_self, zero-mul, suc-mul}
use native.Mathlib.Numerals.{add-one}
use native.Mathlib.Omega.{arith}
use lib.ListN.{length, take, drop, length-append, length-drop, take-append-drop}
use lib.Seq.{take_at, drop_at, drop-drop, length-take-le}
use Rattle.field.proofs.Words.{Each}
use Rattle.fills.specs.Lists.{all}
use Rattle.fills.specs.Marks.{rows_of}
use Rattle.plans.proofs.Flat.{flat}
use Rattle.codewords.specs.Asked.{all_rows}

-- a test of what a map gives is a test of what it takes
pub all_map : {A B : Type 0} (p : B → Bool) (f : A → B) (l : List A) → all p (map f l) ≡ all (λ x. p (f x)) l
unfolding all
all_map p f [] = refl
all_map p f (x ∷ xs) = ap (λ b. p (f x) && b) (all_map p f xs)

-- ---- rows that stand one behind the other

-- each row has n numbers
abbrev pub Wide : ℕ → List (List ℕ) → Type 0
Wide n rows = Each (λ row. length row ≡ n) rows

module _ {n : ℕ} (pos : 0 < n) where
  pub rows-more : (row l : List ℕ) → length row ≡ n → all_rows n (row ++ l) ≡ row ∷ all_rows n l
  unfolding all_rows rows_of
  rows-more row l e =
      let count : length (row ++ l) / n ≡ suc (length l / n) =
      ap (λ k. k / n) (length-append row l ∙ ap (λ k. k + length l) e) ∙ add-div_left (length l) pos ∙ add-one (length l / n) in
      ap (λ m. rows_of m n (row ++ l)) count ∙ ap₂ (λ a b. a ∷ rows_of (length l / n) n b) (take_at row l n e) (drop_at row l n e)

  pub rows-none : (l : List ℕ) → length l < n → all_rows n l ≡ []
  unfolding all_rows rows_of
  rows-none l few = ap (λ m. rows_of m n l) (div-eq_of_lt few)

  -- flat rows, cut again
  pub rows-again : (rows : List (List ℕ)) → Wide n rows → all_rows n (flat rows) ≡ rows
  unfolding flat_map
  rows-again [] w = rows-none [] pos
  rows-again (row ∷ rows) w = rows-more row (flat rows) w.0 ∙ ap (λ l. row ∷ l) (rows-again rows w.1)

-- m rows that a list has, and what stands behind them
rows-flat : (m n : ℕ) (l : List ℕ) → m * n ≤ length l → (l ≡ flat (rows_of m n l) ++ drop (m * n) l) × Wide n (rows_of m n l)
unfolding flat_map rows_of
rows-flat zero n l h = (ap (λ k. drop k l) (sym (zero-mul n)), tt)
rows-flat (suc m) n l h =
    let room : m * n ≤ length (drop n l) = simp length-drop (omega (arith, suc-mul m n)) in
    let next = rows-flat m n (drop n l) room in
    let rows = flat (rows_of m n (drop n l)) in
    let rest : drop (m * n) (drop n l) ≡ drop (suc m * n) l =
    drop-drop (m * n) n l ∙ ap (λ k. drop k l) (add_comm n (m * n) ∙ sym (suc-mul m n)) in (
      sym (take-append-drop n l) ∙ ap (λ k. take n l ++ k) (next.0 ∙ ap (λ k. rows ++ k) rest) ∙ sym (append_assoc (take n l) rows (drop (suc m * n) l)),
      (length-take-le n l (omega (arith, suc-mul m n)), next.1),
    )

-- ---- a walk that cuts rows off the front: those passed and those to come pass all where the whole does

pub record Cutting (n : ℕ) (test : List ℕ → Bool) (whole : Bool) (rest : List ℕ) : Type 0 where
  pub left : List (List ℕ)
  pub behind : List ℕ
  pub parts : rest ≡ flat left ++ behind
  pub few : length behind < n
  pub wide : Wide n left
  pub tests : all test left ≡ whole

module _ {n : ℕ} {test : List ℕ → Bool} {whole : Bool} where
  -- from rows with nothing behind them
  pub cutting-rows : 0 < n → (rows : List (List ℕ)) → Wide n rows → all test rows ≡ whole → Cutting n test whole (flat rows)
  cutting-rows pos rows wide e = record { left = rows; behind = []; parts = sym (append-nil (flat rows)); few = pos; wide = wide; tests = e }

  -- from any list
  pub cutting-starts : 0 < n → (l : List ℕ) → all test (all_rows n l) ≡ whole → Cutting n test whole l
  unfolding all_rows
  cutting-starts pos l e = let cut = rows-flat (length l / n) n l (div-mul-le_self (length l) n) in record {
    left = rows_of (length l / n) n l;
    behind = drop (length l / n * n) l;
    parts = cut.0;
    few = simp length-drop (omega (arith, lt-div-mul-add {a = length l} pos));
    wide = cut.1;
    tests = e;
  }

module _ {n : ℕ} {test : List ℕ → Bool} {whole : Bool} {l : List ℕ} (c : Cutting n test whole l) (row rest : List ℕ) (e : l ≡ row ++ rest)
    (long : length row ≡ n) where
  -- the front row, and the tests behind it
  front : (w : Bool) × Cutting n test w rest × ((test row && w) ≡ whole)
  unfolding flat_map all
  front = go c.left c.parts c.wide c.tests
    where
      go : (left : List (List ℕ)) → l ≡ flat left ++ c.behind → Wide n left → all test left ≡ whole
          → (w : Bool) × Cutting n test w rest × ((test row && w) ≡ whole)
      go [] parts wide tests = absurd (omega (arith, length-append row rest, ap length (sym parts ∙ e), c.few))
      go (first ∷ left) parts wide tests =
          let joined : first ++ (flat left ++ c.behind) ≡ row ++ rest = sym (append_assoc first (flat left) c.behind) ∙ sym parts ∙ e in
          let same : row ≡ first = sym (take_at row rest n long) ∙ ap (take n) (sym joined) ∙ take_at first _ n wide.0 in
          let behind : rest ≡ flat left ++ c.behind = sym (drop_at row rest n long) ∙ ap (drop n) (sym joined) ∙ drop_at first _ n wide.0 in (
            all test left,
            record { left = left; behind = c.behind; parts = behind; few = c.few; wide = wide.1; tests = refl },
            ap (λ x. test x && all test left) same ∙ tests,
          )

  pub cutting-turns : test row ≡ true → Cutting n test whole rest
  cutting-turns good = subst (λ w. Cutting n test w rest) (ap (λ b. b && front.0) (sym good) ∙ front.2) front.1

  pub cutting-fails : test row ≡ false → false ≡ whole
  cutting-fails bad = ap (λ b. b && front.0) (sym bad) ∙ front.2

pub cutting-ends : {n : ℕ} {test : List ℕ → Bool} {whole : Bool} {l : List ℕ} → Cutting n test whole l → length l < n → true ≡ whole
unfolding flat_map all
cutting-ends {n} {test} {whole} {l} c few = go c.left c.parts c.wide c.tests
  where
    go : (left : List (List ℕ)) → l ≡ flat left ++ c.behind → Wide n left → all test left ≡ whole → true ≡ whole
    go [] parts wide tests = tests
    go (first ∷ left) parts wide tests =
        absurd (omega (arith, ap length parts, length-append (first ++ flat left) c.behind, length-append first (flat left), wide.0))

-- The gathered system answers `fill`: its solutions are the fillings, and its dependencies those of the marked columns. Assumes nothing.
use Prim.Native.Nat.{ℕ, zero, suc, ◌^◌, ◌<◌}
use mathlib.Core.Path.{◌≡◌, refl, sym, ap, ap₂, ◌∙◌, subst}
use mathlib.Core.Bool.{Bool, true, false}
use mathlib.Core.Logic.{◌≢◌}
use mathlib.Core.List.{List}
use native.Mathlib.Nat.{le_of_eq}
use native.Mathlib.Decide.{ℕ_discrete}
use native.Mathlib.Omega.{arith}
use lib.Dec.{T, not_T, T_not}
use lib.ListN.{length, set}
use lib.Seq.{ext_get_or}
use Rattle.field.specs.Field.{Field, ◌⊕◌, mul}
use Rattle.field.proofs.Sum.{⊕-comm, ⊕-undo, zero-⊕}
use Rattle.field.specs.Ours.{field_of}
use Rattle.field.specs.declared.Gf.{Gf}
use Rattle.field.proofs.Laws.{IsField, mul-zero}
use Rattle.field.proofs.Fields.{our-field}
use Rattle.fills.specs.Lists.{same, zeros, vanish}
use Rattle.fills.specs.Fill.{Fill, sums_of, none, tied, one, fill}
use Rattle.equations.specs.System.{vec, Matrix, ent, inner, Elements, Ker, Solves, Consistency, Dependence, Solved}
use Rattle.equations.specs.Words.{bit_at}
use Rattle.fills.specs.Marks.{rows_of, bits_of}
use Rattle.linear.specs.Answer.{fill_of, answer_of, vector_of}
use Rattle.linear.specs.Steps.{Settles, filled_by}
use Rattle.gathering.specs.Steps.{Places, Shown, Gathered, scattered}
use Rattle.linear.specs.declared.FillAnswer.{FillAnswer}
use Rattle.linear.specs.declared.FillAnswer.TheVariants.{Tied, None, One}
use Rattle.fills.proofs.Tests.{same→eq, same_refl}
use Rattle.fills.proofs.Filling.{Dependency, Independent, independent-of, Filling, fill_none, fill-tied, fill_one}
use Rattle.fills.proofs.Choices.{Agrees}
use Rattle.equations.proofs.Inner.{inner-same, inner-zero, inner-split}
use Rattle.fills.proofs.Flat.{length-sums, sums_at_lem, sums-are}
use Rattle.equations.proofs.Bits.{bit-bound, bit-of-none}
use Rattle.gathering.proofs.Columns.{hidden-marked, hidden-unmarked, length-scattered, scattered-at, scattered-off}
use Rattle.fills.proofs.Marked.{zeros-at, length-zeros, vanish-at, vanish-of, length-bits, agrees-size, agrees-marked, agrees-unmarked, agrees-bits}

module _ (F : Field) (K : IsField F) (m n : ℕ) (checks target v : List ℕ) (marks k : ℕ) (at b : ℕ → ℕ) (M : Matrix)
    (P : Places marks k at) (fit : marks < 2 ^ n) (G : Gathered F checks target b n k at M m)
    (hole : (t : ℕ) → t < k → b (at t) ≡ 0) (shown : (c : ℕ) → c < n → bit_at marks c ≢ 1 → b c ≡ vec v c)
    (size-v : length v ≡ n) (size-target : length target ≡ m) where
  -- the marks, the checks, and the sum of row i
  ms : List Bool
  ms = bits_of n marks

  rows : List (List ℕ)
  rows = rows_of m n checks

  sum : ℕ → (ℕ → ℕ) → ℕ
  sum i z = inner F (ent checks n i) z n

  within : (t : ℕ) → t < k → at t < n
  within t l = bit-bound n marks (at t) fit (P.marked t l)

  -- a column that is at no place is unmarked, and the other way round
  unplaced : (c : ℕ) → ((t : ℕ) → t < k → at t ≢ c) → bit_at marks c ≢ 1
  unplaced c off e = let r = P.every c e in off r.0 r.1 r.2

  off : (c : ℕ) → bit_at marks c ≢ 1 → (t : ℕ) → t < k → at t ≢ c
  off c ne t l e = ne (ap (bit_at marks) (sym e) ∙ P.marked t l)

  -- the sum of a vector, in the two parts that the system has apart: d has its unmarked symbols, and 0 at the places
  split : (u w : List ℕ) (d : ℕ → ℕ) → ((t : ℕ) → t < k → d (at t) ≡ 0) → ((c : ℕ) → c < n → bit_at marks c ≢ 1 → d c ≡ vec u c)
      → Agrees F ms u w → (i : ℕ) → i < m → sum i (vec w) ≡ sum i d ⊕ inner F (M i) (λ t. vec w (at t)) k
  unfolding ms sum
  split u w d gone same a i l =
      inner-split F K at k n (ent checks n i) (vec w) d within P.apart gone
      (λ c lc free. agrees-unmarked F n marks u w a c lc (unplaced c free) ∙ sym (same c lc (unplaced c free)))
      ∙ ap (λ x. sum i d ⊕ x) (inner-same F _ _ _ _ k (λ t lt. ap (λ x. mul F x (vec w (at t))) (sym (G.coefficient i l t lt))))

  split-zeros : (w : List ℕ) → Agrees F ms (zeros ms) w → (i : ℕ) → i < m → sum i (vec w) ≡ inner F (M i) (λ t. vec w (at t)) k
  unfolding ms sum
  split-zeros w a i l =
      split (zeros ms) w (λ _. 0) (λ t _. refl) (λ c _ _. sym (zeros-at ms c)) a i l
      ∙ ap (λ s. s ⊕ inner F (M i) (λ t. vec w (at t)) k) (inner-zero F _ _ n (λ c _. mul-zero F K _)) ∙ zero-⊕ _

  -- elements written into a vector at the places
  module _ (u : List ℕ) (size-u : length u ≡ n) (x : ℕ → ℕ) where
    written-size : length (scattered u at x k) ≡ n
    written-size = length-scattered u at x k ∙ size-u

    written_at : (t : ℕ) → t < k → vec (scattered u at x k) (at t) ≡ x t
    written_at t l = scattered-at u at x k (λ t l. rw size-u (within t l)) P.apart t l

    written-agrees : Elements F x → Agrees F ms u (scattered u at x k)
    unfolding ms
    written-agrees small = agrees-bits F n marks u (scattered u at x k) written-size
        (λ c l e. let r = P.every c e in rw (← r.2, written_at r.0 r.1) (small r.0)) (λ c l ne. scattered-off u at x k c (off c ne))

    written_row : (i : ℕ) → inner F (M i) (λ t. vec (scattered u at x k) (at t)) k ≡ inner F (M i) x k
    written_row i = inner-same F _ _ _ _ k (λ t lt. ap (mul F (M i t)) (written_at t lt))

  -- ---- fillings and solutions

  filling-solves : (w : List ℕ) → Filling F rows target ms v w → Solves F M m k (λ t. vec w (at t))
  unfolding ms rows sum
  filling-solves w f i l =
      sym (⊕-undo (sum i b) _) ∙ ap (λ x. sum i b ⊕ x) (sym (split v w b hole shown f.agrees i l) ∙ met) ∙ ⊕-comm _ _ ∙ sym (G.remainder i l)
    where
      met : sum i (vec w) ≡ vec target i
      met = sym (sums_at_lem F K m n checks w (le_of_eq (agrees-size F n marks v w f.agrees)) i l) ∙ ap (λ s. vec s i) f.meets

  solves-filling : (x : ℕ → ℕ) → Elements F x → Solves F M m k x → Filling F rows target ms v (scattered v at x k)
  unfolding ms rows sum
  solves-filling x small h = record {
    agrees = agrees;
    meets = sums-are F K m n checks (scattered v at x k) target (le_of_eq (written-size v size-v x)) size-target (λ i l.
        split v (scattered v at x k) b hole shown agrees i l
        ∙ ap (λ y. sum i b ⊕ y) (written_row v size-v x i ∙ h i l ∙ G.remainder i l ∙ ⊕-comm _ _) ∙ ⊕-undo _ _);
  }
    where
      agrees : Agrees F ms v (scattered v at x k)
      agrees = written-agrees v size-v x small

  -- ---- dependencies

  dependency-ker : (w : List ℕ) → Dependency F rows ms w → Ker F M m k (λ t. vec w (at t))
  unfolding ms rows sum
  dependency-ker w d i l =
      sym (split-zeros w d.agrees i l) ∙ sym (sums_at_lem F K m n checks w (le_of_eq (agrees-size F n marks (zeros ms) w d.agrees)) i l)
      ∙ vanish-at _ d.vanishes i

  ker-dependency : (z : ℕ → ℕ) → Elements F z → (j : ℕ) → j < k → z j ≢ 0 → Ker F M m k z → Dependency F rows ms (scattered (zeros ms) at z k)
  unfolding ms rows sum
  ker-dependency z small j lj nz h = record {
    agrees = agrees;
    nonzero = not_T (vanish w) (λ t. nz (sym (written_at (zeros ms) size-zeros z j lj) ∙ vanish-at w t (at j)));
    vanishes = vanish-of _ (λ i l. let c : i < m = omega (arith, length-sums F K m n checks w) in
        sums_at_lem F K m n checks w (le_of_eq (written-size (zeros ms) size-zeros z)) i c ∙ split-zeros w agrees i c
        ∙ written_row (zeros ms) size-zeros z i ∙ h i c);
  }
    where
      w : List ℕ
      w = scattered (zeros ms) at z k

      size-zeros : length (zeros ms) ≡ n
      size-zeros = length-zeros ms ∙ length-bits n marks

      agrees : Agrees F ms (zeros ms) w
      agrees = written-agrees (zeros ms) size-zeros z small

  independent : (z : ℕ → ℕ) → Dependence F M m k false z → Independent F rows ms
  unfolding ms rows
  independent z D =
      independent-of F rows ms (λ w d. T_not (vanish w) d.nonzero
      (vanish-of w (λ c l. none_left w d c (rw (agrees-size F n marks (zeros ms) w d.agrees) at l))))
    where
      none_left : (w : List ℕ) → Dependency F rows ms w → (c : ℕ) → c < n → vec w c ≡ 0
      none_left w d c l = elim (ℕ_discrete (bit_at marks c) 1) [
        | yes e ↦
            let r = P.every c e in
            rw (← r.2)
            (D.none refl (λ t. vec w (at t)) (λ t lt. agrees-marked F n marks (zeros ms) w d.agrees (at t) (within t lt) (P.marked t lt))
            (dependency-ker w d) r.0 r.1)
        | no ne ↦ agrees-unmarked F n marks (zeros ms) w d.agrees c l ne ∙ zeros-at ms c
      ]

  -- ---- the answer

  pub answer-none : (x : ℕ → ℕ) → Consistency F M m k false x → fill F (rows_of m n checks) target (bits_of n marks) v ≡ none
  unfolding ms rows
  answer-none x C = fill_none F rows target ms v (λ w f. C.none refl (λ t. vec w (at t)) (filling-solves w f))

  pub answer-tied : (x z : ℕ → ℕ) → Dependence F M m k true z → Consistency F M m k true x
      → fill F (rows_of m n checks) target (bits_of n marks) v ≡ tied
  unfolding ms rows
  answer-tied x z D C =
      let d = D.dependency refl in
      let s = C.solution refl in
      fill-tied F rows target ms v (ker-dependency z d.0 d.1.0 d.1.1 d.1.2 d.2) (solves-filling x s.0 s.1)

  pub answer-one : (x z : ℕ → ℕ) → Dependence F M m k false z → Consistency F M m k true x
      → fill F (rows_of m n checks) target (bits_of n marks) v ≡ one (scattered v at x k)
  unfolding ms rows
  answer-one x z D C = let s = C.solution refl in fill_one F rows target ms v (independent z D) (solves-filling x s.0 s.1)

-- ---- as the code has it

-- x written to the places, and what agrees with it there
scattered-same : (v : List ℕ) (at x y : ℕ → ℕ) (k : ℕ) → ((t : ℕ) → t < k → x t ≡ y t) → scattered v at x k ≡ scattered v at y k
unfolding scattered
scattered-same v at x y zero h = refl
scattered-same v at x y (suc k) h = ap₂ (λ l s. set l (at k) s) (scattered-same v at x y k (λ t l. h t (omega arith))) (h k (omega arith))

module _ (answer : FillAnswer) (F : Fill) (v places solution : List ℕ) (e : F ≡ filled_by answer v places solution) where
  -- the answer is that of `fill`; where it is `One` the symbols that were found go to their places, else v stays as it is
  pub settled : answer ≡ answer_of F
  unfolding filled_by answer_of
  settled = go answer e
    where
      go : (a : FillAnswer) → F ≡ filled_by a v places solution → a ≡ answer_of F
      go None g = ap answer_of (sym g)
      go Tied g = ap answer_of (sym g)
      go One g = ap answer_of (sym g)

  pub settled-filled : answer ≡ One → scattered v (vec places) (vec solution) (length places) ≡ vector_of F v
  unfolding filled_by vector_of
  settled-filled all = ap (λ f. vector_of f v) (sym (rw all at e))

  pub settled-kept : answer ≢ One → v ≡ vector_of F v
  unfolding filled_by vector_of
  settled-kept other = go answer e other
    where
      go : (a : FillAnswer) → F ≡ filled_by a v places solution → a ≢ One → v ≡ vector_of F v
      go None g n = ap (λ f. vector_of f v) (sym g)
      go Tied g n = ap (λ f. vector_of f v) (sym g)
      go One g n = absurd (n refl)

module _ (q : Gf) (checks target shown places : List ℕ) (M : Matrix) (dependent consistent : Bool) (x z : ℕ → ℕ)
    (G : Gathered (field_of q) checks target (vec shown) (length shown) (length places) (vec places) M (length target))
    (D : Solved (field_of q) M (length target) (length places) dependent consistent x z) where
  module _ (v : List ℕ) (marks : ℕ) (S : Shown marks v shown places) where
    hole : (t : ℕ) → t < length places → vec shown (vec places t) ≡ 0
    hole t l = let m = S.listed.marked t l in S.hides _ (bit-bound _ marks _ S.within m) ∙ hidden-marked marks v _ m

    seen : (c : ℕ) → c < length v → bit_at marks c ≢ 1 → vec shown c ≡ vec v c
    seen c l ne = S.hides c l ∙ hidden-unmarked marks v c ne

    sized : Gathered (field_of q) checks target (vec shown) (length v) (length places) (vec places) M (length target)
    sized = subst (λ n. Gathered (field_of q) checks target (vec shown) n (length places) (vec places) M (length target)) S.size G

  -- nothing solves it
  pub settles-none : consistent ≡ false → (solution : List ℕ) → Settles q checks target shown places None solution
  unfolding fill_of filled_by
  settles-none c solution = record {
    fills = λ v marks S.
        answer-none _ (our-field q) _ _ checks target v marks _ _ _ M S.listed S.within (sized v marks S) (hole v marks S) (seen v marks S) refl refl x
        (rw c at D.consistency);
  }

  -- something does, and the columns are dependent
  pub settles-tied : consistent ≡ true → dependent ≡ true → (solution : List ℕ) → Settles q checks target shown places Tied solution
  unfolding fill_of filled_by
  settles-tied c d solution = record {
    fills = λ v marks S.
        answer-tied _ (our-field q) _ _ checks target v marks _ _ _ M S.listed S.within (sized v marks S) (hole v marks S) (seen v marks S) refl refl x z
        (rw d at D.dependence) (rw c at D.consistency);
  }

  -- x alone does
  pub settles-one : consistent ≡ true → dependent ≡ false → (solution : List ℕ) → ((t : ℕ) → t < length places → vec solution t ≡ x t)
      → Settles q checks target shown places One solution
  unfolding fill_of filled_by
  settles-one c d solution same = record {
    fills = λ v marks S.
        answer-one _ (our-field q) _ _ checks target v marks _ _ _ M S.listed S.within (sized v marks S) (hole v marks S) (seen v marks S) refl refl x z
        (rw d at D.dependence) (rw c at D.consistency) ∙ ap one (sym (scattered-same v (vec places) (vec solution) x (length places) same));
  }

module _ (q : Gf) (checks target v : List ℕ) (marks : ℕ) (free : marks ≡ 0) where
  no-bit : (c : ℕ) → bit_at marks c ≢ 1
  no-bit c e = omega (arith, bit-of-none c, ap (λ w. bit_at w c) free, e)

  rows-of : List (List ℕ)
  rows-of = rows_of (length target) (length v) checks

  bits-of : List Bool
  bits-of = bits_of (length v) marks

  self : Agrees (field_of q) bits-of v v
  unfolding bits-of
  self = agrees-bits (field_of q) (length v) marks v v refl (λ c l e. absurd (no-bit c e)) (λ c l ne. refl)

  no-columns : Independent (field_of q) rows-of bits-of
  unfolding bits-of
  no-columns = independent-of (field_of q) rows-of bits-of (λ w d. T_not (vanish w) d.nonzero
      (vanish-of w (λ c l. agrees-unmarked (field_of q) (length v) marks (zeros bits-of) w d.agrees c
      (rw (agrees-size (field_of q) (length v) marks (zeros bits-of) w d.agrees) at l) (no-bit c)
      ∙ zeros-at bits-of c)))

  pub unmarked-one : true ≡ same (sums_of (field_of q) (rows_of (length target) (length v) checks) v) target → fill_of q checks target v marks ≡ one v
  unfolding fill_of rows-of bits-of
  unmarked-one e = fill_one (field_of q) rows-of target bits-of v no-columns record { agrees = self; meets = same→eq _ _ (subst T e tt) }

  pub unmarked-none : false ≡ same (sums_of (field_of q) (rows_of (length target) (length v) checks) v) target → fill_of q checks target v marks ≡ none
  unfolding fill_of rows-of bits-of
  unmarked-none e = fill_none (field_of q) rows-of target bits-of v (λ w g.
      absurd (subst T (sym e) (subst (λ l. T (same (sums_of (field_of q) rows-of l) target)) (only_self w g.agrees)
      (subst (λ l. T (same (sums_of (field_of q) rows-of w) l)) g.meets (same_refl _)))))
    where
      only_self : (w : List ℕ) → Agrees (field_of q) bits-of v w → w ≡ v
      only_self w a =
          let size-w = agrees-size (field_of q) (length v) marks v w a in
          ext_get_or 0 w v size-w (λ c l. agrees-unmarked (field_of q) (length v) marks v w a c (rw size-w at l) (no-bit c))

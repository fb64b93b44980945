-- More marked columns than checks are dependent; and where any that are no more are independent, every target is met. Assumes nothing.
use mathlib.Core.Path.{◌≡◌, refl, sym, ap, ap₂, ◌∙◌, subst}
use mathlib.Core.Bool.{Bool, true, false, not}
use mathlib.Core.Logic.{◌≢◌, inl, inr}
use mathlib.Core.List.{List, [], ◌∷◌, map}
use Prim.Native.Nat.{ℕ, zero, suc, ◌≤◌, ◌<◌}
use native.Mathlib.Nat.{le_of_eq, le_of_suc-le-suc, suc_inj}
use native.Mathlib.Omega.{arith}
use lib.Dec.{T, T_not, not_T, eqb, eqb→eq, ltb, ltb→lt, lt→ltb, nltb→le}
use lib.ListN.{length, get_or, length-map}
use Rattle.field.specs.Lists.{when◌then◌else◌, up_from}
use Rattle.field.specs.Field.{Field, ◌⊕◌, size, mul, inverse, dot}
use Rattle.field.proofs.Sum.{zero-⊕}
use Rattle.field.proofs.Laws.{IsField, size-pos, mul-zero, zero-mul}
use Rattle.field.proofs.Lists.{length_up, get_or-map-below}
use Rattle.field.proofs.Test.{both_left, both_right, both}
use Rattle.field.proofs.Words.{EachBelow, each_map}
use Rattle.equations.specs.System.{vec, Matrix, inner}
use Rattle.equations.proofs.Inner.{inner-same}
use Rattle.equations.proofs.Wide.{Loose, wide-loose}
use Rattle.fills.specs.Lists.{all, only, zeros, vanish, first, rest, plus}
use Rattle.fills.specs.Fill.{sums_of, dependent, tied, fill}
use Rattle.fills.proofs.Choices.{Allowed, Agrees, are_symbols, Inside, get_or-first, get_or-rest, inside-agrees}
use Rattle.fills.proofs.Tests.{either}
use Rattle.fills.proofs.Vectors.{plus-length, plus-cancel, dot-comm, dot-scaled, sums-plus, sums-count}
use Rattle.fills.proofs.Filling.{Dependency, Independent, no-dependency, Filling, fill-tied}
use Rattle.fills.proofs.Flat.{dot-inner}
use Rattle.fills.proofs.Marked.{vanish-of}
use Rattle.fills.proofs.Weights.{marked}
use Rattle.fills.proofs.Picked.{picked, put, put-agrees, sums-picked, sums-fit, plus-fit, plus-undo}

-- ---- vectors of symbols

pub symbols-fit : (F : Field) (v : List ℕ) → T (are_symbols F v) → EachBelow (size F) v
unfolding all
symbols-fit F [] t = tt
symbols-fit F (x ∷ v) t =
    (ltb→lt x (size F) (both_left (ltb x (size F)) (are_symbols F v) t), symbols-fit F v (both_right (ltb x (size F)) (are_symbols F v) t))

pub zeros-symbols : (F : Field) → IsField F → {A : Type 0} (l : List A) → T (are_symbols F (zeros l))
unfolding all zeros
zeros-symbols F K [] = tt
zeros-symbols F K (x ∷ l) = both (ltb 0 (size F)) (are_symbols F (zeros l)) (lt→ltb 0 (size F) (size-pos F K)) (zeros-symbols F K l)

-- ---- more marked columns than checks

-- a vector's entries at the marks, put into zeros
put-zeros : (ms : List Bool) (u : List ℕ) → put ms u (zeros ms) ≡ put ms u []
unfolding zeros first rest put
put-zeros [] u = refl
put-zeros (true ∷ ms) u = ap (λ l. first u ∷ l) (put-zeros ms (rest u))
put-zeros (false ∷ ms) u = ap (λ l. 0 ∷ l) (put-zeros ms u)

-- where all is 0 after it, they were 0
put-none : (ms : List Bool) (u : List ℕ) → T (vanish (put ms u [])) → (j : ℕ) → j < marked ms → vec u j ≡ 0
unfolding when◌then◌else◌ all only vanish first rest put
put-none [] u t j l = absurd (omega arith)
put-none (true ∷ ms) u t zero l = get_or-first u ∙ eqb→eq (first u) 0 (both_left (eqb (first u) 0) (vanish (put ms (rest u) [])) t)
put-none (true ∷ ms) u t (suc j) l =
    get_or-rest u j ∙ put-none ms (rest u) (both_right (eqb (first u) 0) (vanish (put ms (rest u) [])) t) j (le_of_suc-le-suc l)
put-none (false ∷ ms) u t j l = put-none ms u t j l

module _ (F : Field) (K : IsField F) where
  -- the marked columns as a matrix; of a coefficient its low bits count, which are an element
  columns : List (List ℕ) → Matrix
  columns rows i t = mul F 1 (vec (get_or rows i []) t)

  sums-inner : (rows : List (List ℕ)) (z : ℕ → ℕ) (k i : ℕ) → i < length rows
      → vec (sums_of F rows (map z (up_from 0 k))) i ≡ inner F (columns rows i) z k
  unfolding columns sums_of
  sums-inner [] z k i l = absurd (omega arith)
  sums-inner (c ∷ rows) z k zero l =
      dot-inner F K c (map z (up_from 0 k)) k (le_of_eq (length-map (up_from 0 k) z ∙ length_up 0 k))
      ∙ inner-same F _ _ _ _ k (λ j b. ap (mul F (vec c j)) (get_or-map-below z k j 0 b)
      ∙ sym (K.assoc 1 (vec c j) (z j) ∙ K.unit _ (K.product_lt (vec c j) (z j))))
  sums-inner (c ∷ rows) z k (suc i) l = sums-inner rows z k i (le_of_suc-le-suc l)

  pub wide-dependency : (checks : List (List ℕ)) (ms : List Bool) → length checks < marked ms → (w : List ℕ) × Dependency F checks ms w
  unfolding columns
  wide-dependency checks ms wide = go (wide-loose F K (marked ms) (length checks) (columns rows) wide (λ i j. K.product_lt _ _))
    where
      rows : List (List ℕ)
      rows = map (picked ms) checks

      go : Loose F K (columns rows) (length checks) (marked ms) → (w : List ℕ) × Dependency F checks ms w
      go (z, small, (j, lj, nz), ker) = (
        put ms u [],
        record {
          agrees = subst (Agrees F ms (zeros ms)) (put-zeros ms u) (put-agrees F K ms u (zeros ms) (each_map (λ x. x < size F) z small (up_from 0 (marked ms))));
          nonzero = not_T (vanish (put ms u [])) (λ t. nz (sym (get_or-map-below z (marked ms) j 0 lj) ∙ put-none ms u t j lj));
          vanishes = subst (λ s. T (vanish s)) (sym (sums-picked F K checks ms u))
              (vanish-of (sums_of F rows u) (λ i l.
              let b : i < length checks = omega (arith, sums-count F rows u, length-map checks (picked ms)) in
              sums-inner rows z (marked ms) i (rw (length-map checks (picked ms)) b) ∙ ker i b));
        },
      )
        where
          u : List ℕ
          u = map z (up_from 0 (marked ms))

  -- ---- as many independent columns as checks

  -- a vector times an element
  scaled-agrees : (a : ℕ) (ms : List Bool) (y : List ℕ) → Agrees F ms (zeros ms) y → Agrees F ms (zeros ms) (map (mul F a) y)
  unfolding zeros first rest
  scaled-agrees a [] y h = ap (map (mul F a)) h
  scaled-agrees a (m ∷ ms) [] h = absurd h
  scaled-agrees a (true ∷ ms) (x ∷ y) h = (K.product_lt a x, scaled-agrees a ms y h.1)
  scaled-agrees a (false ∷ ms) (x ∷ y) h = (ap (mul F a) h.0 ∙ mul-zero F K a, scaled-agrees a ms y h.1)

  sums-scaled : (a : ℕ) (checks : List (List ℕ)) (y : List ℕ) → sums_of F checks (map (mul F a) y) ≡ map (mul F a) (sums_of F checks y)
  unfolding sums_of
  sums-scaled a [] y = refl
  sums-scaled a (c ∷ checks) y =
      ap₂ ◌∷◌ (dot-comm F c (map (mul F a) y) ∙ dot-scaled F K a y c ∙ ap (mul F a) (dot-comm F y c)) (sums-scaled a checks y)

  scaled-zero : (l : List ℕ) → T (vanish (map (mul F 0) l))
  unfolding all vanish
  scaled-zero [] = tt
  scaled-zero (x ∷ l) = both (eqb (mul F 0 x) 0) (vanish (map (mul F 0) l)) (rw (zero-mul F K x) tt) (scaled-zero l)

  scaled-back : (a : ℕ) → a < size F → a ≢ 0 → (l : List ℕ) → EachBelow (size F) l → map (mul F (inverse F a)) (map (mul F a) l) ≡ l
  scaled-back a h ne [] b = refl
  scaled-back a h ne (x ∷ l) b =
      ap₂ ◌∷◌
      (sym (K.assoc (inverse F a) a x) ∙ ap (λ e. mul F e x) (K.comm (inverse F a) a ∙ K.inverts a h ne) ∙ K.unit x b.0)
      (scaled-back a h ne l b.1)

  -- the target as a column before the others
  headed : List ℕ → List (List ℕ) → List (List ℕ)
  headed [] checks = []
  headed (d ∷ ds) [] = []
  headed (d ∷ ds) (c ∷ checks) = (d ∷ c) ∷ headed ds checks

  headed-length : (ds : List ℕ) (checks : List (List ℕ)) → length (headed ds checks) ≤ length checks
  unfolding headed
  headed-length [] checks = omega arith
  headed-length (d ∷ ds) [] = omega arith
  headed-length (d ∷ ds) (c ∷ checks) = omega (arith, headed-length ds checks)

  headed-sums : (ds : List ℕ) (checks : List (List ℕ)) (x : ℕ) (y : List ℕ) → length ds ≡ length checks
      → sums_of F (headed ds checks) (x ∷ y) ≡ plus (map (mul F x) ds) (sums_of F checks y)
  unfolding sums_of dot headed
  headed-sums [] [] x y e = refl
  headed-sums [] (c ∷ checks) x y e = absurd (omega arith)
  headed-sums (d ∷ ds) [] x y e = absurd (omega arith)
  headed-sums (d ∷ ds) (c ∷ checks) x y e = ap₂ ◌∷◌ (ap (λ p. p ⊕ dot F c y) (K.comm d x)) (headed-sums ds checks x y (suc_inj e))

  -- with the target they are dependent, and not without it
  pub square-met : (checks : List (List ℕ)) (ms : List Bool) (target : List ℕ) → Independent F checks ms → length checks ≤ marked ms
      → length target ≡ length checks → EachBelow (size F) target → (y : List ℕ) × Agrees F ms (zeros ms) y × (sums_of F checks y ≡ target)
  unfolding when◌then◌else◌ all only zeros vanish rest
  square-met checks ms target free enough long fit =
      let r = wide-dependency (headed target checks) (true ∷ ms) (omega (arith, headed-length target checks)) in go r.0 r.1
    where
      go : (w : List ℕ) → Dependency F (headed target checks) (true ∷ ms) w
          → (y : List ℕ) × Agrees F ms (zeros ms) y × (sums_of F checks y ≡ target)
      go [] d = absurd d.agrees
      go (x ∷ y) d = at x d.agrees.0 d.agrees.1 d.nonzero
          (plus-cancel _ _ (length-map target (mul F x) ∙ long ∙ sym (sums-count F checks y))
          (subst (λ s. T (vanish s)) (headed-sums target checks x y long) d.vanishes))
        where
          at : (x : ℕ) → x < size F → Agrees F ms (zeros ms) y → T (not (vanish (x ∷ y))) → map (mul F x) target ≡ sums_of F checks y
              → (y : List ℕ) × Agrees F ms (zeros ms) y × (sums_of F checks y ≡ target)
          at zero l a n e =
              absurd (no-dependency F checks ms free record { agrees = a; nonzero = n; vanishes = subst (λ s. T (vanish s)) e (scaled-zero target) })
          at (suc x) l a n e = (
            map (mul F (inverse F (suc x))) y,
            scaled-agrees _ ms y a,
            sums-scaled _ checks y ∙ ap (map (mul F (inverse F (suc x)))) (sym e) ∙ scaled-back (suc x) l (omega arith) target fit,
          )

  -- what is zero where unmarked changes nothing there
  pub over-agrees : (ms : List Bool) (v y z : List ℕ) → Agrees F ms (zeros ms) y → Agrees F ms v z → Agrees F ms v (plus y z)
  unfolding zeros first rest
  over-agrees [] v y z a b = ap₂ plus a b
  over-agrees (m ∷ ms) v [] z a b = absurd a
  over-agrees (m ∷ ms) v (x ∷ y) [] a b = absurd b
  over-agrees (m ∷ ms) v (x ∷ y) (s ∷ z) a b = (allowed m x s a.0 b.0, over-agrees ms (rest v) y z a.1 b.1)
    where
      allowed : (m : Bool) (x s : ℕ) → Allowed F m 0 x → Allowed F m (first v) s → Allowed F m (first v) (x ⊕ s)
      allowed true x s h k = K.sum_lt x s h k
      allowed false x s h k = ap (λ x. x ⊕ s) h ∙ zero-⊕ s ∙ k

  -- what the unmarked symbols leave of the target is met, so the target is
  pub filling-over : (checks : List (List ℕ)) (target : List ℕ) (ms : List Bool) (v y : List ℕ) → length target ≡ length checks
      → Agrees F ms (zeros ms) y → sums_of F checks y ≡ plus target (sums_of F checks (put ms [] v))
      → Filling F checks target ms v (plus y (put ms [] v))
  filling-over checks target ms v y long a e = record {
    agrees = over-agrees ms v y (put ms [] v) a (put-agrees F K ms [] v tt);
    meets =
        sums-plus F checks y (put ms [] v) ∙ ap (λ s. plus s (sums_of F checks (put ms [] v))) e
        ∙ plus-undo target (sums_of F checks (put ms [] v)) (long ∙ sym (sums-count F checks (put ms [] v)));
  }

-- ---- the first k marks

-- as many marks as k, among those of ms
record Front (k : ℕ) (ms : List Bool) : Type 0 where
  marks : List Bool
  inside : Inside marks ms
  long : length marks ≡ length ms
  count : marked marks ≡ k

front : (k : ℕ) (ms : List Bool) → k ≤ marked ms → Front k ms
unfolding when◌then◌else◌ only
front zero [] l = record { marks = []; inside = tt; long = refl; count = refl }
front (suc k) [] l = absurd (omega arith)
front zero (m ∷ ms) l =
    let r = front zero ms (omega arith) in
    record { marks = false ∷ r.marks; inside = (λ t. absurd t, r.inside); long = ap suc r.long; count = r.count }
front (suc k) (true ∷ ms) l =
    let r = front k ms (le_of_suc-le-suc l) in
    record { marks = true ∷ r.marks; inside = (λ t. t, r.inside); long = ap suc r.long; count = ap suc r.count }
front (suc k) (false ∷ ms) l =
    let r = front (suc k) ms l in record { marks = false ∷ r.marks; inside = (λ t. t, r.inside); long = ap suc r.long; count = r.count }

-- ---- every target is met

-- of n columns, any that are no more than the checks are independent
pub record Spread (F : Field) (checks : List (List ℕ)) (n : ℕ) : Type 0 where
  pub free : (ms : List Bool) → length ms ≡ n → marked ms ≤ length checks → Independent F checks ms

module _ (F : Field) (K : IsField F) (checks : List (List ℕ)) (n : ℕ) (spread : Spread F checks n) (ms : List Bool) (width : length ms ≡ n)
    (target v : List ℕ) (long : length target ≡ length checks) (symbols : T (are_symbols F target)) where
  -- where as many columns are marked as there are checks: the first of them meet it
  pub spread-met : length checks ≤ marked ms → (y : List ℕ) × Filling F checks target ms v y
  spread-met enough =
      let others = sums_of F checks (put ms [] v) in
      let few = front (length checks) ms enough in
      let r = square-met F K checks few.marks (plus target others) (spread.free few.marks (few.long ∙ width) (le_of_eq few.count))
      (le_of_eq (sym few.count)) (plus-length target others (long ∙ sym (sums-count F checks (put ms [] v))) ∙ sums-count F checks (put ms [] v))
      (plus-fit F K target others (symbols-fit F target symbols) (sums-fit F K checks (put ms [] v))) in
      (_, filling-over F K checks target ms v r.0 long (inside-agrees F few.marks ms r.0 few.inside r.1) r.2)

  -- where more are, they are dependent
  pub spread-wide : length checks < marked ms → fill F checks target ms v ≡ tied
  spread-wide wide =
      let d = wide-dependency F K checks ms wide in
      let f = spread-met (omega arith) in
      fill-tied F checks target ms v d.1 f.1

  -- and only there
  pub spread-tied : T (dependent F checks ms) → fill F checks target ms v ≡ tied
  spread-tied t = elim (either (ltb (length checks) (marked ms))) [
    | inl more ↦ spread-wide (ltb→lt (length checks) (marked ms) more)
    | inr few ↦ absurd (T_not (dependent F checks ms) (spread.free ms width (nltb→le (length checks) (marked ms) few)) t)
  ]

-- What `fill` means, and what its answer depends on, for every width and polynomial. Assumes nothing.
use mathlib.Core.Path.{◌≡◌, refl, sym, ap, ◌∙◌, subst}
use mathlib.Core.Logic.{inl, inr}
use mathlib.Core.Bool.{Bool, true, false, not}
use mathlib.Core.List.Memᴰ
use mathlib.Core.List.{List, [], ◌∷◌, ◌++◌}
use Prim.Native.Nat.{ℕ}
use lib.Dec.{T, T_not, not_T}
use lib.ListN.{length}
use Rattle.field.specs.Lists.{when◌then◌else◌}
use Rattle.field.specs.Field.{Field}
use Rattle.field.proofs.Test.{both_left, both_right, both}
use Rattle.fills.specs.Lists.{only, same, zeros, vanish, plus}
use Rattle.fills.specs.Fill.{sums_of, options, one_of_each, choices, loose, dependent, fillings, Fill, tied, none, one, fill_by, fill}
use Rattle.fills.proofs.Tests.{In, either, if-cases, any-in, in-any, only-in, in-only, same→eq, same_refl}
use Rattle.fills.proofs.Choices.{Agrees, are_symbols, Alike, Inside}
use Rattle.fills.proofs.Choices.{agrees-length, alike-agrees, inside-agrees, choices-in, in-choices}
use Rattle.fills.proofs.Beside.{beside-alike}
use Rattle.fills.proofs.Vectors.{plus-cancel, plus-agrees, sums-plus-vanish, sums-fewer}

-- ---- dependent columns

-- w is a dependency of the marked columns
pub record Dependency (F : Field) (checks : List (List ℕ)) (ms : List Bool) (w : List ℕ) : Type 0 where
  pub agrees : Agrees F ms (zeros ms) w
  pub nonzero : T (not (vanish w))
  pub vanishes : T (vanish (sums_of F checks w))

abbrev pub Independent : Field → List (List ℕ) → List Bool → Type 0
Independent F checks ms = T (not (dependent F checks ms))

module _ (F : Field) (checks : List (List ℕ)) (ms : List Bool) where
  pub dependent-in : T (dependent F checks ms) → (w : List ℕ) × Dependency F checks ms w
  unfolding dependent loose
  dependent-in t =
      let r = any-in (loose F checks) (choices F ms (zeros ms)) t in (
        r.0,
        record {
          agrees = choices-in F ms (zeros ms) r.0 r.1;
          nonzero = both_left (not (vanish r.0)) (vanish (sums_of F checks r.0)) r.2;
          vanishes = both_right (not (vanish r.0)) (vanish (sums_of F checks r.0)) r.2;
        },
      )

  pub in-dependent : {w : List ℕ} → Dependency F checks ms w → T (dependent F checks ms)
  unfolding dependent loose
  in-dependent {w} d =
      in-any (loose F checks) (choices F ms (zeros ms)) (in-choices F ms (zeros ms) w d.agrees)
      (both (not (vanish w)) (vanish (sums_of F checks w)) d.nonzero d.vanishes)

  -- independent columns have no dependency
  pub no-dependency : Independent F checks ms → {w : List ℕ} → Dependency F checks ms w → ⊥
  no-dependency i d = T_not (dependent F checks ms) i (in-dependent d)

  -- and columns without one are independent
  pub independent-of : ((w : List ℕ) → Dependency F checks ms w → ⊥) → Independent F checks ms
  independent-of h = not_T (dependent F checks ms) (λ t. let r = dependent-in t in h r.0 r.1)

-- fewer marks keep columns independent
pub independent-inside : (F : Field) (checks : List (List ℕ)) (ms ns : List Bool) → Inside ms ns → Independent F checks ns
    → Independent F checks ms
independent-inside F checks ms ns i h =
    independent-of F checks ms (λ w d.
    no-dependency F checks ns h
    record { agrees = inside-agrees F ms ns w i d.agrees; nonzero = d.nonzero; vanishes = d.vanishes })

-- and so do more checks
pub independent-more : (F : Field) (cs ds : List (List ℕ)) (ms : List Bool) → Independent F cs ms → Independent F (cs ++ ds) ms
independent-more F cs ds ms h =
    independent-of F (cs ++ ds) ms (λ w d.
    no-dependency F cs ms h
    record { agrees = d.agrees; nonzero = d.nonzero; vanishes = sums-fewer F cs ds w d.vanishes })

pub independent-mono : (F : Field) (cs ds : List (List ℕ)) (ms ns : List Bool) → Inside ms ns → Independent F cs ns
    → Independent F (cs ++ ds) ms
independent-mono F cs ds ms ns i h = independent-more F cs ds ms (independent-inside F cs ms ns i h)

-- ---- the answer

-- w is a choice that has the target sums
pub record Filling (F : Field) (checks : List (List ℕ)) (target : List ℕ) (ms : List Bool) (v w : List ℕ) : Type 0 where
  pub agrees : Agrees F ms v w
  pub meets : sums_of F checks w ≡ target

module _ (F : Field) (checks : List (List ℕ)) (target : List ℕ) (ms : List Bool) (v : List ℕ) where
  -- what each answer says
  abbrev pub Means : Fill → Type 0
  Means none = (z : List ℕ) → Filling F checks target ms v z → ⊥
  Means tied = ((w : List ℕ) × Dependency F checks ms w) × ((z : List ℕ) × Filling F checks target ms v z)
  Means (one y) =
      Independent F checks ms × Filling F checks target ms v y × ((z : List ℕ) → Filling F checks target ms v z → z ≡ y)

  pub fillings-in : {w : List ℕ} → In w (fillings F checks target ms v) → Filling F checks target ms v w
  unfolding fillings
  fillings-in {w} m =
      let r = only-in (λ w. same (sums_of F checks w) target) (choices F ms v) m in
      record { agrees = choices-in F ms v w r.0; meets = same→eq (sums_of F checks w) target r.1 }

  pub in-fillings : {w : List ℕ} → Filling F checks target ms v w → In w (fillings F checks target ms v)
  unfolding fillings
  in-fillings {w} f =
      in-only (λ w. same (sums_of F checks w) target) (choices F ms v) (in-choices F ms v w f.agrees)
      (subst (λ s. T (same (sums_of F checks w) s)) f.meets (same_refl (sums_of F checks w)))

  -- independent columns have one filling at most
  pub at_most_one : {y z : List ℕ} → Independent F checks ms
      → Filling F checks target ms v y → Filling F checks target ms v z → y ≡ z
  at_most_one {y} {z} i f g =
      elim (either (vanish (plus y z))) [
        | inl t ↦ plus-cancel y z (agrees-length F ms v y f.agrees ∙ sym (agrees-length F ms v z g.agrees)) t
        | inr t ↦ absurd (no-dependency F checks ms i record {
          agrees = plus-agrees F ms v y z f.agrees g.agrees;
          nonzero = t;
          vanishes = sums-plus-vanish F checks y z (f.meets ∙ sym g.meets);
        })
      ]

  -- what the answer says holds
  pub fill-means : Means (fill F checks target ms v)
  unfolding fill fill_by
  fill-means = go (dependent F checks ms) refl (fillings F checks target ms v) refl
    where
      listed : (y : List ℕ) (l : List (List ℕ)) → fillings F checks target ms v ≡ y ∷ l → Filling F checks target ms v y
      listed y l q = fillings-in (subst (λ l. In y l) (sym q) (Memᴰ.head refl))

      unlisted : fillings F checks target ms v ≡ [] → (z : List ℕ) → Filling F checks target ms v z → ⊥
      unlisted q z f = Memᴰ.not-nil (subst (λ l. In z l) q (in-fillings f))

      go : (b : Bool) → dependent F checks ms ≡ b → (l : List (List ℕ)) → fillings F checks target ms v ≡ l → Means (fill_by b l)
      go true e [] q = unlisted q
      go false e [] q = unlisted q
      go true e (y ∷ l) q = (dependent-in F checks ms (subst T (sym e) tt), (y, listed y l q))
      go false e (y ∷ l) q =
          let i : Independent F checks ms = subst (λ b. T (not b)) (sym e) tt in
          let f = listed y l q in
          (i, f, λ z g. at_most_one i g f)

  -- at most one answer means what holds
  means-unique : (r s : Fill) → Means r → Means s → r ≡ s
  means-unique none none m n = refl
  means-unique none tied m n = absurd (m n.1.0 n.1.1)
  means-unique none (one z) m n = absurd (m z n.1)
  means-unique tied none m n = absurd (n m.1.0 m.1.1)
  means-unique tied tied m n = refl
  means-unique tied (one z) m n = absurd (no-dependency F checks ms n.0 m.0.1)
  means-unique (one y) none m n = absurd (n y m.1)
  means-unique (one y) tied m n = absurd (no-dependency F checks ms m.0 n.0.1)
  means-unique (one y) (one z) m n = ap one (n.2 y m.1)

  -- the answer is whichever says what holds
  pub fill_is : (r : Fill) → Means r → fill F checks target ms v ≡ r
  fill_is r m = means-unique (fill F checks target ms v) r fill-means m

  pub fill_none : ((z : List ℕ) → Filling F checks target ms v z → ⊥) → fill F checks target ms v ≡ none
  fill_none h = fill_is none h

  pub fill-tied : {w y : List ℕ} → Dependency F checks ms w → Filling F checks target ms v y → fill F checks target ms v ≡ tied
  fill-tied {w} {y} d f = fill_is tied ((w, d), (y, f))

  pub fill_one : {y : List ℕ} → Independent F checks ms → Filling F checks target ms v y → fill F checks target ms v ≡ one y
  fill_one {y} i f = fill_is (one y) (i, f, λ z g. at_most_one i g f)

-- what stands under marks does not matter
pub fill-alike : (F : Field) (checks : List (List ℕ)) (target : List ℕ) (ms : List Bool) (v w : List ℕ) → Alike ms v w
    → fill F checks target ms v ≡ fill F checks target ms w
unfolding options choices fill fillings
fill-alike F checks target ms v w a =
    ap (λ l. fill_by (dependent F checks ms) (only (λ y. same (sums_of F checks y) target) (one_of_each l)))
    (beside-alike (options F) (λ x y. refl) ms v w a)

-- with the sums of a vector that v agrees with, that vector is the answer, or the columns are dependent
pub fill-true : (F : Field) (checks : List (List ℕ)) (ms : List Bool) (v x : List ℕ)
    → Alike ms v x → length x ≡ length ms → T (are_symbols F x)
    → fill F checks (sums_of F checks x) ms v ≡ (when dependent F checks ms then tied else one x)
fill-true F checks ms v x a l t =
    let f : Filling F checks (sums_of F checks x) ms v x = record { agrees = alike-agrees F ms v x a l t; meets = refl } in
    if-cases (dependent F checks ms) (λ d. fill-tied F checks (sums_of F checks x) ms v (dependent-in F checks ms d).1 f)
    (λ i. fill_one F checks (sums_of F checks x) ms v i f)

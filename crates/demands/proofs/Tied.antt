-- A tied row has a filling, and two where mending leaves it; a row in Clash has none; where weight columns are dependent sums exist, so no level step is Clash. Assumes nothing.
use Prim.Native.Nat.{ℕ, zero, suc, ◌<◌}
use mathlib.Core.Path.{◌≡◌, refl, sym, ap, ◌∙◌, subst}
use mathlib.Core.Logic.{◌≢◌, inl, inr}
use mathlib.Core.Bool.{Bool, true, false}
use mathlib.Core.List.{List, [], ◌∷◌}
use native.Mathlib.Nat.{suc_inj}
use native.Mathlib.Omega.{arith}
use lib.Dec.{T, T_not, eqb, ltb}
use lib.ListN.{length, get_or}
use Rattle.std.specs.Prelude.{Result, Ok}
use Rattle.field.specs.Lists.{when◌then◌else◌}
use Rattle.field.specs.Field.{Field, size}
use Rattle.field.proofs.Laws.{IsField}
use Rattle.fills.specs.Lists.{zeros, vanish, rest, plus}
use Rattle.fills.specs.Fill.{sums_of, Fill, none, tied, one, fill}
use Rattle.fills.proofs.Choices.{Agrees, get_or-first, get_or-rest, agrees-length, agrees-alike, alike_at}
use Rattle.fills.proofs.Vectors.{plus-length, plus-self, plus-cancel, sums-count, sums-plus}
use Rattle.fills.proofs.Picked.{plus-undo}
use Rattle.fills.proofs.Filling.{Dependency, Filling, Means, fill-means}
use Rattle.fills.proofs.Spread.{over-agrees}
use Rattle.plans.specs.Plan.{Plan, plan_of, level_of, checks_to, row_at, marks_at}
use Rattle.plans.specs.Refusal.{unasked, sums_at, bench_refusal}
use Rattle.steps.specs.Steps.{stepped, unless_refused, row_fill, row_step_by, row_step, lossy, blocked, level_step_by, level_step}
use Rattle.plans.specs.declared.Bench.{Bench}
use Rattle.plans.specs.declared.Step.{Step}
use Rattle.plans.specs.declared.Step.TheVariants.{Whole, Filled, Tied, Top, Clash}
use Rattle.plans.proofs.Spread.{fields, weights-tied}
use Rattle.steps.proofs.Ends.{level-blocked}
use Rattle.demands.specs.Tied.{Fills, FillsRow, TiedHasFilling, ClashHasNone, LeftRowsFill, SumsExist, LevelClashIsFree}
use Rattle.demands.proofs.Rounds.{Ended, Out, mended-out}

-- ---- fillings, place by place

module _ (F : Field) where
  marked-symbol : (ms : List Bool) (v w : List ℕ) → Agrees F ms v w → (i : ℕ) → get_or ms i false ≡ true → get_or w i 0 < size F
  marked-symbol [] v w a i e = absurd (subst T (sym e) tt)
  marked-symbol (m ∷ ms) v [] a i e = absurd a
  marked-symbol (true ∷ ms) v (y ∷ ys) a zero e = a.0
  marked-symbol (false ∷ ms) v (y ∷ ys) a zero e = absurd (subst T (sym e) tt)
  marked-symbol (m ∷ ms) v (y ∷ ys) a (suc i) e = marked-symbol ms (rest v) ys a.1 i e

  agrees-by : (ms : List Bool) (v w : List ℕ) → length w ≡ length ms → ((i : ℕ) → get_or ms i true ≡ false → get_or w i 0 ≡ get_or v i 0)
      → ((i : ℕ) → get_or ms i false ≡ true → get_or w i 0 < size F) → Agrees F ms v w
  agrees-by [] v [] l same small = refl
  agrees-by [] v (y ∷ ys) l same small = absurd (omega arith)
  agrees-by (m ∷ ms) v [] l same small = absurd (omega arith)
  agrees-by (true ∷ ms) v (y ∷ ys) l same small =
      (small 0 refl, agrees-by ms (rest v) ys (suc_inj l) (λ i e. same (suc i) e ∙ get_or-rest v i) (λ i e. small (suc i) e))
  agrees-by (false ∷ ms) v (y ∷ ys) l same small =
      (same 0 refl ∙ get_or-first v, agrees-by ms (rest v) ys (suc_inj l) (λ i e. same (suc i) e ∙ get_or-rest v i) (λ i e. small (suc i) e))

  module _ (checks : List (List ℕ)) (target : List ℕ) (ms : List Bool) (v w : List ℕ) where
    filling-fills : Filling F checks target ms v w → Fills F checks target ms v w
    filling-fills f = record {
      long = agrees-length F ms v w f.agrees;
      same = λ i e. sym (alike_at ms v w (agrees-alike F ms v w f.agrees) i e);
      symbols = marked-symbol ms v w f.agrees;
      meets = f.meets;
    }

    fills-filling : Fills F checks target ms v w → Filling F checks target ms v w
    fills-filling f = record { agrees = agrees-by ms v w f.long f.same f.symbols; meets = f.meets }

-- ---- a row

module _ (b : Bench) (r : ℕ) where
  abbrev P : Plan
  P = plan_of b.plan

  -- what the row's fill means
  abbrev Meaning : Fill → Type 0
  Meaning = Means P.field (checks_to P b.level) (sums_at P b.level b.sums r) (marks_at P b.marks r) (row_at P b.symbols r)

  found : Meaning (row_fill b r)
  unfolding row_fill
  found = fill-means P.field (checks_to P b.level) (sums_at P b.level b.sums r) (marks_at P b.marks r) (row_at P b.symbols r)

  -- Tied is answered where the fill is tied, and Clash where it is none
  answered : (n : ℕ) (f : Fill) → let a = (unless_refused n b (row_step_by b r f)).answer in (a ≡ Ok Tied → f ≡ tied) × (a ≡ Ok Clash → f ≡ none)
  unfolding when◌then◌else◌ unless_refused row_step_by stepped
  answered zero none = (λ e. let z : ◌≡◌ {A = ℕ} 0 1 = cc in absurd (omega arith), λ e. refl)
  answered zero tied = (λ e. refl, λ e. let z : ◌≡◌ {A = ℕ} 0 1 = cc in absurd (omega arith))
  answered zero (one row) = by (eqb (get_or b.marks r 0) 0)
    where
      by : (z : Bool) → let a : Result Step ℕ = Ok (when z then Whole else Filled) in (a ≡ Ok Tied → one row ≡ tied) × (a ≡ Ok Clash → one row ≡ none)
      by true = (λ e. let z : ◌≡◌ {A = ℕ} 0 1 = cc in absurd (omega arith), λ e. let z : ◌≡◌ {A = ℕ} 0 1 = cc in absurd (omega arith))
      by false = (λ e. let z : ◌≡◌ {A = ℕ} 0 1 = cc in absurd (omega arith), λ e. let z : ◌≡◌ {A = ℕ} 0 1 = cc in absurd (omega arith))
  answered (suc n) f = (λ e. let z : ◌≡◌ {A = ℕ} 0 1 = cc in absurd (omega arith), λ e. let z : ◌≡◌ {A = ℕ} 0 1 = cc in absurd (omega arith))

pub tied-has-filling : TiedHasFilling
unfolding row_step
tied-has-filling b r e =
    let f = (subst (Meaning b r) ((answered b r (bench_refusal b (ltb r (plan_of b.plan).rows)) (row_fill b r)).0 e) (found b r)).1 in
    (f.0, filling-fills _ _ _ _ _ f.0 f.1)

pub clash-has-none : ClashHasNone
unfolding row_step
clash-has-none b r e w f =
    subst (Meaning b r) ((answered b r (bench_refusal b (ltb r (plan_of b.plan).rows)) (row_fill b r)).1 e) (found b r) w (fills-filling _ _ _ _ _ w f)

-- ---- two fillings of a tied row

-- a filling and a dependency make another
module _ (F : Field) (K : IsField F) (checks : List (List ℕ)) (target : List ℕ) (ms : List Bool) (v w d : List ℕ)
    (f : Filling F checks target ms v w) (g : Dependency F checks ms d) where
  other : List ℕ
  other = plus d w

  other-fills : Filling F checks target ms v other
  unfolding other
  other-fills = record {
    agrees = over-agrees F K ms v d w g.agrees f.agrees;
    meets =
        let D = sums_of F checks d in
        let W = sums_of F checks w in
        let long : length D ≡ length W = sums-count F checks d ∙ sym (sums-count F checks w) in
        sums-plus F checks d w
        ∙ plus-cancel (plus D W) W (plus-length D W long) (subst (λ l. T (vanish l)) (sym (plus-undo D W long)) g.vanishes) ∙ f.meets;
  }

  other_differs : w ≢ other
  unfolding other
  other_differs e =
      let long : length d ≡ length w = agrees-length F ms (zeros ms) d g.agrees ∙ sym (agrees-length F ms v w f.agrees) in
      T_not (vanish d) g.nonzero (subst (λ l. T (vanish l)) (ap (λ x. plus x w) e ∙ plus-undo d w long) (plus-self w))

pub left-rows-fill : LeftRowsFill
left-rows-fill p stripe marks fit m e r l nz = go (subst (Out p stripe marks fit) e (mended-out p stripe marks fit))
  where
    go : Ended p stripe marks fit m → (w : List ℕ) × (z : List ℕ) × FillsRow m.bench r w × FillsRow m.bench r z × (w ≢ z)
    go h =
        subst (λ q. (w : List ℕ) × (z : List ℕ) × FillsBy q w × FillsBy q z × (w ≢ z)) (sym h.reached.plan)
        (elim (h.settled r l) [ inl t ↦ two t | inr s ↦ absurd (nz s.0) ])
      where
        b : Bench
        b = m.bench

        F : Field
        F = (plan_of p).field

        C : List (List ℕ)
        C = checks_to (plan_of p) b.level

        target : List ℕ
        target = sums_at (plan_of p) b.level b.sums r

        ms : List Bool
        ms = marks_at (plan_of p) b.marks r

        v : List ℕ
        v = row_at (plan_of p) b.symbols r

        FillsBy : ℕ → List ℕ → Type 0
        FillsBy q w =
            Fills (plan_of q).field (checks_to (plan_of q) b.level) (sums_at (plan_of q) b.level b.sums r) (marks_at (plan_of q) b.marks r)
            (row_at (plan_of q) b.symbols r) w

        two : fill F C target ms v ≡ tied → (w : List ℕ) × (z : List ℕ) × FillsBy p w × FillsBy p z × (w ≢ z)
        two t =
            let a = subst (Means F C target ms v) t (fill-means F C target ms v) in
            let w = a.1.0 in
            let d = a.0.0 in
            let z = other F (fields p) C target ms v w d a.1.1 a.0.1 in (
              w,
              z,
              filling-fills F C target ms v w a.1.1,
              filling-fills F C target ms v z (other-fills F (fields p) C target ms v w d a.1.1 a.0.1),
              other_differs F (fields p) C target ms v w d a.1.1 a.0.1,
            )

-- ---- a level

pub sums-exist : SumsExist
sums-exist p t ms sums long bound =
    let F = (plan_of p).field in
    let W = (level_of (plan_of p) t).weights in
    let f = (subst (Means F W (zeros W) ms sums) (weights-tied p t ms sums long bound) (fill-means F W (zeros W) ms sums)).1 in
    (f.0, filling-fills F W (zeros W) ms sums f.0 f.1)

-- no refusal, level or block is a Clash
blocked-answer : (b : Bench) (n : ℕ) (low : Bool) → (unless_refused n b (when low then level_step_by b blocked else stepped b (Ok Top))).answer ≡ Ok Clash → ⊥
unfolding when◌then◌else◌ unless_refused level_step_by stepped
blocked-answer b zero true e = let z : ◌≡◌ {A = ℕ} 0 1 = cc in omega arith
blocked-answer b zero false e = let z : ◌≡◌ {A = ℕ} 0 1 = cc in omega arith
blocked-answer b (suc n) low e = let z : ◌≡◌ {A = ℕ} 0 1 = cc in omega arith

pub level-clash-is-free : LevelClashIsFree
unfolding level_step lossy
level-clash-is-free b e bound =
    let low = ltb b.level (length (plan_of b.plan).levels) in
    blocked-answer b (bench_refusal b unasked) low
    (subst (λ l. (unless_refused (bench_refusal b unasked) b (when low then level_step_by b l else stepped b (Ok Top))).answer ≡ Ok Clash) (level-blocked b bound) e)

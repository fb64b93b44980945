-- Steps on a fit bench: they are not refused, and they leave it fit and its lists as long as they were. Assumes nothing.
use mathlib.Core.Path.{◌≡◌, refl, sym, ap, ◌∙◌, subst}
use mathlib.Core.Logic.{◌≢◌, inl, inr}
use mathlib.Core.Bool.{Bool, true, false, ◌||◌}
use mathlib.Core.List.{List, [], ◌∷◌, ◌++◌, map}
use Prim.Native.Nat.{ℕ, zero, suc, ◌+◌, ◌*◌, ◌^◌, ◌<◌, ◌≤◌}
use native.Mathlib.Nat.{zero-lt-suc}
use native.Mathlib.Omega.{arith}
use borrow.Author.Tests.{ltb-true}
use lib.Dec.{T, ltb, ltb→lt, lt→ltb, nltb→le}
use lib.ListN.{length, get_or, length-set}
use lib.Pow.{pow_pos}
use lib.Seq.{length-sets, get_or-set_same, get_or-set_other}
use Rattle.std.specs.Prelude.{Ok}
use Rattle.field.specs.Lists.{when◌then◌else◌, up_from}
use Rattle.field.specs.Field.{Field, size, dot}
use Rattle.field.proofs.Test.{both_left, both_right, both}
use Rattle.field.proofs.Ring.{size-pos}
use Rattle.field.proofs.Laws.{IsField, dot-lt}
use Rattle.fills.specs.Lists.{all, zeros, first, rest, beside}
use Rattle.fills.specs.Fill.{dependent, Fill, none, tied, one, vector_in}
use Rattle.fills.proofs.Tests.{either, all_append}
use Rattle.fills.proofs.Choices.{Agrees, Allowed, agrees-length}
use Rattle.fills.proofs.Filling.{in-dependent, Means, fill-means}
use Rattle.plans.specs.Plan.{Plan, Level, plan_of, level_of, checks_to, row_at, marks_at, across}
use Rattle.plans.specs.Refusal.{unasked, all_below, unmarked_below, sums_at, lent_refusal, bench_refusal}
use Rattle.plans.specs.Rooms.{sum_room}
use Rattle.steps.specs.Steps.{fresh, stepped, unless_refused, row_fill, put_row, row_step_by, row_step, lossy, check_fill, Learned, failing, blocked, learned, level_fill, new_sums, raise, level_step_by, level_step}
use Rattle.steps.specs.Parts.{Room, Ready}
use Rattle.plans.specs.declared.Bench.{Bench}
use Rattle.plans.specs.declared.Step.TheVariants.{Top}
use Rattle.steps.proofs.Fit.{RowFits, BenchFit, Sized, sized-room, lent-fit, bench-fit, fit-bench, sized_fresh, fit-fresh}
use Rattle.plans.proofs.Rows.{of-rows, row-end, row_same, row_other, marks-length}
use Rattle.steps.proofs.Passing.{Ones, ones-told, blocked-told}
use Rattle.steps.proofs.Sums.{keep-length}
use Rattle.steps.proofs.Levels.{checks-le, sums-learned}
use Rattle.plans.proofs.Plans.{shape, known_of}
use Rattle.plans.proofs.Flat.{all_get_d}
use Rattle.plans.proofs.Refusals.{unmarked-below}

-- ---- rows and sums of symbols

-- what agrees with symbols where unmarked, and holds symbols where marked, holds symbols
pub agrees-below : (F : Field) (ms : List Bool) (v w : List ℕ) → T (unmarked_below (size F) ms v) → Agrees F ms v w → T (all_below (size F) w)
unfolding all beside all_below unmarked_below
agrees-below F [] v w t a = subst (λ l. T (all_below (size F) l)) (sym a) tt
agrees-below F (m ∷ ms) v [] t a = absurd a
agrees-below F (m ∷ ms) v (y ∷ ys) t a =
    let q = size F in
    both (ltb y q) (all_below q ys) (symbol m (both_left (m || ltb (first v) q) (unmarked_below q ms (rest v)) t) a.0)
    (agrees-below F ms (rest v) ys (both_right (m || ltb (first v) q) (unmarked_below q ms (rest v)) t) a.1)
  where
    symbol : (m : Bool) → T (m || ltb (first v) (size F)) → Allowed F m (first v) y → T (ltb y (size F))
    symbol true u h = lt→ltb y (size F) h
    symbol false u h = subst (λ x. T (ltb x (size F))) (sym h) u

-- the rows' sums under a check are symbols
pub across-below : (P : Plan) → IsField P.field → (symbols c : List ℕ) → T (all_below (size P.field) (across P symbols c))
unfolding across all_below all
across-below P K symbols c = go (up_from 0 P.rows)
  where
    go : (rs : List ℕ) → T (all_below (size P.field) (map (λ r. dot P.field c (row_at P symbols r)) rs))
    go [] = tt
    go (r ∷ rs) =
        let x = dot P.field c (row_at P symbols r) in
        both (ltb x (size P.field)) (all_below (size P.field) (map (λ r. dot P.field c (row_at P symbols r)) rs))
        (lt→ltb x (size P.field) (dot-lt P.field K c (row_at P symbols r))) (go rs)

-- ---- a filling for each check

module _ {A : Type 0} (f : A → Fill) where
  pub ones-length : (xs : List A) (vs : List (List ℕ)) → Ones f xs vs → length vs ≡ length xs
  ones-length [] [] o = refl
  ones-length [] (v ∷ vs) o = absurd o
  ones-length (x ∷ xs) [] o = absurd o
  ones-length (x ∷ xs) (v ∷ vs) o = ap suc (ones-length xs vs o.1)

  -- where each filling holds symbols, so do the sums that a row learns
  ones_below : (q : ℕ) → 0 < q → ((x : A) (v : List ℕ) → f x ≡ one v → T (all_below q v))
      → (xs : List A) (vs : List (List ℕ)) → Ones f xs vs → (r : ℕ) → T (all_below q (new_sums vs r))
  unfolding all_below all
  ones_below q z h [] [] o r = tt
  ones_below q z h [] (v ∷ vs) o r = absurd o
  ones_below q z h (x ∷ xs) [] o r = absurd o
  ones_below q z h (x ∷ xs) (v ∷ vs) o r =
      let at = all_get_d (λ x. ltb x q) 0 (lt→ltb 0 q z) v (h x v o.0) r in
      both (ltb (get_or v r 0) q) (all_below q (new_sums vs r)) at (ones_below q z h xs vs o.1 r)

-- ---- the steps

-- fit, and its lists have room for its plan
pub record Sound (b : Bench) : Type 0 where
  pub fit : BenchFit b
  pub room : Room b

pub sound-of : {b : Bench} → Ready b → Sound b
sound-of {b} r = record { fit = (bench-fit b unasked r.fit).0; room = r.room }

pub ready_of : {b : Bench} → Sound b → Ready b
unfolding unasked
ready_of {b} s = record { fit = fit-bench b unasked s.fit tt; room = s.room }

pub sound-fresh : (p : ℕ) (stripe marks : List ℕ) → lent_refusal p stripe marks ≡ 0 → Sound (fresh p stripe marks)
sound-fresh p stripe marks e =
    let f = lent-fit p stripe marks e in record { fit = fit-fresh p stripe marks f; room = sized-room (fresh p stripe marks) (sized_fresh p stripe marks f) }

module _ (b : Bench) where
  abbrev P : Plan
  P = plan_of b.plan

  -- the level that is learned next
  abbrev L : Level
  L = level_of P (suc b.level)

  -- a step on a row that is not there changes nothing
  pub row-outside : (r : ℕ) → P.rows ≤ r → (row_step b r).bench ≡ b
  unfolding row_step unless_refused stepped
  row-outside r h = go (bench_refusal b (ltb r P.rows)) refl
    where
      go : (n : ℕ) → bench_refusal b (ltb r P.rows) ≡ n → (unless_refused n b (row_step_by b r (row_fill b r))).bench ≡ b
      go zero e = let l = ltb→lt r P.rows (bench-fit b (ltb r P.rows) e).1 in absurd (omega arith)
      go (suc n) e = refl

  -- a row step keeps plan and level, a level step the plan
  pub row_keeps : (r : ℕ) → ((row_step b r).bench.plan ≡ b.plan) × ((row_step b r).bench.level ≡ b.level)
  unfolding row_step row_step_by unless_refused stepped put_row
  row_keeps r = go (bench_refusal b (ltb r P.rows)) (row_fill b r)
    where
      go : (n : ℕ) (f : Fill) → let c = (unless_refused n b (row_step_by b r f)).bench in (c.plan ≡ b.plan) × (c.level ≡ b.level)
      go zero none = (refl, refl)
      go zero tied = (refl, refl)
      go zero (one row) = (refl, refl)
      go (suc n) f = (refl, refl)

  pub level-plan : (level_step b).bench.plan ≡ b.plan
  unfolding when◌then◌else◌ level_step level_step_by unless_refused stepped raise
  level-plan = go (bench_refusal b unasked) (ltb b.level (length P.levels)) (level_fill b)
    where
      go : (n : ℕ) (c : Bool) (l : Learned) → (unless_refused n b (when c then level_step_by b l else stepped b (Ok Top))).bench.plan ≡ b.plan
      go zero true failing = refl
      go zero true blocked = refl
      go zero true (learned cs) = refl
      go zero false l = refl
      go (suc n) c l = refl

  -- steps leave the lengths of the lists as they were
  put-length : (r : ℕ) (row : List ℕ) → length (put_row b r row).symbols ≡ length b.symbols
  unfolding put_row
  put-length r row = length-sets b.symbols (r * P.columns) row

  put-words : (r : ℕ) (row : List ℕ) → length (put_row b r row).marks ≡ length b.marks
  unfolding put_row
  put-words r row = length-set b.marks r 0

  raise-length : (cs : List (List ℕ)) → length (raise b cs).sums ≡ length b.sums
  unfolding raise
  raise-length cs = keep-length (length (checks_to P b.level)) (map (new_sums cs) (up_from 0 P.rows)) b.sums

  pub sized-put : Sized b → (r : ℕ) (row : List ℕ) → Sized (put_row b r row)
  unfolding put_row
  sized-put s r row = record { symbols = put-length r row ∙ s.symbols; marks = put-words r row ∙ s.marks; sums = s.sums }

  pub sized-raise : Sized b → (cs : List (List ℕ)) → Sized (raise b cs)
  unfolding raise
  sized-raise s cs = record { symbols = s.symbols; marks = s.marks; sums = raise-length cs ∙ s.sums }

  pub room-put : Room b → (r : ℕ) (row : List ℕ) → Room (put_row b r row)
  unfolding put_row
  room-put s r row = record {
    stripe = record { rows = rw (put-words r row) s.stripe.rows; size = rw (put-length r row) s.stripe.size };
    learned = s.learned;
  }

  pub room-raise : Room b → (cs : List (List ℕ)) → Room (raise b cs)
  unfolding raise
  room-raise s cs = record { stripe = s.stripe; learned = rw (raise-length cs) s.learned }

  -- ---- dependent weight columns: what a tied check, and a blocked level, tells of

  pub tied-weights : (c : List ℕ) → check_fill b c ≡ tied → T (dependent P.field L.weights (lossy P b.marks))
  unfolding check_fill
  tied-weights c e =
      let W = L.weights in
      let ms = lossy P b.marks in
      let u = across P b.symbols c in
      in-dependent P.field W ms (subst (Means P.field W (zeros W) ms u) e (fill-means P.field W (zeros W) ms u)).0.1

  pub blocked-dependent : level_fill b ≡ blocked → T (dependent P.field L.weights (lossy P b.marks))
  unfolding level_fill
  blocked-dependent = blocked-told (check_fill b) (λ c. vector_in (check_fill b c)) (dependent P.field L.weights (lossy P b.marks)) L.checks

  module _ (f : BenchFit b) where
    -- ---- on a fit bench no step is refused

    pub row_step_lem : (r : ℕ) → r < P.rows → row_step b r ≡ row_step_by b r (row_fill b r)
    unfolding row_step unless_refused
    row_step_lem r h = ap (λ n. unless_refused n b (row_step_by b r (row_fill b r))) (fit-bench b (ltb r P.rows) f (lt→ltb r P.rows h))

    pub level-step : level_step b ≡ (when ltb b.level (length P.levels) then level_step_by b (level_fill b) else stepped b (Ok Top))
    unfolding unasked level_step unless_refused
    level-step =
        ap (λ n. unless_refused n b (when ltb b.level (length P.levels) then level_step_by b (level_fill b) else stepped b (Ok Top)))
        (fit-bench b unasked f tt)

    -- ---- a filled row

    module _ (r : ℕ) (inside : r < P.rows) where
      -- a filling is a row of symbols
      pub filled_row : (row : List ℕ) → row_fill b r ≡ one row → (length row ≡ P.columns) × T (all_below (size P.field) row)
      unfolding row_fill
      filled_row row e =
          let cs = checks_to P b.level in
          let target = sums_at P b.level b.sums r in
          let ms = marks_at P b.marks r in
          let v = row_at P b.symbols r in
          let m = subst (Means P.field cs target ms v) e (fill-means P.field cs target ms v) in (
            agrees-length P.field ms v row m.1.agrees ∙ marks-length P b.marks r,
            agrees-below P.field ms v row (f.row_fits r inside) m.1.agrees,
          )

      module _ (s : Room b) where
        -- the row's symbols and its marks stand inside the lists
        pub row-place : r * P.columns + P.columns ≤ length b.symbols
        row-place = omega (arith, row-end P.columns inside, s.stripe.size)

        pub mark-place : r < length b.marks
        mark-place = omega (arith, s.stripe.rows)

        -- what stands in the bench once a row is put
        module _ (row : List ℕ) (long : length row ≡ P.columns) where
          pub put-mark : get_or (put_row b r row).marks r 0 ≡ 0
          unfolding put_row
          put-mark = get_or-set_same b.marks r 0 0 mark-place

          pub put-mark-other : (k : ℕ) → k ≢ r → get_or (put_row b r row).marks k 0 ≡ get_or b.marks k 0
          unfolding put_row
          put-mark-other k ne = get_or-set_other b.marks r k 0 0 ne

          pub put-row : row_at P (put_row b r row).symbols r ≡ row
          unfolding put_row
          put-row = row_same P r row b.symbols long row-place

          pub put-row-other : (k : ℕ) → k ≢ r → row_at P (put_row b r row).symbols k ≡ row_at P b.symbols k
          unfolding put_row
          put-row-other k ne = row_other P r row b.symbols long k ne

          pub fit-put : T (all_below (size P.field) row) → BenchFit (put_row b r row)
          unfolding put_row marks_at
          fit-put below = record {
            plan-known = f.plan-known;
            level-pos = f.level-pos;
            level-le = f.level-le;
            mark-lt =
                of-rows (λ k. get_or (put_row b r row).marks k 0 < 2 ^ P.columns) r (rw put-mark (pow_pos P.columns))
                (λ k l ne. rw (put-mark-other k ne) (f.mark-lt k l));
            row_fits =
                of-rows (λ k. RowFits P (put_row b r row).marks (put_row b r row).symbols k) r
                (rw put-row (unmarked-below P.field (marks_at P (put_row b r row).marks r) row below))
                (λ k l ne. rw (put-mark-other k ne, put-row-other k ne) (f.row_fits k l));
            sums-fits = f.sums-fits;
          }

    -- ---- a learned level

    pub learned-ones : (cs : List (List ℕ)) → level_fill b ≡ learned cs → Ones (check_fill b) L.checks cs
    unfolding level_fill vector_in
    learned-ones cs e =
        ones-told (check_fill b) (λ c. vector_in (check_fill b c)) (dependent P.field L.weights (lossy P b.marks))
        tied-weights (λ c v q. ap vector_in q) L.checks cs e

    pub learned-length : (cs : List (List ℕ)) → level_fill b ≡ learned cs → length cs ≡ length L.checks
    learned-length cs e = ones-length (check_fill b) L.checks cs (learned-ones cs e)

    -- the sums that a row learns are symbols
    learned-below : (cs : List (List ℕ)) → level_fill b ≡ learned cs → (r : ℕ) → T (all_below (size P.field) (new_sums cs r))
    unfolding all_below check_fill
    learned-below cs e =
        ones_below (check_fill b) (size P.field) (size-pos P.field) symbols L.checks cs (learned-ones cs e)
      where
        symbols : (c v : List ℕ) → check_fill b c ≡ one v → T (all_below (size P.field) v)
        symbols c v e =
            let ws = L.weights in
            let ms = lossy P b.marks in
            let u = across P b.symbols c in
            let m = subst (Means P.field ws (zeros ws) ms u) e (fill-means P.field ws (zeros ws) ms u) in
            let below = across-below P (known_of b.plan f.plan-known).field b.symbols c in
            agrees-below P.field ms u v (unmarked-below P.field ms u below) m.1.agrees

    module _ (s : Room b) (low : b.level < length P.levels) (cs : List (List ℕ)) (count : length cs ≡ length L.checks) where
      -- row r's sums once the level is learned: the old ones, then the new
      pub raise-sums : (r : ℕ) → r < P.rows → sums_at P (suc b.level) (raise b cs).sums r ≡ sums_at P b.level b.sums r ++ new_sums cs r
      unfolding raise
      raise-sums r inside =
          let sh = shape b.plan f.plan-known in
          sums-learned P b.level cs b.sums r low count (omega (arith, checks-le P low, sh.sums-le))
          (omega (arith, s.learned, row-end sum_room inside)) inside

      pub fit-raise : ((r : ℕ) → r < P.rows → T (all_below (size P.field) (new_sums cs r))) → BenchFit (raise b cs)
      unfolding raise all_below
      fit-raise below = record {
        plan-known = f.plan-known;
        level-pos = zero-lt-suc b.level;
        level-le = low;
        mark-lt = f.mark-lt;
        row_fits = f.row_fits;
        sums-fits = λ r h.
            rw (raise-sums r h)
            (all_append (λ x. ltb x (size P.field)) (sums_at P b.level b.sums r) (new_sums cs r) (f.sums-fits r h) (below r h));
      }

  module _ (s : Sound b) where
    -- ---- steps leave a sound bench sound

    pub sound-put : (r : ℕ) (row : List ℕ) → r < P.rows → row_fill b r ≡ one row → Sound (put_row b r row)
    sound-put r row h e =
        let g = filled_row s.fit r h row e in
        record { fit = fit-put s.fit r h s.room row g.0 g.1; room = room-put s.room r row }

    pub sound-raise : (cs : List (List ℕ)) → b.level < length P.levels → level_fill b ≡ learned cs → Sound (raise b cs)
    sound-raise cs low e = record {
      fit = fit-raise s.fit s.room low cs (learned-length s.fit cs e) (λ r h. learned-below s.fit cs e r);
      room = room-raise s.room cs;
    }

    pub sound-row : (r : ℕ) → Sound (row_step b r).bench
    unfolding row_step_by stepped
    sound-row r =
        elim (either (ltb r P.rows)) [
          | inl t ↦ let h = ltb→lt r P.rows t in subst (λ c. Sound c.bench) (sym (row_step_lem s.fit r h)) (go h (row_fill b r) refl)
          | inr t ↦ subst Sound (sym (row-outside r (nltb→le r P.rows t))) s
        ]
      where
        go : r < P.rows → (a : Fill) → row_fill b r ≡ a → Sound (row_step_by b r a).bench
        go h none e = s
        go h tied e = s
        go h (one row) e = sound-put r row h e

    pub sound-level : Sound (level_step b).bench
    unfolding when◌then◌else◌ level_step_by stepped
    sound-level =
        subst (λ c. Sound c.bench) (sym (level-step s.fit)) (go (ltb b.level (length P.levels)) refl (level_fill b) refl)
      where
        go : (c : Bool) → ltb b.level (length P.levels) ≡ c → (l : Learned) → level_fill b ≡ l
            → Sound (when c then level_step_by b l else stepped b (Ok Top)).bench
        go false q l e = s
        go true q failing e = s
        go true q blocked e = s
        go true q (learned cs) e = sound-raise cs (ltb-true b.level (length P.levels) q) e

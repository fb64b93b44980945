-- Benches that steps reach from a fresh one, whether or not a codeword agrees: unmarked symbols stay, and a stripe that has the learned sums
-- meets every check of the levels learned. Assumes nothing.
use mathlib.Core.Path.{◌≡◌, refl, sym, ap, ◌∙◌, subst}
use mathlib.Core.Bool.{true, not}
use mathlib.Core.Logic.{◌⊎◌, inl, inr}
use mathlib.Core.List.{List, [], ◌∷◌, ◌++◌}
use Prim.Native.Nat.{ℕ, suc, ◌<◌, ◌≤◌}
use native.Mathlib.Omega.{arith}
use lib.Dec.{T, eqb}
use lib.ListN.{length, take, drop, get_or, length-map, drop_of_length-le, length-take}
use lib.Seq.{take-suc, drop-append-le, ext_get_or}
use Rattle.field.specs.Lists.{up_from}
use Rattle.field.specs.Field.{dot}
use Rattle.field.proofs.Test.{both}
use Rattle.field.proofs.Lists.{length_up, get_or-map-below}
use Rattle.fills.specs.Lists.{all, zeros, vanish}
use Rattle.fills.specs.Fill.{sums_of, one}
use Rattle.fills.proofs.Tests.{zeros-vanish, all_append}
use Rattle.fills.proofs.Choices.{Alike, agrees-length, agrees-alike}
use Rattle.fills.proofs.Vectors.{sums-append, sums-count}
use Rattle.fills.proofs.Filling.{Means, fill-means}
use Rattle.plans.specs.Plan.{Plan, Level, no_level, plan_of, level_of, checks_to, row_at, marks_at, across}
use Rattle.plans.specs.Refusal.{sums_at}
use Rattle.plans.specs.Rooms.{sum_room}
use Rattle.steps.specs.Steps.{fresh, row_fill, put_row, lossy, check_fill, learned, level_fill, new_sums, raise}
use Rattle.codewords.specs.Codeword.{rows_hold, totals_hold}
use Rattle.plans.specs.declared.Bench.{Bench}
use Rattle.plans.proofs.Rows.{of-rows, row-end}
use Rattle.steps.proofs.Levels.{checks-first, checks-suc, checks-le, sums-length}
use Rattle.plans.proofs.Plans.{shape}
use Rattle.steps.proofs.Fit.{lent-fit, rows_all, fresh-mark, fresh-row, fresh-sums}
use Rattle.steps.proofs.Passing.{Ones}
use Rattle.steps.proofs.Sound.{Sound, sound-fresh, filled_row, put-mark, put-mark-other, put-row, put-row-other, learned-ones, learned-length, raise-sums, sound-put, sound-raise}
use Rattle.demands.specs.Words.{Codeword, Agree, Fit}
use Rattle.demands.proofs.Lists.{append-same}
use Rattle.demands.proofs.Alike.{alike_refl, alike-trans, alike-inside, fewer}
use Rattle.demands.proofs.Held.{Has, Held, held-fresh, row-finds, level-finds, held-put, held-raise, word_sums, row_tied, level_tied, one-row, one-level}

-- the stripe Y meets the checks of levels 1 to t
pub record Meets (p t : ℕ) (Y : List ℕ) : Type 0 where
  pub rows : T (rows_hold (plan_of p) Y)
  pub totals : T (all (totals_hold (plan_of p) Y) (drop 1 (take t (plan_of p).levels)))

-- nothing is asked of no level
no-levels : (P : Plan) (Y : List ℕ) → T (all (totals_hold P Y) [])
unfolding all
no-levels P Y = tt

-- what holds of each bench that steps reach from the fresh one
pub record Reached (p : ℕ) (stripe marks : List ℕ) (b : Bench) : Type 0 where
  pub plan : b.plan ≡ p
  pub sound : Sound b
  -- a row has no marks, or those that were lent
  pub words : (r : ℕ) → r < (plan_of p).rows → (get_or b.marks r 0 ≡ 0) ⊎ (get_or b.marks r 0 ≡ get_or marks r 0)
  pub same : (r : ℕ) → r < (plan_of p).rows → Alike (marks_at (plan_of p) marks r) (row_at (plan_of p) stripe r) (row_at (plan_of p) b.symbols r)
  pub meets : (Y : List ℕ) → Has p b Y → Meets p b.level Y
  pub held : (X : List ℕ) → Codeword p X → Agree p marks X stripe → Held p X b

-- ---- a fresh bench

module _ (p : ℕ) (stripe marks : List ℕ) (fit : Fit p stripe marks) where
  abbrev P : Plan
  P = plan_of p

  meets-fresh : (Y : List ℕ) → Has p (fresh p stripe marks) Y → Meets p 1 Y
  unfolding fresh rows_hold
  meets-fresh Y has =
      let first = checks-first P (shape p (lent-fit p stripe marks fit).plan-known).levels-pos in
      record {
        rows =
            rows_all (λ r. vanish (sums_of P.field (level_of P 1).checks (row_at P Y r))) P.rows (λ r l.
            subst (λ cs. T (vanish (sums_of P.field cs (row_at P Y r)))) first (subst (λ s. T (vanish s)) (has r l) (fresh-sums p stripe marks r)));
        totals =
            subst (λ ls. T (all (totals_hold P Y) ls)) (sym (drop_of_length-le (take 1 P.levels) {i = 1} (simp length-take (omega arith))))
            (no-levels P Y);
      }

  pub reached-fresh : Reached p stripe marks (fresh p stripe marks)
  unfolding fresh marks_at
  reached-fresh =
      let lent = lent-fit p stripe marks fit in
      record {
        plan = refl;
        sound = sound-fresh p stripe marks fit;
        words = λ r l. inr (fresh-mark p stripe marks lent r l);
        same = λ r l. rw (fresh-row p stripe marks lent r l) (alike_refl (marks_at P marks r) (row_at P stripe r));
        meets = meets-fresh;
        held = λ X word agree. held-fresh p X stripe marks fit word agree;
      }

-- ---- steps

module _ (stripe marks : List ℕ) (b : Bench) (s : Reached b.plan stripe marks b) where
  abbrev Q : Plan
  Q = plan_of b.plan

  abbrev L : Level
  L = level_of Q (suc b.level)

  own_put : (r : ℕ) (row : List ℕ) → r < Q.rows → row_fill b r ≡ one row → Reached b.plan stripe marks (put_row b r row)
  unfolding put_row marks_at row_fill
  own_put r row l e =
      let f = s.sound.fit in
      let z = s.sound.room in
      let long = (filled_row b f r l row e).0 in
      let C = checks_to Q b.level in
      let target = sums_at Q b.level b.sums r in
      let ms = marks_at Q b.marks r in
      let v = row_at Q b.symbols r in
      let m = subst (Means Q.field C target ms v) e (fill-means Q.field C target ms v) in
      let c = put_row b r row in
      record {
        plan = refl;
        sound = sound-put b s.sound r row l e;
        words =
            of-rows (λ k. (get_or c.marks k 0 ≡ 0) ⊎ (get_or c.marks k 0 ≡ get_or marks k 0)) r (inl (put-mark b f r l z row long))
            (λ k g ne. rw (put-mark-other b f r l z row long k ne) (s.words k g));
        same =
            of-rows (λ k. Alike (marks_at Q marks k) (row_at Q stripe k) (row_at Q c.symbols k)) r
            (rw (put-row b f r l z row long)
            (alike-trans (marks_at Q marks r) (row_at Q stripe r) v row (s.same r l)
            (alike-inside ms (marks_at Q marks r) v row (fewer Q.columns (get_or b.marks r 0) (get_or marks r 0) (s.words r l))
            (agrees-alike Q.field ms v row m.1.agrees))))
            (λ k g ne. rw (put-row-other b f r l z row long k ne) (s.same k g));
        meets = s.meets;
        held = λ X word agree.
            let h = s.held X word agree in
            subst (λ x. Held b.plan X (put_row b r x))
            (one-row (row_tied b.plan b.level b.marks r) (row_at Q X r) row (sym (row-finds b.plan X b h r l) ∙ e)).1
            (held-put b.plan X b h r l);
      }

  -- what was learned has zero totals, and so has a stripe with those sums
  totals-of : (Y : List ℕ) (checks cs : List (List ℕ)) → Ones (check_fill b) checks cs
      → ((r : ℕ) → r < Q.rows → new_sums cs r ≡ sums_of Q.field checks (row_at Q Y r))
      → T (all (λ c. vanish (sums_of Q.field L.weights (across Q Y c))) checks)
  unfolding all sums_of across lossy check_fill
  totals-of Y [] [] o e = tt
  totals-of Y [] (v ∷ cs) o e = absurd o
  totals-of Y (c ∷ checks) [] o e = absurd o
  totals-of Y (c ∷ checks) (v ∷ cs) o e =
      both (vanish (sums_of Q.field L.weights (across Q Y c))) (all (λ c. vanish (sums_of Q.field L.weights (across Q Y c))) checks)
      (zero-totals c v o.0 (λ r l. ap (λ l. get_or l 0 0) (e r l)))
      (totals-of Y checks cs o.1 (λ r l. ap (drop 1) (e r l)))
    where
      zero-totals : (c v : List ℕ) → check_fill b c ≡ one v → ((r : ℕ) → r < Q.rows → get_or v r 0 ≡ dot Q.field c (row_at Q Y r))
          → T (vanish (sums_of Q.field L.weights (across Q Y c)))
      zero-totals c v q g =
          let ws = L.weights in
          let ms = lossy Q b.marks in
          let u = across Q b.symbols c in
          let m = subst (Means Q.field ws (zeros ws) ms u) q (fill-means Q.field ws (zeros ws) ms u) in
          let long : length v ≡ Q.rows =
          agrees-length Q.field ms u v m.1.agrees
          ∙ length-map (up_from 0 Q.rows) (λ r. not (eqb (get_or b.marks r 0) 0)) ∙ length_up 0 Q.rows in
          let wide : length (across Q Y c) ≡ Q.rows =
          length-map (up_from 0 Q.rows) (λ r. dot Q.field c (row_at Q Y r)) ∙ length_up 0 Q.rows in
          let same : v ≡ across Q Y c =
          ext_get_or 0 v (across Q Y c) (long ∙ sym wide) (λ r l.
          let h : r < Q.rows = subst (λ n. r < n) long l in
          g r h ∙ sym (get_or-map-below (λ r. dot Q.field c (row_at Q Y r)) Q.rows r 0 h)) in
          subst (λ x. T (vanish (sums_of Q.field ws x))) same (subst (λ z. T (vanish z)) (sym m.1.meets) (zeros-vanish ws))

  -- the levels from 2 to t + 1
  more-levels : b.level < length Q.levels → drop 1 (take (suc b.level) Q.levels) ≡ drop 1 (take b.level Q.levels) ++ (L ∷ [])
  unfolding level_of
  more-levels low =
      ap (drop 1) (take-suc Q.levels b.level no_level low)
      ∙ drop-append-le 1 (take b.level Q.levels) (L ∷ []) (simp length-take (omega (arith, s.sound.fit.level-pos)))

  module _ (cs : List (List ℕ)) (low : b.level < length Q.levels) (e : level_fill b ≡ learned cs) where
    -- a stripe with the sums of levels 1 to t + 1 has those of levels 1 to t, and those that were learned
    has_parts : (Y : List ℕ) → Has b.plan (raise b cs) Y → (r : ℕ) → r < Q.rows
        → (sums_at Q b.level b.sums r ≡ sums_of Q.field (checks_to Q b.level) (row_at Q Y r))
        × (new_sums cs r ≡ sums_of Q.field L.checks (row_at Q Y r))
    unfolding raise
    has_parts Y has r l =
        let f = s.sound.fit in
        let sh = shape b.plan f.plan-known in
        let C = checks_to Q b.level in
        append-same (sums_at Q b.level b.sums r) (sums_of Q.field C (row_at Q Y r))
        (sym (raise-sums b f s.sound.room low cs (learned-length b f cs e) r l) ∙ has r l
        ∙ ap (λ cs. sums_of Q.field cs (row_at Q Y r)) (checks-suc Q b.level low) ∙ sums-append Q.field C L.checks (row_at Q Y r))
        (sums-length Q b.level b.sums r (omega (arith, checks-le Q f.level-le, sh.sums-le))
        (omega (arith, row-end sum_room l, sh.rows-le, s.sound.room.learned))
        ∙ sym (sums-count Q.field C (row_at Q Y r)))

    meets-raise : (Y : List ℕ) → Has b.plan (raise b cs) Y → Meets b.plan (suc b.level) Y
    unfolding all totals_hold
    meets-raise Y has =
        let old = s.meets Y (λ r l. (has_parts Y has r l).0) in
        record {
          rows = old.rows;
          totals =
              subst (λ ls. T (all (totals_hold Q Y) ls)) (sym (more-levels low))
              (all_append (totals_hold Q Y) (drop 1 (take b.level Q.levels)) (L ∷ []) old.totals
              (both (totals_hold Q Y L) true (totals-of Y L.checks cs (learned-ones b s.sound.fit cs e) (λ r l. (has_parts Y has r l).1)) tt));
        }

    own-raise : Reached b.plan stripe marks (raise b cs)
    unfolding raise
    own-raise = record {
      plan = refl;
      sound = sound-raise b s.sound cs low e;
      words = s.words;
      same = s.same;
      meets = meets-raise;
      held = λ X word agree.
          let h = s.held X word agree in
          subst (λ xs. Held b.plan X (raise b xs))
          (one-level (level_tied b.plan b.level b.marks) (word_sums b.plan b.level X) cs (sym (level-finds b.plan X b h low) ∙ e)).1
          (held-raise b.plan X b h low);
    }

-- the same for the plan that the bench's is
module _ (p : ℕ) (stripe marks : List ℕ) (b : Bench) (s : Reached p stripe marks b) where
  reached-own : (S : ℕ → Type 0) → (Reached b.plan stripe marks b → S b.plan) → S p
  reached-own S f = subst S s.plan (f (subst (λ q. Reached q stripe marks b) (sym s.plan) s))

  pub reached-level : b.level ≤ length (plan_of p).levels
  reached-level = subst (λ q. b.level ≤ length (plan_of q).levels) s.plan s.sound.fit.level-le

  pub reached-put : (r : ℕ) (row : List ℕ) → r < (plan_of p).rows → row_fill b r ≡ one row → Reached p stripe marks (put_row b r row)
  reached-put r row =
      reached-own (λ p. r < (plan_of p).rows → row_fill b r ≡ one row → Reached p stripe marks (put_row b r row)) (λ g. own_put stripe marks b g r row)

  pub reached-raise : (cs : List (List ℕ)) → b.level < length (plan_of p).levels → level_fill b ≡ learned cs → Reached p stripe marks (raise b cs)
  reached-raise cs =
      reached-own (λ p. b.level < length (plan_of p).levels → level_fill b ≡ learned cs → Reached p stripe marks (raise b cs))
      (λ g. own-raise stripe marks b g cs)

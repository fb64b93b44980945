-- A bench held to a codeword that agrees with its unmarked symbols: no step is Clash, a filled row is the codeword's, learned sums are
-- the codeword's. Assumes nothing.
use mathlib.Core.Path.{◌≡◌, refl, sym, ap, ap₂, ◌∙◌, subst, subst₂}
use mathlib.Core.Bool.{Bool, true, false, not}
use mathlib.Core.List.Memᴰ
use mathlib.Core.List.{List, [], ◌∷◌, ◌++◌, map}
use Prim.Native.Nat.{ℕ, zero, suc, ◌+◌, ◌^◌, ◌<◌, ◌≤◌}
use native.Mathlib.Nat.{zero-add, le_of_eq}
use native.Mathlib.Omega.{arith}
use lib.Dec.{T, eqb, ltb, eqb→eq, lt→ltb}
use lib.ListN.{length, get_or, length-map}
use Rattle.std.specs.Prelude.{Ok}
use Rattle.field.specs.Lists.{when◌then◌else◌, up_from}
use Rattle.field.specs.Field.{dot}
use Rattle.fills.specs.Lists.{vanish, first, rest}
use Rattle.fills.specs.Marks.{bits_of}
use Rattle.fills.specs.Fill.{sums_of, dependent, Fill, none, tied, one, fill, vector_in}
use Rattle.fills.proofs.Tests.{In}
use Rattle.fills.proofs.Choices.{Alike}
use Rattle.fills.proofs.Vectors.{sums-append, sums-count}
use Rattle.fills.proofs.Filling.{fill-true}
use Rattle.plans.specs.Plan.{Plan, Level, known, plan_of, level_of, checks_to, row_at, marks_at, across}
use Rattle.plans.specs.Refusal.{all_below, sums_at}
use Rattle.plans.specs.Rooms.{sum_room}
use Rattle.steps.specs.Steps.{Stepped, fresh, stepped, row_fill, put_row, row_step_by, row_step, lossy, check_fill, blocked, learned, level_fill, raise, level_step_by, level_step}
use Rattle.plans.specs.declared.Bench.{Bench}
use Rattle.plans.specs.declared.Step.{Step}
use Rattle.plans.specs.declared.Step.TheVariants.{Top}
use Rattle.plans.proofs.Rows.{of-rows, row-end, row-length, marks-length}
use Rattle.steps.proofs.Levels.{checks-first, checks-suc, checks-le, sums-length}
use Rattle.plans.proofs.Plans.{shape, known_of}
use Rattle.steps.proofs.Fit.{if-true, if-false, lent-fit, fresh-mark, fresh-row, fresh-sums}
use Rattle.steps.proofs.Passing.{Ones, ends, ends-blocked, ones-learned}
use Rattle.steps.proofs.Sound.{Sound, sound-fresh, across-below, room-put, room-raise, row_step_lem, level-step, row-place, put-mark-other, put-row, put-row-other, fit-put, raise-sums, fit-raise}
use Rattle.demands.specs.Words.{Codeword, Agree, Fit, Move, after, walk}
use Rattle.demands.proofs.Alike.{alike_refl, alike-sym, alike-unmarked, agree-rows, clear-unmarked}
use Rattle.demands.proofs.Codewords.{vanish-same, sums-below, across-row, word_row, word_below, word-sums, word-totals}
use Rattle.demands.proofs.Room.{by-step}

-- the stripe Y has the learned sums
abbrev pub Has : ℕ → Bench → (Y : List ℕ) → Type 0
Has p b Y = (r : ℕ) → r < (plan_of p).rows
    → sums_at (plan_of p) b.level b.sums r ≡ sums_of (plan_of p).field (checks_to (plan_of p) b.level) (row_at (plan_of p) Y r)

-- the codeword X agrees with what is unmarked, and the learned sums are its own
pub record Held (p : ℕ) (X : List ℕ) (b : Bench) : Type 0 where
  pub plan : b.plan ≡ p
  pub sound : Sound b
  pub codeword : Codeword p X
  pub alike : (r : ℕ) → r < (plan_of p).rows → Alike (marks_at (plan_of p) b.marks r) (row_at (plan_of p) b.symbols r) (row_at (plan_of p) X r)
  pub has : Has p b X

-- what holds for the bench's own plan holds for the plan that it is
pub own-plan : {p : ℕ} {X : List ℕ} {b : Bench} (S : ℕ → Type 0) → Held p X b → (Held b.plan X b → S b.plan) → S p
own-plan {X = X} {b} S h f = subst S h.plan (f (subst (λ q. Held q X b) (sym h.plan) h))

-- ---- what may be filled, and what learned

-- row r's marked columns are dependent under the checks of levels 1 to t
abbrev pub row_tied : (p t : ℕ) → (marks : List ℕ) → ℕ → Bool
row_tied p t marks r = dependent (plan_of p).field (checks_to (plan_of p) t) (marks_at (plan_of p) marks r)

-- the marked rows' columns are dependent under the weights of level t + 1
abbrev pub level_tied : (p t : ℕ) → (marks : List ℕ) → Bool
level_tied p t marks = dependent (plan_of p).field (level_of (plan_of p) (suc t)).weights (lossy (plan_of p) marks)

abbrev pub RowFree : (p t : ℕ) → (marks : List ℕ) → ℕ → Type 0
RowFree p t marks r = T (not (row_tied p t marks r))

abbrev pub LevelFree : (p t : ℕ) → (marks : List ℕ) → Type 0
LevelFree p t marks = T (not (level_tied p t marks))

-- X's sums of all rows at level t + 1
abbrev pub word_sums : (p t : ℕ) → List ℕ → List (List ℕ)
word_sums p t X = map (across (plan_of p) X) (level_of (plan_of p) (suc t)).checks

-- ---- a fresh bench

module _ (p : ℕ) (X stripe marks : List ℕ) (fit : Fit p stripe marks) (word : Codeword p X) (agree : Agree p marks X stripe) where
  pub held-fresh : Held p X (fresh p stripe marks)
  unfolding fresh marks_at
  held-fresh =
      let lent = lent-fit p stripe marks fit in
      record {
        plan = refl;
        sound = sound-fresh p stripe marks fit;
        codeword = word;
        alike = λ r l.
            subst₂ (λ w v. Alike (bits_of (plan_of p).columns w) v (row_at (plan_of p) X r)) (sym (fresh-mark p stripe marks lent r l))
            (sym (fresh-row p stripe marks lent r l))
            (alike-sym (marks_at (plan_of p) marks r) (row_at (plan_of p) X r) (row_at (plan_of p) stripe r) (agree-rows p marks X stripe agree r l));
        has = λ r l.
            let sh = shape p lent.plan-known in
            let C = checks_to (plan_of p) 1 in
            vanish-same (sums_at (plan_of p) 1 (fresh p stripe marks).sums r) (sums_of (plan_of p).field C (row_at (plan_of p) X r))
            (sums-length (plan_of p) 1 (fresh p stripe marks).sums r (omega (arith, checks-le (plan_of p) sh.levels-pos, sh.sums-le))
            (omega (arith, row-end sum_room l, sh.rows-le)) ∙ sym (sums-count (plan_of p).field C (row_at (plan_of p) X r)))
            (fresh-sums p stripe marks r)
            (subst (λ cs. T (vanish (sums_of (plan_of p).field cs (row_at (plan_of p) X r)))) (sym (checks-first (plan_of p) sh.levels-pos))
            (word-sums p X word r l));
      }

-- ---- what is found for a row and for a level

-- where each check has a filling, all are tied or each is filled by one vector
ends_same : (D : Bool) (f : List ℕ → Fill) (g : List ℕ → List ℕ) (xs : List (List ℕ))
    → ((x : List ℕ) → In x xs → f x ≡ (when D then tied else one (g x)))
    → ends f (λ x. vector_in (f x)) D xs ≡ (when D then blocked else learned (map g xs))
unfolding when◌then◌else◌ vector_in
ends_same true f g xs h =
    ends-blocked f (λ x. vector_in (f x)) true xs (λ x m e. let z : ◌≡◌ {A = Fill} tied none = sym (h x m) ∙ e in let z : ◌≡◌ {A = ℕ} 0 1 = cc in omega arith) tt
ends_same false f g xs h = ones-learned f (λ x. vector_in (f x)) false tt (λ x v e. ap vector_in e) xs (map g xs) (ones xs h)
  where
    ones : (xs : List (List ℕ)) → ((x : List ℕ) → In x xs → f x ≡ one (g x)) → Ones f xs (map g xs)
    ones [] h = tt
    ones (x ∷ xs) h = (h x (Memᴰ.head refl), ones xs (λ y m. h y (Memᴰ.tail m)))

-- vectors over the rows that agree in each row that passes the test
pub alike-up : (d : ℕ → Bool) (f g : ℕ → ℕ) (k n : ℕ) → ((r : ℕ) → r < k + n → T (d r) → f r ≡ g r)
    → Alike (map (λ r. not (d r)) (up_from k n)) (map f (up_from k n)) (map g (up_from k n))
unfolding up_from first rest
alike-up d f g k zero h = tt
alike-up d f g k (suc n) h = go (d k) (h k (omega arith)) (alike-up d f g (suc k) n (λ r l. h r (omega arith)))
  where
    go : (c : Bool) → (T c → f k ≡ g k)
        → Alike (map (λ r. not (d r)) (up_from (suc k) n)) (map f (up_from (suc k) n)) (map g (up_from (suc k) n))
        → Alike (not c ∷ map (λ r. not (d r)) (up_from (suc k) n)) (f k ∷ map f (up_from (suc k) n)) (g k ∷ map g (up_from (suc k) n))
    go true e a = (e tt, a)
    go false e a = a

module _ (X : List ℕ) (b : Bench) (h : Held b.plan X b) where
  abbrev P : Plan
  P = plan_of b.plan

  abbrev L : Level
  L = level_of P (suc b.level)

  -- an unmarked row is the codeword's
  own-unmarked : (r : ℕ) → r < P.rows → get_or b.marks r 0 ≡ 0 → row_at P b.symbols r ≡ row_at P X r
  unfolding marks_at
  own-unmarked r l e =
      let f = h.sound.fit in
      alike-unmarked (marks_at P b.marks r) (row_at P b.symbols r) (row_at P X r) (rw e (clear-unmarked P.columns))
      (row-length P b.symbols r (row-place b f r l h.sound.room) ∙ sym (word_row b.plan X h.codeword r l))
      (le_of_eq (word_row b.plan X h.codeword r l ∙ sym (marks-length P b.marks r))) (h.alike r l)

  -- the row's filling is the codeword's, or its columns are dependent
  own-row-finds : (r : ℕ) → r < P.rows
      → row_fill b r ≡ (when row_tied b.plan b.level b.marks r then tied else one (row_at P X r))
  unfolding row_fill all_below
  own-row-finds r l =
      let C = checks_to P b.level in
      let ms = marks_at P b.marks r in
      ap (λ target. fill P.field C target ms (row_at P b.symbols r)) (h.has r l)
      ∙ fill-true P.field C ms (row_at P b.symbols r) (row_at P X r) (h.alike r l)
      (word_row b.plan X h.codeword r l ∙ sym (marks-length P b.marks r)) (word_below b.plan X h.codeword r l)

  -- and so for the rows' sums under each check of the next level
  own-level-finds : b.level < length P.levels
      → level_fill b ≡ (when level_tied b.plan b.level b.marks then blocked else learned (word_sums b.plan b.level X))
  unfolding level_fill check_fill across lossy all_below level_of
  own-level-finds low =
      ends_same (level_tied b.plan b.level b.marks) (check_fill b) (across P X) L.checks finds
    where
      finds : (c : List ℕ) → In c L.checks
          → check_fill b c ≡ (when level_tied b.plan b.level b.marks then tied else one (across P X c))
      finds c m =
          ap (λ target. fill P.field L.weights target (lossy P b.marks) (across P b.symbols c))
          (sym (word-totals b.plan X h.codeword b.level h.sound.fit.level-pos low m))
          ∙ fill-true P.field L.weights (lossy P b.marks) (across P b.symbols c) (across P X c)
          (alike-up (λ r. eqb (get_or b.marks r 0) 0) (λ r. dot P.field c (row_at P b.symbols r)) (λ r. dot P.field c (row_at P X r)) 0
          P.rows
          (λ r l t. ap (dot P.field c) (own-unmarked r (subst (λ n. r < n) (zero-add P.rows) l) (eqb→eq (get_or b.marks r 0) 0 t))))
          (length-map (up_from 0 P.rows) (λ r. dot P.field c (row_at P X r))
          ∙ sym (length-map (up_from 0 P.rows) (λ r. not (eqb (get_or b.marks r 0) 0))))
          (across-below P (known_of b.plan h.sound.fit.plan-known).field X c)

  own_put : (r : ℕ) → r < P.rows → Held b.plan X (put_row b r (row_at P X r))
  unfolding put_row marks_at
  own_put r l =
      let f = h.sound.fit in
      let s = h.sound.room in
      let long = word_row b.plan X h.codeword r l in
      let c = put_row b r (row_at P X r) in
      record {
        plan = refl;
        sound = record {
          fit = fit-put b f r l s (row_at P X r) long (word_below b.plan X h.codeword r l);
          room = room-put b s r (row_at P X r);
        };
        codeword = h.codeword;
        alike =
            of-rows (λ k. Alike (marks_at P c.marks k) (row_at P c.symbols k) (row_at P X k)) r
            (rw (put-row b f r l s (row_at P X r) long) (alike_refl (marks_at P c.marks r) (row_at P X r)))
            (λ k g ne. rw (put-mark-other b f r l s (row_at P X r) long k ne, put-row-other b f r l s (row_at P X r) long k ne) (h.alike k g));
        has = h.has;
      }

  own-raise : b.level < length P.levels → Held b.plan X (raise b (word_sums b.plan b.level X))
  unfolding raise
  own-raise low =
      let f = h.sound.fit in
      let s = h.sound.room in
      let cs = word_sums b.plan b.level X in
      let count = length-map L.checks (across P X) in
      record {
        plan = refl;
        sound = record {
          fit = fit-raise b f s low cs count (λ r l.
              rw (across-row P X L.checks r l) (sums-below P.field (known_of b.plan f.plan-known).field L.checks (row_at P X r)));
          room = room-raise b s cs;
        };
        codeword = h.codeword;
        alike = h.alike;
        has = λ r l.
            raise-sums b f s low cs count r l ∙ ap₂ ◌++◌ (h.has r l) (across-row P X L.checks r l)
            ∙ sym (sums-append P.field (checks_to P b.level) L.checks (row_at P X r))
            ∙ ap (λ cs. sums_of P.field cs (row_at P X r)) (sym (checks-suc P b.level low));
      }

-- the same for the plan that the bench's is
module _ (p : ℕ) (X : List ℕ) (b : Bench) (h : Held p X b) where
  abbrev Q : Plan
  Q = plan_of p

  pub held-known : T (known p)
  held-known = subst (λ q. T (known q)) h.plan h.sound.fit.plan-known

  pub held-level : b.level ≤ length Q.levels
  held-level = subst (λ q. b.level ≤ length (plan_of q).levels) h.plan h.sound.fit.level-le

  pub held-mark-lt : (r : ℕ) → r < Q.rows → get_or b.marks r 0 < 2 ^ Q.columns
  held-mark-lt r = own-plan (λ p. r < (plan_of p).rows → get_or b.marks r 0 < 2 ^ (plan_of p).columns) h (λ g. g.sound.fit.mark-lt r)

  pub held-words : Q.rows ≤ length b.marks
  held-words = subst (λ q. (plan_of q).rows ≤ length b.marks) h.plan h.sound.room.stripe.rows

  -- an unmarked row is the codeword's
  pub held-unmarked : (r : ℕ) → r < Q.rows → get_or b.marks r 0 ≡ 0 → row_at Q b.symbols r ≡ row_at Q X r
  held-unmarked r =
      own-plan (λ p. r < (plan_of p).rows → get_or b.marks r 0 ≡ 0 → row_at (plan_of p) b.symbols r ≡ row_at (plan_of p) X r) h
      (λ g. own-unmarked X b g r)

  pub row-finds : (r : ℕ) → r < Q.rows → row_fill b r ≡ (when row_tied p b.level b.marks r then tied else one (row_at Q X r))
  row-finds r =
      own-plan (λ p. r < (plan_of p).rows → row_fill b r ≡ (when row_tied p b.level b.marks r then tied else one (row_at (plan_of p) X r))) h
      (λ g. own-row-finds X b g r)

  pub level-finds : b.level < length Q.levels
      → level_fill b ≡ (when level_tied p b.level b.marks then blocked else learned (word_sums p b.level X))
  level-finds =
      own-plan (λ p. b.level < length (plan_of p).levels
      → level_fill b ≡ (when level_tied p b.level b.marks then blocked else learned (word_sums p b.level X))) h
      (λ g. own-level-finds X b g)

  pub held-put : (r : ℕ) → r < Q.rows → Held p X (put_row b r (row_at Q X r))
  held-put r = own-plan (λ p. r < (plan_of p).rows → Held p X (put_row b r (row_at (plan_of p) X r))) h (λ g. own_put X b g r)

  pub held-raise : b.level < length Q.levels → Held p X (raise b (word_sums p b.level X))
  held-raise = own-plan (λ p. b.level < length (plan_of p).levels → Held p X (raise b (word_sums p b.level X))) h (λ g. own-raise X b g)

  -- ---- what each step makes of the bench

  pub row-fills : (r : ℕ) → r < Q.rows → RowFree p b.level b.marks r → (row_step b r).bench ≡ put_row b r (row_at Q X r)
  unfolding row_step_by stepped
  row-fills r l i =
      ap (λ (s : Stepped Step). s.bench)
      (row_step_lem b h.sound.fit r (subst (λ q. r < (plan_of q).rows) (sym h.plan) l)
      ∙ ap (row_step_by b r) (row-finds r l ∙ if-false (row_tied p b.level b.marks r) tied (one (row_at Q X r)) i))

  pub level-learns : b.level < length Q.levels → LevelFree p b.level b.marks → (level_step b).bench ≡ raise b (word_sums p b.level X)
  unfolding level_step_by stepped
  level-learns low i =
      ap (λ (s : Stepped Step). s.bench)
      (level-step b h.sound.fit
      ∙ ap (λ q. when ltb b.level (length (plan_of q).levels) then level_step_by b (level_fill b) else stepped b (Ok Top)) h.plan
      ∙ if-true (ltb b.level (length Q.levels)) (level_step_by b (level_fill b)) (stepped b (Ok Top)) (lt→ltb b.level (length Q.levels) low)
      ∙ ap (level_step_by b)
      (level-finds low ∙ if-false (level_tied p b.level b.marks) blocked (learned (word_sums p b.level X)) i))

-- what a step may make of a held bench
pub data Made (p : ℕ) (X : List ℕ) (b : Bench) : Bench → Type 0 where
  stays : Made p X b b
  fills : (r : ℕ) → r < (plan_of p).rows → RowFree p b.level b.marks r → Made p X b (put_row b r (row_at (plan_of p) X r))
  learns : b.level < length (plan_of p).levels → LevelFree p b.level b.marks → Made p X b (raise b (word_sums p b.level X))

-- where a row is filled, or a level learned, its columns are free
pub one-row : (D : Bool) (x row : List ℕ) → (when D then tied else one x) ≡ one row → T (not D) × (x ≡ row)
unfolding when◌then◌else◌
one-row true x row e = let z : ◌≡◌ {A = ℕ} 0 1 = cc in absurd (omega arith)
one-row false x row e = (tt, cc)

pub one-level : (D : Bool) (xs cs : List (List ℕ)) → (when D then blocked else learned xs) ≡ learned cs → T (not D) × (xs ≡ cs)
unfolding when◌then◌else◌
one-level true xs cs e = let z : ◌≡◌ {A = ℕ} 0 1 = cc in absurd (omega arith)
one-level false xs cs e = (tt, cc)

module _ (p : ℕ) (X : List ℕ) where
  pub makes : (b : Bench) → Held p X b → (m : Move) → Made p X b (after b m)
  makes b h =
      by-step (Made p X b) b stays
      (λ f r l row e.
      let l' = subst (λ q. r < (plan_of q).rows) h.plan l in
      let o = one-row (row_tied p b.level b.marks r) (row_at (plan_of p) X r) row (sym (row-finds p X b h r l') ∙ e) in
      subst (λ x. Made p X b (put_row b r x)) o.1 (fills r l' o.0))
      (λ f low cs e.
      let low' = subst (λ q. b.level < length (plan_of q).levels) h.plan low in
      let o = one-level (level_tied p b.level b.marks) (word_sums p b.level X) cs (sym (level-finds p X b h low') ∙ e) in
      subst (λ xs. Made p X b (raise b xs)) o.1 (learns low' o.0))

  pub held-made : (b c : Bench) → Held p X b → Made p X b c → Held p X c
  held-made b c h stays = h
  held-made b c h (fills r l i) = held-put p X b h r l
  held-made b c h (learns low i) = held-raise p X b h low

  pub held_after : (b : Bench) → Held p X b → (m : Move) → Held p X (after b m)
  held_after b h m = held-made b (after b m) h (makes b h m)

  pub held-walk : (ms : List Move) (b : Bench) → Held p X b → Held p X (walk ms b)
  held-walk [] b h = h
  held-walk (m ∷ ms) b h = held-walk ms (after b m) (held_after b h m)

-- Mending in one call: where its rounds end, and what holds there. Assumes nothing.
use mathlib.Core.Path.{◌≡◌, refl, sym, ap, ap₂, ◌∙◌, subst}
use mathlib.Core.Logic.{◌⊎◌, ◌≢◌, inl, inr}
use mathlib.Core.Bool.{Bool, true, false}
use mathlib.Core.List.{List, [], ◌∷◌, ◌++◌, map}
use Prim.Native.Nat.{ℕ, zero, suc, ◌+◌, ◌*◌, ◌<◌, ◌≤◌, zero-le}
use native.Mathlib.Nat.{add-zero, add-suc, zero-add, zero-mul, suc-mul, mul-le-mul_right, eq-or-lt_of_le, le_of_suc-le-suc, not-suc-le-zero}
use native.Mathlib.Omega.{arith}
use borrow.Author.Tests.{ltb-true}
use lib.Arith.{le→nltb}
use lib.Dec.{T, eqb, ltb, ltb→lt, lt→ltb, nltb→le}
use lib.ListN.{length, get_or, set, replicate}
use lib.Seq.{set-get_or}
use Rattle.std.specs.Prelude.{Ok}
use Rattle.field.specs.Lists.{when◌then◌else◌, up_from}
use Rattle.field.specs.Field.{size}
use Rattle.fills.specs.Fill.{sums_of, Fill, none, tied, one, fill}
use Rattle.fills.proofs.Tests.{either}
use Rattle.fills.proofs.Choices.{alike-agrees}
use Rattle.fills.proofs.Filling.{Means, in-dependent, fill-means, fill_one}
use Rattle.fills.proofs.Weights.{marked}
use Rattle.plans.specs.Plan.{Plan, plan_of, checks_to, row_at, marks_at}
use Rattle.plans.specs.Refusal.{all_below, sums_at}
use Rattle.steps.specs.Steps.{Stepped, fresh, stepped, row_fill, put_row, row_step_by, row_step, Learned, blocked, failing, learned, level_fill, raise, level_step_by, level_step}
use Rattle.steps.specs.Rounds.{Standing, Turn, on, end, clash, more, after_row, after_level, take_turn, go_on, turns}
use Rattle.repair.specs.Mending.{mended}
use Rattle.plans.specs.declared.Bench.{Bench}
use Rattle.plans.specs.declared.Step.{Step}
use Rattle.plans.specs.declared.Step.TheVariants.{Whole, Filled, Top}
use Rattle.plans.proofs.Rows.{row-length, row-again, marks-length}
use Rattle.steps.proofs.Fit.{if-true, if-false}
use Rattle.steps.proofs.Sound.{Sound, row-outside, row_step_lem, level-step, row-place, filled_row, put-mark, put-mark-other, put-row, put-row-other}
use Rattle.demands.specs.Words.{Codeword, Agree, Fit, Move, on_row, on_level, walk, Quiet, rounds}
use Rattle.demands.proofs.Alike.{alike_refl, unmarked-all, unmarked-independent, clear-unmarked}
use Rattle.demands.proofs.Held.{row_tied, level_tied, word_sums, row-finds, level-finds}
use Rattle.demands.proofs.Reached.{Reached, reached-fresh, reached-level, reached-put, reached-raise}

-- ---- the moves of the rounds

-- the next n turns from turn k on: rows up to R - 1, then the level step, and again
moves : (R n k : ℕ) → List Move
moves R zero k = []
moves R (suc n) k = when ltb k R then on_row k ∷ moves R n (suc k) else on_level ∷ moves R n 0

module _ (R : ℕ) where
  moves-row : (n k : ℕ) → k < R → moves R (suc n) k ≡ on_row k ∷ moves R n (suc k)
  unfolding moves
  moves-row n k l = if-true (ltb k R) (on_row k ∷ moves R n (suc k)) (on_level ∷ moves R n 0) (lt→ltb k R l)

  moves-level : (n k : ℕ) → R ≤ k → moves R (suc n) k ≡ on_level ∷ moves R n 0
  unfolding moves
  moves-level n k l = if-false (ltb k R) (on_row k ∷ moves R n (suc k)) (on_level ∷ moves R n 0) (le→nltb k R l)

  -- the rest of a round
  moves-round : (j k n : ℕ) → k + j ≡ R → moves R (suc (n + j)) k ≡ map on_row (up_from k j) ++ (on_level ∷ moves R n 0)
  unfolding up_from
  moves-round zero k n e = moves-level (n + 0) k (omega arith) ∙ ap (λ i. on_level ∷ moves R i 0) (add-zero n)
  moves-round (suc j) k n e =
      moves-row (n + suc j) k (omega arith) ∙ ap (λ i. on_row k ∷ moves R i (suc k)) (add-suc n j)
      ∙ ap (λ l. on_row k ∷ l) (moves-round j (suc k) n (omega arith))

rounds-moves : (P : Plan) (n : ℕ) → rounds P n ≡ moves P.rows (n * suc P.rows) 0
unfolding rounds moves
rounds-moves P zero = ap (λ i. moves P.rows i 0) (sym (zero-mul (suc P.rows)))
rounds-moves P (suc n) =
    ap (λ l. map on_row (up_from 0 P.rows) ++ (on_level ∷ l)) (rounds-moves P n)
    ∙ sym (moves-round P.rows P.rows 0 (n * suc P.rows) (zero-add P.rows))
    ∙ ap (λ i. moves P.rows i 0) (sym (add-suc (n * suc P.rows) P.rows) ∙ sym (suc-mul n (suc P.rows)))

-- a quiet bench stays
pub quiet_walk : (ms : List Move) (b : Bench) → Quiet b → walk ms b ≡ b
quiet_walk [] b q = refl
quiet_walk (m ∷ ms) b q = ap (walk ms) (q m) ∙ quiet_walk ms b q

-- ---- a row whose turn was

-- the row's fill, by plan p
abbrev fill_by : ℕ → Bench → ℕ → Fill
fill_by p b r =
    let P = plan_of p in
    fill P.field (checks_to P b.level) (sums_at P b.level b.sums r) (marks_at P b.marks r) (row_at P b.symbols r)

-- row r is tied, or it has no marks and its symbols have the learned sums
abbrev pub Settled : ℕ → Bench → ℕ → Type 0
Settled p b r = (fill_by p b r ≡ tied)
    ⊎ ((get_or b.marks r 0 ≡ 0)
    × (sums_at (plan_of p) b.level b.sums r ≡ sums_of (plan_of p).field (checks_to (plan_of p) b.level) (row_at (plan_of p) b.symbols r)))

-- a tied row has dependent columns
pub settled-tied : (p : ℕ) (b : Bench) (r : ℕ) → fill_by p b r ≡ tied → T (row_tied p b.level b.marks r)
settled-tied p b r e =
    let P = plan_of p in
    let C = checks_to P b.level in
    let target = sums_at P b.level b.sums r in
    let ms = marks_at P b.marks r in
    let v = row_at P b.symbols r in
    in-dependent P.field C ms (subst (Means P.field C target ms v) e (fill-means P.field C target ms v)).0.1

module _ (b : Bench) (s : Sound b) (r : ℕ) (l : r < (plan_of b.plan).rows) where
  abbrev P : Plan
  P = plan_of b.plan

  abbrev C : List (List ℕ)
  C = checks_to P b.level

  abbrev ms : List Bool
  ms = marks_at P b.marks r

  abbrev v : List ℕ
  v = row_at P b.symbols r

  abbrev target : List ℕ
  target = sums_at P b.level b.sums r

  long : length v ≡ length ms
  long = row-length P b.symbols r (row-place b s.fit r l s.room) ∙ sym (marks-length P b.marks r)

  -- a row without marks that is put again
  put-again : get_or b.marks r 0 ≡ 0 → put_row b r v ≡ b
  unfolding put_row
  put-again z = λ i. record {
    plan = b.plan;
    level = b.level;
    symbols = row-again P r v b.symbols (long ∙ marks-length P b.marks r) (row-place b s.fit r l s.room) refl i;
    marks = (ap (set b.marks r) (sym z) ∙ set-get_or b.marks r 0) i;
    sums = b.sums;
  }

  -- a step on a settled row changes nothing
  settled-row : Settled b.plan b r → (row_step b r).bench ≡ b
  unfolding row_fill row_step_by stepped marks_at all_below
  settled-row (inl e) = ap (λ (c : Stepped Step). c.bench) (row_step_lem b s.fit r l ∙ ap (row_step_by b r) e)
  settled-row (inr (z, e)) =
      let clear : marked ms ≡ 0 = rw z (clear-unmarked P.columns) in
      ap (λ (c : Stepped Step). c.bench)
      (row_step_lem b s.fit r l
      ∙ ap (row_step_by b r) (fill_one P.field C target ms v (unmarked-independent P.field C ms clear)
      record {
        agrees =
            alike-agrees P.field ms v v (alike_refl ms v) long
            (unmarked-all (size P.field) ms v clear long (s.fit.row_fits r l));
        meets = sym e;
      }))
      ∙ put-again z

  -- a row that is filled is settled
  module _ (row : List ℕ) (e : row_fill b r ≡ one row) where
    wide : length row ≡ P.columns
    wide = (filled_row b s.fit r l row e).0

    put-settled : Settled b.plan (put_row b r row) r
    unfolding row_fill put_row
    put-settled =
        let m = subst (Means P.field C target ms v) e (fill-means P.field C target ms v) in
        inr (put-mark b s.fit r l s.room row wide, rw (put-row b s.fit r l s.room row wide) (sym m.1.meets))

    -- and what was settled before stays so
    put-settled-other : (k : ℕ) → k ≢ r → Settled b.plan b k → Settled b.plan (put_row b r row) k
    unfolding put_row marks_at
    put-settled-other k ne h = rw (put-mark-other b s.fit r l s.room row wide k ne, put-row-other b s.fit r l s.room row wide k ne) h

-- ---- turns

-- what holds with n turns left, or where the rounds end
abbrev pub Goes : (Standing → Type 0) → (Turn → Type 0) → Turn → Type 0
Goes I O (on m) = I m
Goes I O (end m) = O (end m)
Goes I O (clash place) = O (clash place)

turns-out : (I : ℕ → Standing → Type 0) (O : Turn → Type 0) → ((m : Standing) → I 0 m → ⊥)
    → ((n : ℕ) (m : Standing) → I (suc n) m → Goes (I n) O (take_turn m)) → (n : ℕ) (m : Standing) → I n m → O (turns n m)
unfolding turns go_on
turns-out I O spent step zero m i = absurd (spent m i)
turns-out I O spent step (suc n) m i = go (take_turn m) (step n m i) (turns-out I O spent step n)
  where
    go : (t : Turn) → Goes (I n) O t → ((m : Standing) → I n m → O (turns n m)) → O (go_on (turns n) t)
    go (on m) h ih = ih m h
    go (end m) h ih = h
    go (clash place) h ih = h

-- a filling that is none, or fails, is not held to a codeword
never-none : (D : Bool) (x : List ℕ) → (when D then tied else one x) ≡ none → ⊥
unfolding when◌then◌else◌
never-none true x e = let z : ◌≡◌ {A = ℕ} 0 1 = cc in omega arith
never-none false x e = let z : ◌≡◌ {A = ℕ} 0 1 = cc in omega arith

never-failing : (D : Bool) (xs : List (List ℕ)) → (when D then blocked else learned xs) ≡ failing → ⊥
unfolding when◌then◌else◌
never-failing true xs e = let z : ◌≡◌ {A = ℕ} 0 1 = cc in omega arith
never-failing false xs e = let z : ◌≡◌ {A = ℕ} 0 1 = cc in omega arith

module _ (p : ℕ) (stripe marks : List ℕ) (fit : Fit p stripe marks) where
  abbrev Q : Plan
  Q = plan_of p

  abbrev top : ℕ
  top = length Q.levels

  -- where as many rounds as the plan has levels lead
  abbrev last : Bench
  last = walk (rounds Q top) (fresh p stripe marks)

  -- with n turns left: what is reached, that the turns suffice, that they lead to `last`, and that the rows whose turn was are settled
  record Round (n : ℕ) (m : Standing) : Type 0 where
    reached : Reached p stripe marks m.bench
    turn-le : m.turn ≤ Q.rows
    left : n + (m.bench.level * suc Q.rows + m.turn) ≡ suc top * suc Q.rows
    leads : walk (moves Q.rows n m.turn) m.bench ≡ last
    settled : (r : ℕ) → r < m.turn → Settled p m.bench r

  -- where the rounds end at Blocked or Top
  pub record Ended (m : Standing) : Type 0 where
    pub reached : Reached p stripe marks m.bench
    pub settled : (r : ℕ) → r < Q.rows → Settled p m.bench r
    pub stopped : m.bench.level < top → level_fill m.bench ≡ blocked
    pub quiet : Quiet m.bench
    pub leads : last ≡ m.bench

  -- and what a Clash says
  abbrev pub Out : Turn → Type 0
  Out (on m) = ⊥
  Out (end m) = Ended m
  Out (clash place) = (X : List ℕ) → Codeword p X → Agree p marks X stripe → ⊥

  module _ (n : ℕ) (m : Standing) (i : Round (suc n) m) where
    abbrev b : Bench
    b = m.bench

    abbrev k : ℕ
    k = m.turn

    own-rows : {r : ℕ} → r < Q.rows → r < (plan_of b.plan).rows
    own-rows {r} = subst (λ q. r < (plan_of q).rows) (sym i.reached.plan)

    -- ---- a row's turn

    module _ (l : k < Q.rows) where
      next_row : (c : Bench) → (row_step b k).bench ≡ c → c.level ≡ b.level → Reached p stripe marks c → Settled b.plan c k
          → ((r : ℕ) → r < k → Settled b.plan b r → Settled b.plan c r)
          → (counts : List ℕ) → Round n record { bench = c; turn = suc k; restored = counts }
      next_row c q same-level reached here before counts = record {
        reached = reached;
        turn-le = l;
        left = ap (λ t. n + (t * suc Q.rows + suc k)) same-level ∙ omega (arith, i.left);
        leads = ap (walk (moves Q.rows n (suc k))) (sym q) ∙ ap (λ ms. walk ms b) (sym (moves-row Q.rows n k l)) ∙ i.leads;
        settled = λ r g.
            subst (λ q. Settled q c r) i.reached.plan
            (elim (eq-or-lt_of_le (le_of_suc-le-suc g)) [
              | inl e ↦ subst (Settled b.plan c) (sym e) here
              | inr j ↦ before r j (subst (λ q. Settled q b r) (sym i.reached.plan) (i.settled r j))
            ]);
      }

      row_goes : (a : Fill) → row_fill b k ≡ a → Goes (Round n) Out (after_row m (row_step_by b k a).answer (row_step_by b k a).bench)
      unfolding when◌then◌else◌ after_row row_fill row_step_by stepped put_row
      row_goes tied e =
          next_row b (ap (λ (c : Stepped Step). c.bench) (row_step_lem b i.reached.sound.fit k (own-rows l) ∙ ap (row_step_by b k) e)) refl i.reached
          (inl e) (λ r j h. h) m.restored
      row_goes none e = λ X word agree.
          never-none (row_tied p b.level b.marks k) (row_at Q X k) (sym (row-finds p X b (i.reached.held X word agree) k l) ∙ e)
      row_goes (one row) e = by (eqb (get_or b.marks k 0) 0) refl
        where
          c : Bench
          c = put_row b k row

          filled : (row_step b k).bench ≡ c
          filled = ap (λ (c : Stepped Step). c.bench) (row_step_lem b i.reached.sound.fit k (own-rows l) ∙ ap (row_step_by b k) e)

          next : (counts : List ℕ) → Round n record { bench = c; turn = suc k; restored = counts }
          next =
              next_row c filled refl (reached-put p stripe marks b i.reached k row l e)
              (put-settled b i.reached.sound k (own-rows l) row e)
              (λ r j. put-settled-other b i.reached.sound k (own-rows l) row e r (λ q. omega (arith, q)))

          by : (z : Bool) → eqb (get_or b.marks k 0) 0 ≡ z → Goes (Round n) Out (after_row m (Ok (when z then Whole else Filled)) c)
          by true q = next m.restored
          by false q = next (more b.level 1 m.restored)

      turn-row : Goes (Round n) Out (take_turn m)
      unfolding take_turn
      turn-row =
          subst (Goes (Round n) Out)
          (sym (if-true (ltb k (plan_of b.plan).rows) (after_row m (row_step b k).answer (row_step b k).bench)
          (after_level m (level_step b).answer (level_step b).bench) (lt→ltb k (plan_of b.plan).rows (own-rows l))
          ∙ ap (λ (s : Stepped Step). after_row m s.answer s.bench) (row_step_lem b i.reached.sound.fit k (own-rows l))))
          (row_goes (row_fill b k) refl)

    -- ---- the level step's turn

    module _ (full : k ≡ Q.rows) where
      all_settled : (r : ℕ) → r < Q.rows → Settled p b r
      all_settled r h = i.settled r (subst (λ n. r < n) (sym full) h)

      rows-quiet : (r : ℕ) → (row_step b r).bench ≡ b
      rows-quiet r =
          elim (either (ltb r (plan_of b.plan).rows)) [
            | inl t ↦
                let h = ltb→lt r (plan_of b.plan).rows t in
                settled-row b i.reached.sound r h
                (subst (λ q. Settled q b r) (sym i.reached.plan) (all_settled r (subst (λ q. r < (plan_of q).rows) i.reached.plan h)))
            | inr t ↦ row-outside b r (nltb→le r (plan_of b.plan).rows t)
          ]

      ends : (b.level < top → level_fill b ≡ blocked) → (level_step b).bench ≡ b → Ended m
      ends stop still = record {
        reached = i.reached;
        settled = all_settled;
        stopped = stop;
        quiet = quiet;
        leads = sym i.leads ∙ quiet_walk (moves Q.rows (suc n) k) b quiet;
      }
        where
          quiet : Quiet b
          quiet (on_row r) = rows-quiet r
          quiet on_level = still

      step_by : (low : Bool) → ltb b.level top ≡ low → (a : Learned) → level_fill b ≡ a
          → level_step b ≡ (when low then level_step_by b a else stepped b (Ok Top))
      step_by low t a e =
          level-step b i.reached.sound.fit
          ∙ ap (λ q. when ltb b.level (length (plan_of q).levels) then level_step_by b (level_fill b) else stepped b (Ok Top)) i.reached.plan
          ∙ ap₂ (λ c l. when c then level_step_by b l else stepped b (Ok Top)) t e

      level-goes : (low : Bool) → ltb b.level top ≡ low → (a : Learned) → level_fill b ≡ a
          → Goes (Round n) Out (after_level m (level_step b).answer (level_step b).bench)
      unfolding when◌then◌else◌ after_level level_step_by stepped raise
      level-goes low t a e =
          subst (λ (s : Stepped Step). Goes (Round n) Out (after_level m s.answer s.bench)) (sym (step_by low t a e)) (go low t a e)
        where
          go : (low : Bool) → ltb b.level top ≡ low → (a : Learned) → level_fill b ≡ a
              → (let s = when low then level_step_by b a else stepped b (Ok Top) in Goes (Round n) Out (after_level m s.answer s.bench))
          go false t a e =
              ends (λ h. absurd (subst T t (lt→ltb b.level top h))) (ap (λ (c : Stepped Step). c.bench) (step_by false t a e))
          go true t blocked e = ends (λ h. e) (ap (λ (c : Stepped Step). c.bench) (step_by true t blocked e))
          go true t failing e = λ X word agree.
              never-failing (level_tied p b.level b.marks) (word_sums p b.level X)
              (sym (level-finds p X b (i.reached.held X word agree) (ltb-true b.level top t)) ∙ e)
          go true t (learned cs) e = record {
            reached = reached-raise p stripe marks b i.reached cs (ltb-true b.level top t) e;
            turn-le = zero-le;
            left = omega (arith, i.left, suc-mul b.level (suc Q.rows));
            leads =
                ap (walk (moves Q.rows n 0)) (sym (ap (λ (c : Stepped Step). c.bench) (step_by true t (learned cs) e)))
                ∙ ap (λ ms. walk ms b) (sym (moves-level Q.rows n k (omega arith))) ∙ i.leads;
            settled = λ r h. absurd (not-suc-le-zero h);
          }

      turn_level : Goes (Round n) Out (take_turn m)
      unfolding take_turn
      turn_level =
          subst (Goes (Round n) Out)
          (sym (if-false (ltb k (plan_of b.plan).rows) (after_row m (row_step b k).answer (row_step b k).bench)
          (after_level m (level_step b).answer (level_step b).bench)
          (le→nltb k (plan_of b.plan).rows (subst (λ q. (plan_of q).rows ≤ k) (sym i.reached.plan) (omega arith)))))
          (level-goes (ltb b.level top) refl (level_fill b) refl)

    turn-goes : Goes (Round n) Out (take_turn m)
    turn-goes = elim (eq-or-lt_of_le i.turn-le) [ inl e ↦ turn_level e | inr l ↦ turn-row l ]

  -- the turns suffice
  spent : (m : Standing) → Round 0 m → ⊥
  spent m i =
      let low = mul-le-mul_right (suc Q.rows) (reached-level p stripe marks m.bench i.reached) in
      omega (arith, i.left, i.turn-le, low, suc-mul top (suc Q.rows))

  -- where mending in one call ends
  pub mended-out : Out (mended p stripe marks)
  unfolding mended fresh
  mended-out =
      turns-out Round Out spent turn-goes (top * suc Q.rows) record { bench = fresh p stripe marks; turn = 0; restored = replicate 3 0 }
      record {
        reached = reached-fresh p stripe marks fit;
        turn-le = zero-le;
        left = omega (arith, suc-mul top (suc Q.rows));
        leads = ap (λ ms. walk ms (fresh p stripe marks)) (sym (rounds-moves Q top));
        settled = λ r h. absurd (not-suc-le-zero h);
      }

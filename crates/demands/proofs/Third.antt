-- The third demand: walks from one bench that end quiet end with the same level and marks, and benches that came from one and have the same are equal.
-- Assumes nothing.
use mathlib.Core.Path.{◌≡◌, refl, sym, ap, ap₂, ◌∙◌, subst}
use mathlib.Core.Logic.{inl, inr}
use mathlib.Core.List.{List, [], ◌∷◌, ◌++◌}
use Prim.Native.Nat.{ℕ, zero, suc, ◌*◌, ◌<◌, ◌≤◌}
use native.Mathlib.Nat.{zero-lt-suc, le_of_suc-le-suc, not-suc-le-zero, le_antisymm}
use native.Mathlib.Omega.{arith}
use lib.ListN.{length, drop, get_or, take-append-drop}
use lib.Seq.{take-take}
use Rattle.fills.specs.Fill.{sums_of}
use Rattle.plans.specs.Plan.{Plan, plan_of, checks_to, row_at, marks_at}
use Rattle.plans.specs.Refusal.{sums_at}
use Rattle.plans.specs.Rooms.{sum_room}
use Rattle.steps.specs.Steps.{fresh}
use Rattle.plans.specs.declared.Bench.{Bench}
use Rattle.plans.proofs.Rows.{rows_ext}
use Rattle.steps.proofs.Levels.{checks-le}
use Rattle.plans.proofs.Plans.{shape}
use Rattle.steps.specs.Rounds.{Standing, Turn, on, end, clash}
use Rattle.repair.specs.Mending.{mended}
use Rattle.demands.specs.Words.{Move, walk, Quiet, rounds}
use Rattle.demands.specs.Room.{places_at, RoomKept}
use Rattle.demands.specs.Third.{Premise, OrderNeverMatters, MendingEndsThere, RoundsSuffice}
use Rattle.demands.proofs.Held.{Held, held-known, held-level, held-words, held-unmarked, held-fresh, held-walk, held-mark-lt}
use Rattle.demands.proofs.Alike.{inside-same}
use Rattle.demands.proofs.Order.{below-refl, fewer-marks}
use Rattle.demands.proofs.Room.{walks-keep-room}
use Rattle.demands.proofs.Rounds.{Ended, Out, mended-out}
use Rattle.demands.proofs.Kept.{kept-walk, Kept}

-- ---- equal benches

-- lists with the same first n numbers and the same rest
words-ext : (n : ℕ) (a b : List ℕ) → ((r : ℕ) → r < n → get_or a r 0 ≡ get_or b r 0) → n ≤ length a → n ≤ length b → drop n a ≡ drop n b → a ≡ b
words-ext zero a b h la lb e = e
words-ext (suc n) [] b h la lb e = absurd (not-suc-le-zero la)
words-ext (suc n) (x ∷ a) [] h la lb e = absurd (not-suc-le-zero lb)
words-ext (suc n) (x ∷ a) (y ∷ b) h la lb e =
    ap₂ ◌∷◌ (h 0 (zero-lt-suc n)) (words-ext n a b (λ r l. h (suc r) (omega arith)) (le_of_suc-le-suc la) (le_of_suc-le-suc lb) e)

module _ (X : List ℕ) (a b e : Bench) (h : Held a.plan X b) (k : Held a.plan X e)
    (rb : Kept a.plan a b) (re : Kept a.plan a e) (kb : RoomKept a b) (ke : RoomKept a e)
    (level : b.level ≡ e.level) (marks : (r : ℕ) → r < (plan_of a.plan).rows → get_or b.marks r 0 ≡ get_or e.marks r 0) where
  abbrev Q : Plan
  Q = plan_of a.plan

  same_row : (r : ℕ) → r < Q.rows → row_at Q b.symbols r ≡ row_at Q e.symbols r
  same_row r l =
      elim (rb.rows r l) [
        | inl z ↦ done z
        | inr f ↦ elim (re.rows r l) [ inl z ↦ done (marks r l ∙ z) | inr g ↦ f.1 ∙ sym g.1 ]
      ]
    where
      done : get_or b.marks r 0 ≡ 0 → row_at Q b.symbols r ≡ row_at Q e.symbols r
      done z = held-unmarked a.plan X b h r l z ∙ sym (held-unmarked a.plan X e k r l (sym (marks r l) ∙ z))

  -- the learned sums, and the places behind them
  parts : (c : Bench) → Held a.plan X c → (r : ℕ) → r < Q.rows
      → places_at c.sums r ≡ sums_of Q.field (checks_to Q c.level) (row_at Q X r) ++ drop (length (checks_to Q c.level)) (places_at c.sums r)
  unfolding sums_at
  parts c g r l =
      let n = length (checks_to Q c.level) in
      sym (take-append-drop n (places_at c.sums r))
      ∙ ap (λ l. l ++ drop n (places_at c.sums r)) (take-take n sum_room (drop (r * sum_room) c.sums)
      (omega (arith, checks-le Q (held-level a.plan X c g), (shape a.plan (held-known a.plan X c g)).sums-le)) ∙ g.has r l)

  same-places : (r : ℕ) → r < Q.rows → places_at b.sums r ≡ places_at e.sums r
  same-places r l =
      parts b h r l ∙ ap (λ part. sums_of Q.field (checks_to Q b.level) (row_at Q X r) ++ part) (kb.above r l)
      ∙ ap (λ t. sums_of Q.field (checks_to Q t) (row_at Q X r) ++ drop (length (checks_to Q t)) (places_at a.sums r)) level
      ∙ ap (λ part. sums_of Q.field (checks_to Q e.level) (row_at Q X r) ++ part) (sym (ke.above r l)) ∙ sym (parts e k r l)

  pub same-bench : b ≡ e
  unfolding row_at
  same-bench = λ i. record {
    plan = (h.plan ∙ sym k.plan) i;
    level = level i;
    symbols = rows_ext Q.columns Q.rows b.symbols e.symbols same_row (kb.symbols ∙ sym ke.symbols) i;
    marks = words-ext Q.rows b.marks e.marks marks (held-words a.plan X b h) (held-words a.plan X e k) (kb.marks ∙ sym ke.marks) i;
    sums = rows_ext sum_room Q.rows b.sums e.sums same-places (kb.sums ∙ sym ke.sums) i;
  }

-- ---- walks that end quiet

-- from one bench held to a codeword, walks that end quiet end with equal benches
one_end : (X : List ℕ) (a : Bench) → Held a.plan X a → (ms ns : List Move) → Quiet (walk ms a) → Quiet (walk ns a) → walk ms a ≡ walk ns a
unfolding marks_at
one_end X a h ms ns q q' =
    let p = a.plan in
    let below = fewer-marks p X a a h h (below-refl p a) ms ns q' in
    let above = fewer-marks p X a a h h (below-refl p a) ns ms q in
    let held = held-walk p X ms a h in
    let held' = held-walk p X ns a h in
    same-bench X a (walk ms a) (walk ns a) held held' (kept-walk ms p a refl) (kept-walk ns p a refl) (walks-keep-room ms a) (walks-keep-room ns a)
    (le_antisymm below.level above.level) (λ r l.
    inside-same (plan_of p).columns (get_or (walk ms a).marks r 0) (get_or (walk ns a).marks r 0) (held-mark-lt p X (walk ms a) held r l)
    (held-mark-lt p X (walk ns a) held' r l) (above.marks r l) (below.marks r l))

pub order-never-matters : OrderNeverMatters
unfolding fresh
order-never-matters p stripe marks premise =
    one_end premise.true-stripe (fresh p stripe marks)
    (held-fresh p premise.true-stripe stripe marks premise.fit premise.codeword premise.agrees)

-- mending under the premise meets no Clash
pub ends : (p : ℕ) (stripe marks : List ℕ) → (premise : Premise p stripe marks)
    → (m : Standing) × (mended p stripe marks ≡ end m) × Ended p stripe marks premise.fit m
ends p stripe marks premise = go (mended p stripe marks) refl (mended-out p stripe marks premise.fit)
  where
    go : (t : Turn) → mended p stripe marks ≡ t → Out p stripe marks premise.fit t
        → (m : Standing) × (mended p stripe marks ≡ end m) × Ended p stripe marks premise.fit m
    go (on m) e h = absurd h
    go (end m) e h = (m, e, h)
    go (clash place) e h = absurd (h premise.true-stripe premise.codeword premise.agrees)

pub mending-ends-there : MendingEndsThere
mending-ends-there p stripe marks premise =
    let e = ends p stripe marks premise in
    record {
      standing = e.0;
      ends = e.1;
      quiet = e.2.quiet;
      same = λ ms q.
          order-never-matters p stripe marks premise ms (rounds (plan_of p) (length (plan_of p).levels)) q
          (subst Quiet (sym e.2.leads) e.2.quiet)
          ∙ e.2.leads;
    }

pub rounds-suffice : RoundsSuffice
rounds-suffice p stripe marks premise = let e = ends p stripe marks premise in subst Quiet (sym e.2.leads) e.2.quiet

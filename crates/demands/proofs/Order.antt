-- The order of steps, over two benches held to one codeword: where the second has no marks but the first's, what a step changes in the first
-- it would change in the second. So no walk from the first passes a quiet end of the second. Assumes nothing.
use mathlib.Core.Path.{◌≡◌, sym, ap, ◌∙◌, subst}
use mathlib.Core.Logic.{◌⊎◌, inl, inr}
use mathlib.Core.Bool.{Bool, not}
use mathlib.Core.List.{List, [], ◌∷◌, map}
use Prim.Native.Nat.{ℕ, zero, suc, ◌+◌, ◌<◌, ◌≤◌}
use native.Mathlib.Nat.{le_refl, le_trans, eq-or-lt_of_le}
use native.Mathlib.Omega.{arith}
use lib.Dec.{T, eqb, eqb→eq}
use lib.ListN.{length, get_or, set}
use lib.Seq.{get_or-set_same, get_or-set_other}
use Rattle.field.specs.Lists.{up_from}
use Rattle.fills.specs.Marks.{bits_of}
use Rattle.fills.proofs.Tests.{either}
use Rattle.fills.proofs.Choices.{Inside}
use Rattle.fills.proofs.Filling.{Independent, independent-inside, independent-mono}
use Rattle.plans.specs.Plan.{Plan, plan_of, level_of, checks_to, marks_at}
use Rattle.steps.specs.Steps.{put_row, raise, lossy}
use Rattle.plans.specs.declared.Bench.{Bench}
use Rattle.plans.proofs.Rows.{of-rows}
use Rattle.steps.proofs.Levels.{checks-grow}
use Rattle.demands.specs.Words.{Move, on_row, on_level, after, walk, Quiet}
use Rattle.demands.proofs.Alike.{inside-refl, inside-trans, inside-clear, fewer}
use Rattle.demands.proofs.Held.{Held, RowFree, LevelFree, held-mark-lt, held-words, row-fills, level-learns, Made, stays, fills, learns, makes, held_after, held-walk}
use Rattle.demands.proofs.Room.{walks-keep-room}
use Rattle.demands.proofs.Kept.{kept-walk}

-- where rows with marks pass a test, they lie inside those that pass it
pub lossy-inside : (marks : List ℕ) (g : ℕ → Bool) (k n : ℕ) → ((r : ℕ) → r < k + n → (get_or marks r 0 ≡ 0) ⊎ T (g r))
    → Inside (map (λ r. not (eqb (get_or marks r 0) 0)) (up_from k n)) (map g (up_from k n))
unfolding up_from
lossy-inside marks g k zero h = tt
lossy-inside marks g k (suc n) h = (
  λ t. elim (h k (omega arith)) [ inl e ↦ absurd (subst (λ w. T (not (eqb w 0))) e t) | inr s ↦ s ],
  lossy-inside marks g (suc k) n (λ r l. h r (omega arith)),
)

-- ---- what may be filled and learned under fewer marks, at a higher level

module _ (p : ℕ) where
  abbrev P : Plan
  P = plan_of p

  -- row r's marks among M lie inside those among N
  abbrev pub RowInside : (M N : List ℕ) → ℕ → Type 0
  RowInside M N r = Inside (marks_at P M r) (marks_at P N r)

  pub row-free-more : (t u : ℕ) (M N : List ℕ) (r : ℕ) → t ≤ u → RowInside M N r → RowFree p t N r → RowFree p u M r
  row-free-more t u M N r h i f =
      let g = checks-grow P t u h in
      subst (λ cs. Independent P.field cs (marks_at P M r)) (sym g.1)
      (independent-mono P.field (checks_to P t) g.0 (marks_at P M r) (marks_at P N r) i f)

  level-free-more : (t : ℕ) (M N : List ℕ) → ((r : ℕ) → r < P.rows → get_or N r 0 ≡ 0 → get_or M r 0 ≡ 0) → LevelFree p t N → LevelFree p t M
  unfolding lossy
  level-free-more t M N h =
      independent-inside P.field (level_of P (suc t)).weights (lossy P M) (lossy P N)
      (lossy-inside M (λ r. not (eqb (get_or N r 0) 0)) 0 P.rows (λ r l.
      elim (either (eqb (get_or N r 0) 0)) [ inl e ↦ inl (h r (omega arith) (eqb→eq (get_or N r 0) 0 e)) | inr t ↦ inr t ]))

-- ---- quiet benches

module _ (p : ℕ) (X : List ℕ) (e : Bench) (h : Held p X e) (quiet : Quiet e) where
  -- a row that may be filled has no marks
  quiet_row : (r : ℕ) → r < (plan_of p).rows → RowFree p e.level e.marks r → get_or e.marks r 0 ≡ 0
  unfolding put_row
  quiet_row r l i =
      ap (λ (b : Bench). get_or b.marks r 0) (sym (quiet (on_row r)) ∙ row-fills p X e h r l i)
      ∙ get_or-set_same e.marks r 0 0 (omega (arith, held-words p X e h))

  -- no level may be learned
  quiet-level : e.level < length (plan_of p).levels → LevelFree p e.level e.marks → ⊥
  unfolding raise
  quiet-level low i = omega (arith, ap (λ (b : Bench). b.level) (sym (quiet on_level) ∙ level-learns p X e h low i))

-- ---- the order

-- e is as high as b, and has no marks but b's
pub record Below (p : ℕ) (b e : Bench) : Type 0 where
  pub level : b.level ≤ e.level
  pub marks : (r : ℕ) → r < (plan_of p).rows → RowInside p e.marks b.marks r

pub below-refl : (p : ℕ) (b : Bench) → Below p b b
below-refl p b = record { level = le_refl b.level; marks = λ r l. inside-refl (marks_at (plan_of p) b.marks r) }

pub below-trans : (p : ℕ) (a b c : Bench) → Below p a b → Below p b c → Below p a c
below-trans p a b c f g = record {
  level = le_trans f.level g.level;
  marks = λ r l.
      inside-trans (marks_at (plan_of p) c.marks r) (marks_at (plan_of p) b.marks r) (marks_at (plan_of p) a.marks r) (g.marks r l)
      (f.marks r l);
}

module _ (p : ℕ) (X : List ℕ) where
  -- steps only take marks away, and only rise
  pub below-walk : (ms : List Move) (b : Bench) → Held p X b → Below p b (walk ms b)
  unfolding marks_at
  below-walk ms b h = record {
    level = (walks-keep-room ms b).level;
    marks = λ r l. fewer (plan_of p).columns (get_or (walk ms b).marks r 0) (get_or b.marks r 0) (elim ((kept-walk ms p b h.plan).rows r l) [ inl z ↦ inl z | inr k ↦ inr k.0 ]);
  }

  -- what is unmarked below is unmarked above
  pub below-unmarked : (b e : Bench) → Held p X e → Below p b e → (r : ℕ) → r < (plan_of p).rows → get_or b.marks r 0 ≡ 0 → get_or e.marks r 0 ≡ 0
  unfolding marks_at
  below-unmarked b e k below r l z =
      inside-clear (plan_of p).columns (get_or e.marks r 0) (held-mark-lt p X e k r l)
      (subst (λ w. Inside (bits_of (plan_of p).columns (get_or e.marks r 0)) (bits_of (plan_of p).columns w)) z (below.marks r l))

  module _ (e : Bench) (k : Held p X e) (quiet : Quiet e) where
    -- no step passes a quiet bench
    step-below : (b c : Bench) → Held p X b → Below p b e → Made p X b c → Below p c e
    unfolding put_row raise marks_at
    step-below b c h below stays = below
    step-below b c h below (fills r l i) = record {
      level = below.level;
      marks =
          of-rows (RowInside p e.marks (set b.marks r 0)) r
          (rw (
            get_or-set_same b.marks r 0 0 (omega (arith, held-words p X b h)),
            quiet_row p X e k quiet r l (row-free-more p b.level e.level e.marks b.marks r below.level (below.marks r l) i),
          )
          (inside-refl (bits_of (plan_of p).columns 0)))
          (λ j g ne. rw (get_or-set_other b.marks r j 0 0 ne) (below.marks j g));
    }
    step-below b c h below (learns low i) = record {
      level =
          elim (eq-or-lt_of_le below.level) [
            | inl q ↦ absurd (quiet-level p X e k quiet (subst (λ t. t < length (plan_of p).levels) q low)
                (subst (λ t. LevelFree p t e.marks) q (level-free-more p b.level e.marks b.marks (below-unmarked b e k below) i)))
            | inr l ↦ l
          ];
      marks = below.marks;
    }

    never-past : (ms : List Move) (b : Bench) → Held p X b → Below p b e → Below p (walk ms b) e
    never-past [] b h below = below
    never-past (m ∷ ms) b h below =
        never-past ms (after b m) (held_after p X b h m) (step-below b (after b m) h below (makes p X b h m))

  -- fewer marks never hurt: from a bench b and one that has no marks but b's, no walk from b passes a quiet end of the other
  pub fewer-marks : (b a : Bench) → Held p X b → Held p X a → Below p b a → (ns ms : List Move) → Quiet (walk ms a)
      → Below p (walk ns b) (walk ms a)
  fewer-marks b a h k below ns ms quiet =
      never-past (walk ms a) (held-walk p X ms a k) quiet ns b h (below-trans p b a (walk ms a) below (below-walk ms a k))

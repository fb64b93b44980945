-- Steps on a bench, whatever it holds: a row is filled whole or left, so the byte under a mark that is left is as it was. Assumes nothing.
use mathlib.Core.Path.{◌≡◌, refl, sym, ap, ◌∙◌, subst}
use mathlib.Core.Logic.{inl, inr}
use mathlib.Core.Bool.{true}
use mathlib.Core.List.{List, [], ◌∷◌}
use Prim.Native.Nat.{ℕ, zero, suc, ◌*◌, ◌-◌, ◌<◌, ◌≤◌}
use native.Mathlib.Nat.{add-sub_of_le}
use native.Mathlib.Omega.{arith}
use lib.Dec.{T, ltb, ltb→lt, nltb→le}
use lib.ListN.{length, get_or, set, drop}
use lib.Seq.{get_or-set_other, get_or-drop}
use Rattle.fills.specs.Marks.{bits_of}
use Rattle.fills.proofs.Tests.{either}
use Rattle.plans.specs.Plan.{Plan, plan_of, marks_at, marks_of}
use Rattle.steps.specs.Steps.{put_row, raise}
use Rattle.plans.specs.declared.Bench.{Bench}
use Rattle.plans.proofs.Rows.{of-rows, row_other, marks-length}
use Rattle.steps.proofs.Sound.{filled_row}
use Rattle.demands.specs.Words.{Move, after, walk}
use Rattle.demands.specs.Leaving.{RowLeft}
use Rattle.demands.specs.Silence.{StepsKeep}
use Rattle.demands.proofs.Alike.{row-at, mark-at, of_places, clear-unmarked, unmarked-at}
use Rattle.demands.proofs.Room.{by-step, walks-keep-room}

-- ---- steps

-- row r of bench c has no marks, or its marks and symbols are b's
abbrev RowKept : Plan → (b c : Bench) → ℕ → Type 0
RowKept P b c r = RowLeft P b.symbols b.marks c.symbols c.marks r

pub record Kept (p : ℕ) (b c : Bench) : Type 0 where
  pub plan : c.plan ≡ p
  pub rows : (r : ℕ) → r < (plan_of p).rows → RowKept (plan_of p) b c r

kept_refl : (p : ℕ) (b : Bench) → b.plan ≡ p → Kept p b b
kept_refl p b e = record { plan = e; rows = λ r l. inr (refl, refl) }

kept_trans : (p : ℕ) (a b c : Bench) → Kept p a b → Kept p b c → Kept p a c
kept_trans p a b c f g = record { plan = g.plan; rows = λ r l. go r (f.rows r l) (g.rows r l) }
  where
    go : (r : ℕ) → RowKept (plan_of p) a b r → RowKept (plan_of p) b c r → RowKept (plan_of p) a c r
    go r k (inl z) = inl z
    go r (inl z) (inr e) = inl (e.0 ∙ z)
    go r (inr d) (inr e) = inr (e.0 ∙ d.0, e.1 ∙ d.1)

set-clear : (l : List ℕ) (r : ℕ) → get_or (set l r 0) r 0 ≡ 0
set-clear [] r = refl
set-clear (w ∷ l) zero = refl
set-clear (w ∷ l) (suc r) = set-clear l r

kept_put : (b : Bench) (r : ℕ) (row : List ℕ) → length row ≡ (plan_of b.plan).columns → Kept b.plan b (put_row b r row)
unfolding put_row
kept_put b r row wide = record {
  plan = refl;
  rows =
      of-rows (RowKept (plan_of b.plan) b (put_row b r row)) r (inl (set-clear b.marks r))
      (λ k l ne. inr (get_or-set_other b.marks r k 0 0 ne, row_other (plan_of b.plan) r row b.symbols wide k ne));
}

kept-after : (b : Bench) (m : Move) → Kept b.plan b (after b m)
unfolding raise
kept-after b =
    by-step (Kept b.plan b) b (kept_refl b.plan b refl) (λ f r l row e. kept_put b r row (filled_row b f r l row e).0)
    (λ f low cs e. record { plan = refl; rows = λ r l. inr (refl, refl) })

pub kept-walk : (ms : List Move) (p : ℕ) (b : Bench) → b.plan ≡ p → Kept p b (walk ms b)
kept-walk [] p b e = kept_refl p b e
kept-walk (m ∷ ms) p b e =
    let k = subst (λ q. Kept q b (after b m)) e (kept-after b m) in
    kept_trans p b (after b m) (walk ms (after b m)) k (kept-walk ms p (after b m) k.plan)

-- ---- places

-- rows that have no mark left, or are as they were, have their byte at each place of the stripe that is still marked
pub left_at : (P : Plan) (s m s' m' : List ℕ) → ((r : ℕ) → r < P.rows → RowLeft P s m s' m' r) → (i : ℕ) → i < P.rows * P.columns
    → get_or (marks_of P m') i true ≡ true → get_or s' i 0 ≡ get_or s i 0
unfolding marks_at
left_at P s m s' m' rows =
    of_places P (λ i. get_or (marks_of P m') i true ≡ true → get_or s' i 0 ≡ get_or s i 0) (λ r x lr lx e.
    elim (rows r lr) [
      | inl z ↦
          absurd (subst T
          (sym e ∙ mark-at P m' r x lr lx ∙ ap (λ w. get_or (bits_of P.columns w) x true) z
          ∙ unmarked-at (bits_of P.columns 0) (clear-unmarked P.columns) x (omega (arith, marks-length P [] 0))) tt)
      | inr j ↦ sym (row-at P s' r x lx) ∙ ap (λ row. get_or row x 0) j.1 ∙ row-at P s r x lx
    ])

-- and one beyond it
beyond : (n : ℕ) (x y : List ℕ) → drop n x ≡ drop n y → (i : ℕ) → n ≤ i → get_or x i 0 ≡ get_or y i 0
beyond n x y e i l =
    subst (λ k. get_or x k 0 ≡ get_or y k 0) (add-sub_of_le l) (sym (get_or-drop n x (i - n) 0) ∙ ap (λ z. get_or z (i - n) 0) e ∙ get_or-drop n y (i - n) 0)

pub steps-keep : StepsKeep
steps-keep ms b i e =
    let size = (plan_of b.plan).rows * (plan_of b.plan).columns in
    elim (either (ltb i size)) [
      | inl t ↦ left_at (plan_of b.plan) b.symbols b.marks (walk ms b).symbols (walk ms b).marks (kept-walk ms b.plan b refl).rows i (ltb→lt i size t) e
      | inr t ↦ beyond size (walk ms b).symbols b.symbols (walks-keep-room ms b).symbols i (nltb→le i size t)
    ]

-- What mending leaves can be printed: its numbers are below 100. Assumes nothing.
use mathlib.Core.Path.{◌≡◌, refl, ◌∙◌, subst}
use mathlib.Core.Bool.{Bool, true, false, not}
use mathlib.Core.List.{List, [], ◌∷◌, ◌++◌, map}
use Rattle.std.specs.Prelude.{Result, Ok, Err}
use Prim.Native.Nat.{ℕ, zero, suc, suc-le-suc, pred, ◌+◌, ◌*◌, ◌<◌, ◌≤◌}
use native.Mathlib.Nat.{mul-le-mul}
use native.Mathlib.Omega.{arith}
use borrow.Author.Tests.{ltb-true, eqb-true, ne_eqb}
use lib.Dec.{T, eqb, leb, ltb, leb→le, lt→ltb}
use lib.ListN.{length, take, get_or, set, replicate, length-set, length-map}
use lib.Seq.{length-take-le}
use Rattle.field.specs.Lists.{when◌then◌else◌, up_from}
use Rattle.field.proofs.Lists.{length_up}
use Rattle.field.proofs.Test.{both}
use Rattle.field.proofs.Words.{◌&◌}
use Rattle.fills.specs.Lists.{all, only}
use Rattle.plans.specs.Plan.{Plan, plan_of, known}
use Rattle.plans.specs.Rooms.{row_room}
use Rattle.plans.specs.Answers.{refusal_number, answer_number, place_values, end_values, answer_values, report_values}
use Rattle.plans.specs.Refusal.{unasked, all_below, lent_refusal}
use Rattle.steps.specs.Steps.{fresh, row_step, lossy, level_step}
use Rattle.steps.specs.Rounds.{Standing, Turn, on, end, clash, more as more_rows, next_row, after_row, after_level, take_turn, go_on, turns}
use Rattle.repair.specs.Mending.{mended, turn_report, turn_stripe, turn_marks, mend_report, mend_stripe, mend_marks}
use Rattle.rounds.specs.Reports.{rows_left, end_report, bare}
use Rattle.printing.specs.Parts.{Printable, PrintableAnswer}
use Rattle.files.specs.File.{plan_in, symbols_in, marks_in, file_refusal}
use Rattle.texts.specs.Text.{item, line_end, grid, told_text, mend_text, printed}
use Rattle.texts.specs.Parts.{numbers}
use Rattle.plans.specs.declared.Step.{Step}
use Rattle.plans.specs.declared.Step.TheVariants.{Whole, Filled, Tied, Raised, Blocked, Top, Clash}
use Rattle.plans.specs.declared.Answer.TheVariants.{Restored, Stuck}
use Rattle.plans.specs.declared.Refusal.{Refusal}
use Rattle.plans.specs.declared.Refusal.TheVariants.{UnknownPlan, WrongLength, MarkBeyondColumns, NoSymbol, NoSuchRow, NoSuchLevel, NoCodeword, WrongFileLength, WrongHeader, SymbolUnderMark}
use Rattle.plans.specs.declared.Report.{Report}
use Rattle.plans.proofs.Flat.{all_get_d}
use Rattle.plans.proofs.Plans.{of-known, Shape, shape}
use Rattle.steps.proofs.Fit.{LentFit, lent-fit, all_take}
use Rattle.steps.proofs.Sound.{Sound, sound-fresh, row_keeps, level-plan, sound-row, sound-level}

-- the number of a plan is small
pub plan-small : (p : ℕ) → T (known p) → p < numbers
unfolding up_from
plan-small = of-known (λ p. p < numbers) (omega arith & omega arith & omega arith & omega arith & omega arith & tt)

only-length : (f : Bool → Bool) (l : List Bool) → length (only f l) ≤ length l
unfolding when◌then◌else◌ only
only-length f [] = omega arith
only-length f (x ∷ l) = go (f x) (only-length f l)
  where
    go : (b : Bool) → length (only f l) ≤ length l → length (when b then x ∷ only f l else only f l) ≤ suc (length l)
    go true h = omega arith
    go false h = omega arith

-- ---- after n turns

-- the bench is sound, and no more than n rows were counted at a level
record After (p n : ℕ) (m : Standing) : Type 0 where
  sound : Sound m.bench
  plan : m.bench.plan ≡ p
  three : length m.restored ≡ 3
  few : (i : ℕ) → get_or m.restored i 0 ≤ n

-- and the numbers of a Clash's place are small
abbrev Reached : (p n : ℕ) → Turn → Type 0
Reached p n (on m) = After p n m
Reached p n (end m) = After p n m
Reached p n (clash place) = T (all_below numbers (place_values place))

set-le : (n : ℕ) (l : List ℕ) (j v : ℕ) → ((i : ℕ) → get_or l i 0 ≤ n) → v ≤ n → (i : ℕ) → get_or (set l j v) i 0 ≤ n
set-le n [] j v h e i = h i
set-le n (x ∷ l) zero v h e zero = e
set-le n (x ∷ l) zero v h e (suc i) = h (suc i)
set-le n (x ∷ l) (suc j) v h e zero = h zero
set-le n (x ∷ l) (suc j) v h e (suc i) = set-le n l j v (λ i. h (suc i)) e i

module _ (t : ℕ) (l : List ℕ) where
  more-length : length (more_rows t 1 l) ≡ length l
  unfolding more_rows
  more-length = length-set l (pred t) (get_or l (pred t) 0 + 1)

  more-le : (n : ℕ) → ((i : ℕ) → get_or l i 0 ≤ n) → (i : ℕ) → get_or (more_rows t 1 l) i 0 ≤ suc n
  unfolding more_rows
  more-le n h = let v = h (pred t) in set-le (suc n) l (pred t) (get_or l (pred t) 0 + 1) (λ i. let w = h i in omega arith) (omega arith)

below_more : (x : ℕ) (l : List ℕ) → x < numbers → T (all_below numbers l) → T (all_below numbers (x ∷ l))
unfolding all all_below
below_more x l h t = both (ltb x numbers) (all_below numbers l) (lt→ltb x numbers h) t

below_none : T (all_below numbers [])
unfolding all all_below
below_none = tt

below_each : (l : List ℕ) → ((i : ℕ) → get_or l i 0 < numbers) → T (all_below numbers l)
below_each [] h = below_none
below_each (x ∷ l) h = below_more x l (h 0) (below_each l (λ i. h (suc i)))

more : (p n k : ℕ) (m : Standing) → n ≤ k → After p n m → After p k m
more p n k m h a = record { sound = a.sound; plan = a.plan; three = a.three; few = λ i. let w = a.few i in omega arith }

module _ (p n : ℕ) (m : Standing) (a : After p n m) where
  later : After p (suc n) m
  later = more p n (suc n) m (omega arith) a

  abbrev sizes : Shape (plan_of m.bench.plan)
  sizes = shape m.bench.plan a.sound.fit.plan-known

  level-low : m.bench.level < 50
  level-low = omega (arith, a.sound.fit.level-le, sizes.levels-le)

  next-reached : (restored : List ℕ) → length restored ≡ 3 → ((i : ℕ) → get_or restored i 0 ≤ suc n)
      → Reached p (suc n) (next_row m (row_step m.bench m.turn).bench restored)
  next-reached restored three few = record {
    sound = sound-row m.bench a.sound m.turn;
    plan = (row_keeps m.bench m.turn).0 ∙ a.plan;
    three = three;
    few = few;
  }

  row-reached : m.turn < (plan_of m.bench.plan).rows → (s : Result Step ℕ) → Reached p (suc n) (after_row m s (row_step m.bench m.turn).bench)
  unfolding place_values after_row
  row-reached h (Ok Clash) =
      below_more m.bench.level (m.turn ∷ []) (omega (arith, level-low))
      (below_more m.turn [] (omega (arith, sizes.rows-le)) below_none)
  row-reached h (Ok Filled) =
      let t = m.bench.level in
      next-reached (more_rows t 1 m.restored) (more-length t m.restored ∙ a.three) (more-le t m.restored n a.few)
  row-reached h (Ok Whole) = next-reached m.restored a.three later.few
  row-reached h (Ok Tied) = next-reached m.restored a.three later.few
  row-reached h (Ok Raised) = next-reached m.restored a.three later.few
  row-reached h (Ok Blocked) = next-reached m.restored a.three later.few
  row-reached h (Ok Top) = next-reached m.restored a.three later.few
  row-reached h (Err k) = next-reached m.restored a.three later.few

  level-reached : (s : Result Step ℕ) → Reached p (suc n) (after_level m s (level_step m.bench).bench)
  unfolding place_values after_level
  level-reached (Ok Raised) = record {
    sound = sound-level m.bench a.sound;
    plan = level-plan m.bench ∙ a.plan;
    three = a.three;
    few = later.few;
  }
  level-reached (Ok Clash) = below_more (suc m.bench.level) [] (omega (arith, level-low)) below_none
  level-reached (Ok Blocked) = later
  level-reached (Ok Top) = later
  level-reached (Ok Whole) = later
  level-reached (Ok Filled) = later
  level-reached (Ok Tied) = later
  level-reached (Err k) = later

  turn-reached : Reached p (suc n) (take_turn m)
  unfolding when◌then◌else◌ take_turn
  turn-reached = go (ltb m.turn (plan_of m.bench.plan).rows) refl
    where
      go : (b : Bool) → ltb m.turn (plan_of m.bench.plan).rows ≡ b
          → let r = row_step m.bench m.turn in
          let s = level_step m.bench in
          Reached p (suc n) (when b then after_row m r.answer r.bench else after_level m s.answer s.bench)
      go true e = row-reached (ltb-true m.turn (plan_of m.bench.plan).rows e) (row_step m.bench m.turn).answer
      go false e = level-reached (level_step m.bench).answer

-- n turns more
turns-reached : (p k n N : ℕ) (m : Standing) → After p k m → k + n ≤ N → Reached p N (turns n m)
unfolding go_on turns
turns-reached p k zero N m a h = more p k N m (omega arith) a
turns-reached p k (suc n) N m a h = go (take_turn m) (turn-reached p k m a) (λ l b. turns-reached p (suc k) n N l b (omega arith))
  where
    go : (t : Turn) → Reached p (suc k) t → ((l : Standing) → After p (suc k) l → Reached p N (turns n l)) → Reached p N (go_on (turns n) t)
    go (on l) b rest = rest l b
    go (end l) b rest = more p (suc k) N l (omega arith) b
    go (clash place) b rest = b

-- ---- mending in one call

-- a turn for each row and one for the level, at each level
abbrev most_turns : ℕ
most_turns = 3 * suc row_room

module _ (p : ℕ) (stripe marks : List ℕ) (e : lent_refusal p stripe marks ≡ 0) where
  reached : Reached p most_turns (mended p stripe marks)
  unfolding all fresh mended
  reached =
      let s = sound-fresh p stripe marks e in
      let room = shape p s.fit.plan-known in
      let none : (i : ℕ) → get_or (replicate 3 0) i 0 ≤ 0 = λ i. leb→le _ 0 (all_get_d (λ x. leb x 0) 0 tt (replicate 3 0) tt i) in
      turns-reached p 0 (length (plan_of p).levels * suc (plan_of p).rows) most_turns _
      (record { sound = s; plan = refl; three = refl; few = none })
      (omega (arith, mul-le-mul room.levels-le (suc-le-suc room.rows-le)))

  abbrev P : Plan
  P = plan_of p

  abbrev f : LentFit p stripe marks
  f = lent-fit p stripe marks e

  stripe-room : (m : Standing) → After p most_turns m → length stripe ≤ length m.bench.symbols
  stripe-room m a = rw f.long (subst (λ q. (plan_of q).rows * (plan_of q).columns ≤ length m.bench.symbols) a.plan a.sound.room.stripe.size)

  marks-room : (m : Standing) → After p most_turns m → length marks ≤ length m.bench.marks
  marks-room m a = rw f.words (subst (λ q. (plan_of q).rows ≤ length m.bench.marks) a.plan a.sound.room.stripe.rows)

  -- ---- numbers

  left-low : (m : Standing) → After p most_turns m → rows_left m.bench < numbers
  unfolding lossy rows_left
  left-low m a =
      let R = (plan_of m.bench.plan).rows in
      let few : R ≤ row_room = (shape m.bench.plan a.sound.fit.plan-known).rows-le in
      let marked : ℕ → Bool = λ r. not (eqb (get_or m.bench.marks r 0) 0) in
      omega (arith, only-length (λ m. m) (map marked (up_from 0 R)), length-map (up_from 0 R) marked, length_up 0 R)

  end-values : (m : Standing) → After p most_turns m → T (all_below numbers (end_values P (end_report m)))
  unfolding all_below end_values end_report
  end-values m a =
      let counts = take (length P.levels) m.restored in
      below_more m.bench.level (rows_left m.bench ∷ counts) (omega (arith, level-low p most_turns m a))
      (below_more (rows_left m.bench) counts (left-low m a)
      (all_take (λ x. ltb x numbers) (length P.levels) m.restored (below_each m.restored (λ i. let w = a.few i in omega arith))))

  end_below : (m : Standing) → After p most_turns m → (b : Bool)
      → (answer_number (when b then Restored else Stuck) < numbers) × T (all_below numbers (answer_values (when b then Restored else Stuck) (end_values P (end_report m))))
  unfolding when◌then◌else◌ answer_number answer_values
  end_below m a true = (omega arith, end-values m a)
  end_below m a false = (omega arith, end-values m a)

  -- what stands after the last turn can be printed
  end-printable : (m : Standing) → After p most_turns m → Printable p (end_report m) (take (length stripe) m.bench.symbols) (take (length marks) m.bench.marks)
  unfolding report_values end_report
  end-printable m a =
      let below = end_below m a (eqb (rows_left m.bench) 0) in
      record {
        sized = record {
          plan-known = f.plan-known;
          words = length-take-le (length marks) m.bench.marks (marks-room m a) ∙ f.words;
          long = length-take-le (length stripe) m.bench.symbols (stripe-room m a) ∙ f.long;
        };
        answer = below.0;
        values = below.1;
      }

  turn-printable : (t : Turn) → Reached p most_turns t → Printable p (turn_report t) (turn_stripe t stripe) (turn_marks t marks)
  unfolding report_values answer_number answer_values bare turn_report turn_stripe turn_marks
  turn-printable (on m) a = end-printable m a
  turn-printable (end m) a = end-printable m a
  turn-printable (clash place) a = record {
    sized = record { plan-known = f.plan-known; words = f.words; long = f.long };
    answer = omega arith;
    values = a;
  }

-- what mending answers and leaves
pub mend-printable : (p : ℕ) (stripe marks : List ℕ) → lent_refusal p stripe marks ≡ 0 → {told : Result Report ℕ} {s m : List ℕ}
    → told ≡ mend_report p stripe marks → s ≡ mend_stripe p stripe marks → m ≡ mend_marks p stripe marks → PrintableAnswer p told s m
unfolding when◌then◌else◌ mend_report mend_stripe mend_marks PrintableAnswer
mend-printable p stripe marks e et es em = rw (et, es, em) (rw e (turn-printable p stripe marks e (mended p stripe marks) (reached p stripe marks e)))

pub report-printable : (p : ℕ) (stripe marks : List ℕ) {r : Report} → Ok r ≡ mend_report p stripe marks
    → Printable p r (mend_stripe p stripe marks) (mend_marks p stripe marks)
unfolding when◌then◌else◌ mend_report PrintableAnswer
report-printable p stripe marks {r} e = go (eqb (lent_refusal p stripe marks) 0) refl
  where
    go : (b : Bool) → eqb (lent_refusal p stripe marks) 0 ≡ b → Printable p r (mend_stripe p stripe marks) (mend_marks p stripe marks)
    go true f = mend-printable p stripe marks (eqb-true (lent_refusal p stripe marks) 0 f) e refl refl
    go false f = absurd (let g = rw f at e in cc)

-- the text of an answer, a stripe and marks that are those of mending
pub text-mended : (p : ℕ) (stripe marks : List ℕ) {told : Result Report ℕ} {s m : List ℕ} → told ≡ mend_report p stripe marks
    → s ≡ mend_stripe p stripe marks → m ≡ mend_marks p stripe marks
    → item "plan " p ++ told_text (plan_of p) told (grid (plan_of p) s m) ≡ mend_text p stripe marks
unfolding mend_text
text-mended p stripe marks et es em = rw (et, es, em)

-- ---- refusals

pub refusal-small : (r : Refusal) → refusal_number r < numbers
unfolding refusal_number
refusal-small UnknownPlan = omega arith
refusal-small WrongLength = omega arith
refusal-small MarkBeyondColumns = omega arith
refusal-small NoSymbol = omega arith
refusal-small NoSuchRow = omega arith
refusal-small NoSuchLevel = omega arith
refusal-small NoCodeword = omega arith
refusal-small WrongFileLength = omega arith
refusal-small WrongHeader = omega arith
refusal-small SymbolUnderMark = omega arith

-- ---- the text of a file

pub text-refused : (file : List ℕ) → (file_refusal file unasked ≡ 0 → ⊥) → printed file ≡ item "refused " (file_refusal file unasked) ++ line_end
unfolding when◌then◌else◌ printed
text-refused file h = rw (ne_eqb (file_refusal file unasked) 0 h)

pub text-loaded : (file : List ℕ) → file_refusal file unasked ≡ 0 → printed file ≡ mend_text (plan_in file) (symbols_in file) (marks_in file)
unfolding when◌then◌else◌ printed
text-loaded file e = rw e

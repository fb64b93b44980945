-- The room for any stripe is lent as far as the plan's goes. Assumes nothing.
use mathlib.Core.List.{List}
use mathlib.Core.Path.{◌≡◌, sym, ap, ◌∙◌}
use Prim.Native.Nat.{ℕ, ◌*◌, ◌≤◌}
use native.Mathlib.Omega.{arith}
use lib.ListN.{length, take, replicate}
use lib.Seq.{length-take-le}
use Rattle.plans.specs.Plan.{plan_of}
use Rattle.plans.specs.Refusal.{unasked}
use Rattle.plans.specs.Rooms.{row_room, symbol_room}
use Rattle.plans.proofs.Plans.{Shape, shape}
use Rattle.files.specs.File.{plan_in, symbols_in, marks_in, file_refusal}
use Rattle.files.proofs.Files.{file-fit}
use Rattle.words.proofs.Writing.{put_is}
use Rattle.texts.specs.Text.{mend_text}
use Rattle.printing.proofs.put_loaded.Goals as goal

-- a plan p that is the file's
module _ (file : List ℕ) (ask : file_refusal file unasked ≡ 0) {p : ℕ} (e : p ≡ plan_in file) where
  sizes : Shape (plan_of (plan_in file))
  sizes = shape _ (file-fit file unasked ask).0.plan-known

  -- its stripe, n symbols
  module _ {n : ℕ} (s : n ≡ (plan_of p).rows * (plan_of p).columns) where
    symbols : n ≡ (plan_of (plan_in file)).rows * (plan_of (plan_in file)).columns
    symbols = s ∙ ap (λ p. (plan_of p).rows * (plan_of p).columns) e

    symbols-le : n ≤ symbol_room
    symbols-le = omega (arith, symbols, sizes.symbols-le)

    symbols-lent : length {A = ℕ} (take n (replicate symbol_room 0)) ≡ n
    symbols-lent = length-take-le n (replicate symbol_room 0) symbols-le

  -- its mark words, n of them
  module _ {n : ℕ} (r : n ≡ (plan_of p).rows) where
    rows : n ≡ (plan_of (plan_in file)).rows
    rows = r ∙ ap (λ p. (plan_of p).rows) e

    rows-le : n ≤ row_room
    rows-le = omega (arith, rows, sizes.rows-le)

    rows-lent : length {A = ℕ} (take n (replicate row_room 0)) ≡ n
    rows-lent = length-take-le n (replicate row_room 0) rows-le

pub slice_bounds-stripe-end : goal.slice_bounds-stripe-end
slice_bounds-stripe-end c = symbols-le c.args.file.now c.requires.fit c.plan_in-plan.ensures c.facts_of-facts.ensures.symbols

pub slice_bounds-put_mended-end : goal.slice_bounds-put_mended-end
slice_bounds-put_mended-end c = sym (symbols-lent c.args.file.now c.requires.fit c.plan_in-plan.ensures c.facts_of-facts.ensures.symbols)

pub slice_bounds-marks-end : goal.slice_bounds-marks-end
slice_bounds-marks-end c = rows-le c.args.file.now c.requires.fit c.plan_in-plan.ensures c.facts_of-facts.ensures.rows

pub slice_bounds-put_mended-end-2 : goal.slice_bounds-put_mended-end-2
slice_bounds-put_mended-end-2 c = sym (rows-lent c.args.file.now c.requires.fit c.plan_in-plan.ensures c.facts_of-facts.ensures.rows)

pub put_mended-requires : goal.put_mended-requires
put_mended-requires c =
    let ask = c.requires.fit in
    let e = c.plan_in-plan.ensures in
    let facts = c.facts_of-facts.ensures in
    record {
      plan = e;
      loading = record {
        fit = ask;
        long = symbols-lent c.args.file.now ask e facts.symbols ∙ symbols c.args.file.now ask e facts.symbols;
        words = rows-lent c.args.file.now ask e facts.rows ∙ rows c.args.file.now ask e facts.rows;
      };
      room = c.requires.room;
    }

pub returns-clause-written : goal.returns-clause-written
returns-clause-written c =
    let file = c.args.file.now in
    put_is (ap (λ k. mend_text k (symbols_in file) (marks_in file)) (sym c.plan_in-plan.ensures)) c.put_mended.ensures.written

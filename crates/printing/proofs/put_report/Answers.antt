-- By the answer: once it is known, so are its values and its text. Assumes nothing.
use mathlib.Core.List.{List, ◌++◌}
use mathlib.Core.Logic.{◌⊎◌, inl, inr}
use mathlib.Core.Path.{◌≡◌, sym, ap, subst}
use Prim.Native.Nat.{ℕ}
use native.Mathlib.Omega.{arith}
use lib.Dec.{T}
use Rattle.plans.specs.Plan.{plan_of}
use Rattle.plans.specs.Answers.{place_values, end_values, answer_values, report_values}
use Rattle.plans.specs.Refusal.{all_below}
use Rattle.plans.specs.declared.Answer.{Answer}
use Rattle.plans.specs.declared.Answer.TheVariants.{Restored, Stuck, Clash}
use Rattle.plans.specs.declared.Place.{Place}
use Rattle.plans.specs.declared.Report.{Report}
use Rattle.texts.specs.Text.{line_end, grid, answer_text, end_text, place_text}
use Rattle.texts.specs.Parts.{numbers}
use Rattle.words.proofs.Writing.{put-length, put_then, put_is}
use Rattle.printing.proofs.put_report.Goals as goal

-- what is known of the values of a report of plan p and of its text before all rows, once its answer is known
module _ (p : ℕ) (r : Report) where
  abbrev values : Answer → List ℕ
  values a = answer_values a (end_values (plan_of p) r)

  abbrev Small : Answer → Type 0
  Small a = T (all_below numbers (values a))

  end_small : (r.answer ≡ Restored) ⊎ (r.answer ≡ Stuck) → T (all_below numbers (report_values (plan_of p) r)) → T (all_below numbers (end_values (plan_of p) r))
  unfolding answer_values report_values
  end_small (inl e) t = subst Small e t
  end_small (inr e) t = subst Small e t

  place_small : {place : Place} → r.answer ≡ Clash place → T (all_below numbers (report_values (plan_of p) r)) → T (all_below numbers (place_values place))
  unfolding answer_values report_values
  place_small e t = subst Small e t

  module _ (rows : List ℕ) where
    end-follows : (r.answer ≡ Restored) ⊎ (r.answer ≡ Stuck)
        → (end_text (end_values (plan_of p) r) ++ line_end) ++ rows ≡ answer_text r.answer (report_values (plan_of p) r) rows
    unfolding answer_values report_values answer_text
    end-follows (inl e) = sym (ap (λ a. answer_text a (values a) rows) e)
    end-follows (inr e) = sym (ap (λ a. answer_text a (values a) rows) e)

    place-follows : {place : Place} → r.answer ≡ Clash place → place_text place (place_values place) ++ line_end ≡ answer_text r.answer (report_values (plan_of p) r) rows
    unfolding answer_values report_values answer_text
    place-follows e = sym (ap (λ a. answer_text a (values a) rows) e)

pub put_summary-requires : goal.put_summary-requires
put_summary-requires c =
    let ask = c.requires.printable in
    record { plan-known = ask.sized.plan-known; small = end_small c.args.plan c.args.report c.in-Restored.is ask.values; room = omega (arith, c.requires.room) }

pub put_place-requires : goal.put_place-requires
put_place-requires c =
    record { small = place_small c.args.plan c.args.report c.in-Clash.is c.requires.printable.values; room = omega (arith, c.requires.room) }

pub put_grid-requires : goal.put_grid-requires
put_grid-requires c =
    let summary = c.put_summary.ensures.written in
    record { sized = c.requires.printable.sized; room = omega (arith, c.requires.room, summary.most, put-length summary.put) }

pub put-requires : goal.put-requires
put-requires c =
    let place = c.put_place.ensures.written in
    omega (arith, c.requires.room, place.most, put-length place.put)

pub returns-in-Restored-clause-written : goal.returns-in-Restored-clause-written
returns-in-Restored-clause-written c =
    let a = c.args in
    let rows = grid (plan_of a.plan) a.stripe.now a.marks.now in
    put_is (sym (end-follows a.plan a.report rows c.in-Restored.is)) (put_then c.put_summary.ensures.written.put c.put_grid.ensures.written)

pub returns-in-Clash-clause-written : goal.returns-in-Clash-clause-written
unfolding line_end
returns-in-Clash-clause-written c =
    let a = c.args in
    let rows = grid (plan_of a.plan) a.stripe.now a.marks.now in
    put_is (sym (place-follows a.plan a.report rows c.in-Clash.is)) (put_then c.put_place.ensures.written.put c.put.ensures.written)

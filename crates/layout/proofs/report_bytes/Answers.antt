-- By the answer: once it is known, so are its values and their bytes. Assumes nothing.
use mathlib.Core.List.{List}
use mathlib.Core.Logic.{◌⊎◌, inl, inr}
use mathlib.Core.Path.{◌≡◌, sym, ap, subst, ◌∙◌}
use Prim.Native.Nat.{ℕ}
use lib.Dec.{T}
use Rattle.plans.specs.Plan.{plan_of}
use Rattle.plans.specs.Answers.{end_values, answer_values, report_values}
use Rattle.plans.specs.Refusal.{all_below}
use Rattle.plans.specs.Tables.{padded}
use Rattle.plans.specs.declared.Answer.{Answer}
use Rattle.plans.specs.declared.Answer.TheVariants.{Restored, Stuck}
use Rattle.plans.specs.declared.Report.{Report}
use Rattle.layout.specs.Layout.{report_size, answer_bytes, report_bytes}
use Rattle.words.specs.Words.{byte_range}
use Rattle.layout.proofs.report_bytes.Goals as goal

-- what is known of the values and of the bytes of a report of plan p, once its answer is known

values : (p : ℕ) → Report → Answer → List ℕ
values p r a = answer_values a (end_values (plan_of p) r)

small : (p : ℕ) (r : Report) {a : Answer} → r.answer ≡ a → T (all_below byte_range (report_values (plan_of p) r)) → T (all_below byte_range (values p r a))
unfolding values report_values
small p r e t = subst (λ a. T (all_below byte_range (values p r a))) e t

is : (p : ℕ) (r : Report) {a : Answer} → r.answer ≡ a → answer_bytes a (values p r a) ≡ report_bytes (plan_of p) r
unfolding values report_values report_bytes
is p r e = sym (ap (λ a. answer_bytes a (values p r a)) e)

-- Restored and Stuck have the same

end-small : (p : ℕ) (r : Report) → (r.answer ≡ Restored) ⊎ (r.answer ≡ Stuck) → T (all_below byte_range (report_values (plan_of p) r))
    → T (all_below byte_range (end_values (plan_of p) r))
unfolding values answer_values
end-small p r (inl e) t = small p r e t
end-small p r (inr e) t = small p r e t

end-is : (p : ℕ) (r : Report) → (r.answer ≡ Restored) ⊎ (r.answer ≡ Stuck) → padded report_size (end_values (plan_of p) r) ≡ report_bytes (plan_of p) r
unfolding values answer_values answer_bytes
end-is p r (inl e) = is p r e
end-is p r (inr e) = is p r e

pub end_bytes-requires : goal.end_bytes-requires
end_bytes-requires c = end-small c.args.plan c.args.report c.in-Restored.is c.requires

pub clash_bytes-requires : goal.clash_bytes-requires
unfolding values answer_values
clash_bytes-requires c = small c.args.plan c.args.report c.in-Clash.is c.requires

pub returns-in-Restored : goal.returns-in-Restored
returns-in-Restored c = c.end_bytes.ensures ∙ end-is c.args.plan c.args.report c.in-Restored.is

pub returns-in-Clash : goal.returns-in-Clash
unfolding values answer_values answer_bytes
returns-in-Clash c = c.clash_bytes.ensures ∙ is c.args.plan c.args.report c.in-Clash.is

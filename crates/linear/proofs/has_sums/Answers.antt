-- `has_sums`: that each sum is its target says that all are, by the lemmas of fills on flat matrices.
use Prim.Native.Nat.{ℕ, ◌<◌}
use mathlib.Core.Bool.{Bool, true, false}
use mathlib.Core.List.{List}
use mathlib.Core.Path.{◌≡◌, refl, sym, ap, ◌∙◌}
use native.Mathlib.Nat.{le_refl}
use lib.ListN.{length}
use Rattle.std.proofs.Common.{rules, IsTrue, ◌↔◌}
use Rattle.field.specs.Field.{Field}
use Rattle.field.specs.Ours.{field_of}
use Rattle.field.proofs.Laws.{IsField}
use Rattle.field.proofs.Fields.{our-field}
use Rattle.fills.specs.Fill.{sums_of}
use Rattle.fills.specs.Lists.{same}
use Rattle.fills.specs.Marks.{rows_of}
use Rattle.fills.proofs.Flat.{sums_at_lem, sums-are, eq-same, ne_same}
use Rattle.equations.specs.System.{vec, ent, inner}
use Rattle.linear.proofs.has_sums.Goals as goal

decided : (F : Field) (K : IsField F) (checks target v : List ℕ) (b : Bool)
    → (IsTrue b ↔ ((i : ℕ) → i < length target → inner F (ent checks (length v) i) (vec v) (length v) ≡ vec target i))
    → b ≡ same (sums_of F (rows_of (length target) (length v) checks) v) target
decided F K checks target v true h = eq-same _ _ (sums-are F K _ _ checks v target (le_refl _) refl (h.0 refl))
decided F K checks target v false h =
    ne_same _ _ (λ e. let t = h.1 (λ i l. sym (sums_at_lem F K _ _ checks v (le_refl _) i l) ∙ ap (λ s. vec s i) e) in cc)

pub returns : goal.returns
returns c = decided (field_of c.args.q) (our-field c.args.q) c.args.checks.now c.args.target.now c.args.v.now _ (search rules)

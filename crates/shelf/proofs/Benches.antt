-- What the calls on a bench leave, by the buffer's size. Assumes nothing.
use mathlib.Core.Path.{◌≡◌, sym, ap, ◌∙◌}
use mathlib.Core.List.{List}
use Prim.Native.Nat.{ℕ}
use lib.ListN.{length}
use Rattle.plans.specs.Answers.{step_number, as_number}
use Rattle.steps.specs.Steps.{Stepped, started}
use Rattle.plans.specs.declared.Bench.{Bench}
use Rattle.plans.specs.declared.Step.{Step}
use Rattle.layout.specs.Layout.{bench_size, bench_bytes, bench_in}
use Rattle.numbers.specs.Numbers.{unfit}
use Rattle.shelf.specs.Calls.{start_number, start_buffer, step_answer, step_buffer}
use Rattle.shelf.proofs.Sizing.{sized-fit, sized-unfit}

module _ (step : Bench → Stepped Step) (bench : List ℕ) where
  pub steps-unfit : {n : ℕ} → (length bench ≡ bench_size → ⊥) → n ≡ 11 → (n ≡ step_answer step bench) × (bench ≡ step_buffer step bench)
  unfolding step_answer step_buffer
  steps-unfit h e = (e ∙ sym (sized-unfit bench_size bench _ _ h), sym (sized-unfit bench_size bench _ _ h))

  pub steps-fit : {n : ℕ} {new : List ℕ} (b : Bench) (s : Stepped Step) → length bench ≡ bench_size → b ≡ bench_in bench → s ≡ step b
      → n ≡ as_number step_number s.answer → new ≡ bench_bytes s.bench → (n ≡ step_answer step bench) × (new ≡ step_buffer step bench)
  unfolding step_answer step_buffer
  steps-fit b s fits e f en eb =
      let g : s ≡ step (bench_in bench) = f ∙ ap step e in (
        en ∙ ap (λ (s : Stepped Step). as_number step_number s.answer) g ∙ sym (sized-fit bench_size bench _ _ fits),
        eb ∙ ap (λ (s : Stepped Step). bench_bytes s.bench) g ∙ sym (sized-fit bench_size bench _ _ fits),
      )

module _ (p : ℕ) (stripe marks bench : List ℕ) where
  pub starts-unfit : {n : ℕ} → (length bench ≡ bench_size → ⊥) → n ≡ unfit p
      → (n ≡ start_number p stripe marks bench) × (bench ≡ start_buffer p stripe marks bench)
  unfolding start_number start_buffer
  starts-unfit h e = (e ∙ sym (sized-unfit bench_size bench _ _ h), sym (sized-unfit bench_size bench _ _ h))

  pub starts_fit : {n : ℕ} {new : List ℕ} (s : Stepped Unit) → length bench ≡ bench_size → s ≡ started p stripe marks
      → n ≡ as_number (λ _. 0) s.answer → new ≡ bench_bytes s.bench
      → (n ≡ start_number p stripe marks bench) × (new ≡ start_buffer p stripe marks bench)
  unfolding start_number start_buffer
  starts_fit s fits e en eb = (
    en ∙ ap (λ (s : Stepped Unit). as_number (λ _. 0) s.answer) e ∙ sym (sized-fit bench_size bench _ _ fits),
    eb ∙ ap (λ (s : Stepped Unit). bench_bytes s.bench) e ∙ sym (sized-fit bench_size bench _ _ fits),
  )

-- What the calls that are done or refuse return, and what the call of the text leaves. Assumes nothing.
use mathlib.Core.Path.{◌≡◌, sym, ◌∙◌}
use mathlib.Core.List.{List}
use Prim.Native.Nat.{ℕ}
use Rattle.std.specs.Prelude.{Result, Ok, Err}
use lib.ListN.{length}
use Rattle.plans.specs.Answers.{as_number, numbered, refused_by}
use Rattle.plans.specs.declared.Refusal.{Refusal}
use Rattle.words.specs.Words.{bytes_of}
use Rattle.plans.specs.Tables.{padded}
use Rattle.texts.specs.Text.{text_room, printed}
use Rattle.shelf.specs.Calls.{size_room, text_number, text_buffer, text_size_buffer}
use Rattle.shelf.proofs.Sizing.{roomy-fit, roomy-no-text, roomy-no-size}

-- a refusal is returned as its number, and Ok as 0
pub done-told : (told : Result Unit Refusal) {n r : ℕ} → r ≡ as_number (λ _. 0) (numbered told) → refused_by told ≡ n → r ≡ n
unfolding as_number numbered refused_by
done-told (Ok done) e f = e ∙ f
done-told (Err refusal) e f = e ∙ f

module _ (file text size : List ℕ) where
  -- the answer's number and the two buffers
  abbrev pub Told : ℕ → (t s : List ℕ) → Type 0
  Told n t s = (n ≡ text_number text size) × ((t ≡ text_buffer file text size) × (s ≡ text_size_buffer file text size))

  pub tells-no-text : {n : ℕ} → (length text ≡ text_room → ⊥) → n ≡ 11 → Told n text size
  unfolding text_number text_buffer text_size_buffer
  tells-no-text h e = (e ∙ sym (roomy-no-text text size _ _ h), (sym (roomy-no-text text size _ _ h), sym (roomy-no-text text size _ _ h)))

  pub tells-no-size : {n : ℕ} → length text ≡ text_room → (length size ≡ size_room → ⊥) → n ≡ 11 → Told n text size
  unfolding text_number text_buffer text_size_buffer
  tells-no-size e h g = (g ∙ sym (roomy-no-size text size _ _ e h), (sym (roomy-no-size text size _ _ e h), sym (roomy-no-size text size _ _ e h)))

  pub tells : {t s : List ℕ} → length text ≡ text_room → length size ≡ size_room → t ≡ padded text_room (printed file) → s ≡ bytes_of size_room (length (printed file))
      → Told 0 t s
  unfolding text_number text_buffer text_size_buffer
  tells e f g h = (
    sym (roomy-fit text size _ _ e f),
    (g ∙ sym (roomy-fit text size _ _ e f), h ∙ sym (roomy-fit text size _ _ e f)),
  )

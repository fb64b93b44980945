-- Silence of what is printed: it does not depend on the byte under a mark.
use Rattle.std.specs.Prelude.{ℕ, ◌≡◌, ◌≢◌, List}
use Rattle.plans.specs.Refusal.{unasked}
use Rattle.files.specs.File.{file_refusal}
use Rattle.texts.specs.Text.{mend_text, printed}
use Rattle.demands.specs.Silence.{SameUnmarked, SameFile}

-- the text that is printed is the same
abbrev pub SilentText : Type 0
SilentText = (p : ℕ) (marks s t : List ℕ) → SameUnmarked p marks s t → mend_text p s marks ≡ mend_text p t marks

-- the same is printed, where neither file is refused with 22
abbrev pub SilentPrinting : Type 0
SilentPrinting = (f g : List ℕ) → SameFile f g → file_refusal f unasked ≢ 22 → file_refusal g unasked ≢ 22 → printed f ≡ printed g

-- Refused, the file stays; else it is written whole. Assumes nothing.
use mathlib.Core.Path.{◌∙◌}
use Rattle.plans.proofs.Refusals.{accepted, refused}
use Rattle.files.specs.File.{write_file}
use Rattle.files.proofs.Files.{left-new, left-old}
use Rattle.files.proofs.write_file.Goals as goal

pub returns-in_err-write_refusal-clause-file_after : goal.returns-in_err-write_refusal-clause-file_after
unfolding write_file
returns-in_err-write_refusal-clause-file_after c = left-old _ _ (refused _ c.in_err-write_refusal.ensures)

pub put_file-requires : goal.put_file-requires
put_file-requires c = accepted c.in_ok-write_refusal.ensures

pub returns-clause-file_after : goal.returns-clause-file_after
unfolding write_file
returns-clause-file_after c = c.put_file.ensures ∙ left-new _ _ (accepted c.in_ok-write_refusal.ensures)

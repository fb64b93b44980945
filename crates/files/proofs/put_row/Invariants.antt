-- After c turns the first c symbols are written, 0 under marks. Assumes nothing.
use mathlib.Core.Path.{◌≡◌}
use lib.ListN.{length}
use Rattle.fills.specs.Marks.{bits_of}
use Rattle.files.specs.File.{blanked}
use Rattle.words.proofs.Writing.{Writing}
use Rattle.files.proofs.put_row.Given as goal

abbrev pub invariant-loop-c : goal.invariant-loop-c
invariant-loop-c l = (l.c-end ≡ length l.row) × Writing l.initial.file l.at (blanked (bits_of (length l.row) l.word) l.row) l.c l.file

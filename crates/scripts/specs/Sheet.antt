-- The bench sheet whole: the library's cases, and the file with its stripe, its marks and what is printed for it.
use Rattle.std.specs.Prelude.{◌≡◌}
use Rattle.repair.specs.Sheet.{example_stripe, example_marks, Sheet}
use Rattle.files.specs.File.{marks_in, symbols_in}
use Rattle.files.specs.Example.{example_file}
use Rattle.texts.specs.Text.{bytes, printed}

-- the cases of the library; the file has the example's stripe and marks, and the program prints them restored
pub record FileSheet : Type 0 where
  pub library : Sheet
  pub file_stripe : symbols_in example_file ≡ example_stripe
  pub file_marks : marks_in example_file ≡ example_marks
  pub file_printed : printed example_file ≡ bytes "plan 1 answer 0 level 2 left 0 rows 2 1\n1100000\n0000110\n0000000\n"

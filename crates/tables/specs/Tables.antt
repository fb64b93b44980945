-- What the code's numbers of a plan are.
use Rattle.std.specs.Prelude.{◌+◌, ◌*◌, ◌^◌, ◌≡◌, map, length}
use Rattle.field.specs.Lists.{up_from}
use Rattle.field.specs.Field.{Field}
use Rattle.field.specs.Ours.{field_of}
use Rattle.field.specs.declared.Gf.{Gf}
use Rattle.plans.specs.Plan.{Plan, level_of, checks_to, word_bytes, file_length}
use Rattle.tables.specs.declared.Facts.{Facts}

-- the code's field is the plan's
pub record FieldNumber (F : Field) (q : Gf) : Type 0 where
  pub names : field_of q ≡ F

-- the code's facts are the plan's; what goes by level stands at the level's number, from 0 to 3
pub record FactsOf (P : Plan) (f : Facts) : Type 0 where
  pub field : FieldNumber P.field f.field
  pub rows : f.rows ≡ P.rows
  pub columns : f.columns ≡ P.columns
  pub symbols : f.symbols ≡ P.rows * P.columns
  pub word : f.word + 1 ≡ 2 ^ P.columns
  pub word-bytes : f.word_bytes ≡ word_bytes P
  pub levels : f.levels ≡ length P.levels
  pub sums : f.sums ≡ map (λ t. length (checks_to P t)) (up_from 0 4)
  pub totals : f.totals ≡ map (λ t. length (level_of P t).weights) (up_from 0 4)
  pub carried : f.carried ≡ Rattle.plans.specs.Plan.carried P
  pub file-length : f.file_length ≡ file_length P

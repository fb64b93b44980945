-- The interleaved form on samples: a codeword of plan 3, stripes that one clause alone shuts out, and the order of refusal. Assumes nothing.
use mathlib.Core.Path.{◌≡◌, refl}
use mathlib.Core.Bool.{true, false}
use mathlib.Core.List.{List, [], ◌∷◌, map, flat_map}
use Prim.Native.Nat.{ℕ, ◌/◌, ◌%◌, ◌^◌}
use lib.ListN.{take, set}
use Rattle.std.specs.Prelude.{Ok, Err}
use Rattle.field.specs.Lists.{when◌then◌else◌, up_from}
use Rattle.field.specs.Field.{◌⊕◌, size, double, times, mul, dot, gf16}
use Rattle.field.specs.Power.{power, power_sum}
use Rattle.fills.specs.Lists.{all}
use Rattle.plans.specs.Refusal.{first_failed, all_below}
use Rattle.interleaved.specs.Interleaved.{a^, row, locations, in_code, sum, plain_sum, weighted_sum}
use Rattle.interleaved.specs.Interleaved.{is_interleaved, interleaved_refusal, interleaved}

-- a row read off a number, column 0 last
unfoldable pub digits : ℕ → List ℕ
digits w = map (λ c. w / 16 ^ c % 16) (up_from 0 15)

-- a stripe whose first three rows are handed in
unfoldable pub sample : (first second third : ℕ) → List ℕ
sample first second third =
    flat_map digits
    (first ∷ second ∷ third ∷ 0x7851f7fc1f4e8d1 ∷ 0x86b3b80841f1a7b ∷ 0x506e2bbc5160e1e ∷ 0x279e5511f8ecee7 ∷ 0x4e9e3f89bd0b4f6 ∷ [])

unfoldable pub codeword : List ℕ
codeword = sample 0x4346dfdabe852f5 0xb8e34e8647c73ef 0x1f2a8115f357270

pub samples :
    (interleaved codeword ≡ Ok true)
    -- one symbol changed: its row is in no code
    × (interleaved (set codeword 0 4) ≡ Ok false)
    -- to row 0 a word is added whose power sums 0 to 5 are 0, and 6 is not: the plain sum alone shuts it out
    × (interleaved (sample 0x4346dfdaa4776c4 0xb8e34e8647c73ef 0x1f2a8115f357270) ≡ Ok false)
    -- rows 1 and 2 exchanged, so that the plain sum stays: the sum of a ^ r times row r alone shuts it out
    × (interleaved (sample 0x4346dfdabe852f5 0x1f2a8115f357270 0xb8e34e8647c73ef) ≡ Ok false)
    -- a symbol too few and a symbol 16; a symbol 16
    × (interleaved (take 119 (set codeword 0 16)) ≡ Err 11) × (interleaved (set codeword 0 16) ≡ Err 13)
unfolding when◌then◌else◌ up_from ◌⊕◌ size double times mul dot gf16 power power_sum flat_map all first_failed all_below
    a^ row locations in_code sum plain_sum weighted_sum is_interleaved interleaved_refusal interleaved digits sample codeword
samples = (refl, refl, refl, refl, refl, refl)

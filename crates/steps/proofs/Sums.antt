-- Learned sums: what stands in each row's places after a level was learned, and in the room. Assumes nothing.
use mathlib.Core.Path.{◌≡◌, refl, sym, ap, ap₂, ◌∙◌, subst}
use mathlib.Core.Logic.{◌⊎◌, inl, inr}
use mathlib.Core.List.{List, [], ◌∷◌, ◌++◌, map, append-nil}
use Prim.Native.Nat.{ℕ, zero, suc, ◌+◌, ◌*◌, ◌<◌, ◌≤◌, zero-le}
use native.Mathlib.Nat.{suc-mul, add_comm, le_of_suc-le-suc, not-suc-le-zero}
use native.Mathlib.Omega.{arith}
use lib.Dec.{ltb, ltb→lt, nltb→le}
use lib.ListN.{length, take, drop, get_or, length-append, length-map, length-take, take-append-drop, drop_of_length-le}
use lib.Seq.{sets, length-sets, length-take-le, take_all, take_at, drop_at, take-take, drop-drop}
use Rattle.field.specs.Lists.{up_from}
use Rattle.field.proofs.Lists.{length_up, get_or-map-below}
use Rattle.fills.proofs.Tests.{either}
use Rattle.plans.specs.Rooms.{sum_room}
use Rattle.steps.specs.Steps.{new_sums, keep_sums}
use Rattle.words.proofs.Stores.{take-sets, sets-out}

pub keep-length : (n : ℕ) (news : List (List ℕ)) (sums : List ℕ) → length (keep_sums n news sums) ≡ length sums
unfolding keep_sums
keep-length n [] sums = refl
keep-length n (new ∷ news) sums =
    length-append (sets (take sum_room sums) n new) (keep_sums n news (drop sum_room sums))
    ∙ ap₂ ◌+◌ (length-sets (take sum_room sums) n new) (keep-length n news (drop sum_room sums))
    ∙ sym (length-append (take sum_room sums) (drop sum_room sums)) ∙ ap length (take-append-drop sum_room sums)

-- where there are no places nothing is written
keep-nowhere : (n : ℕ) (news : List (List ℕ)) → keep_sums n news [] ≡ []
unfolding keep_sums
keep-nowhere n [] = refl
keep-nowhere n (new ∷ news) = ap₂ ◌++◌ (sets-out new [] n zero-le) (keep-nowhere n news)

-- ---- the first row's places, and the places behind them

module _ (n : ℕ) (new : List ℕ) (news : List (List ℕ)) (sums : List ℕ) where
  abbrev here : List ℕ
  here = sets (take sum_room sums) n new

  abbrev behind : List ℕ
  behind = keep_sums n news (drop sum_room sums)

  -- the row has all its places, or nothing stands behind them
  seam : (length here ≡ sum_room) ⊎ (behind ≡ [])
  seam =
      elim (either (ltb (length sums) sum_room)) [
        | inl t ↦ inr (ap (keep_sums n news) (drop_of_length-le sums (short (ltb→lt (length sums) sum_room t))) ∙ keep-nowhere n news)
        | inr t ↦ inl (length-sets (take sum_room sums) n new ∙ length-take-le sum_room sums (nltb→le (length sums) sum_room t))
      ]
    where
      short : length sums < sum_room → length sums ≤ sum_room
      short h = omega arith

  here-le : length here ≤ sum_room
  here-le = simp (length-sets, length-take) (omega arith)

  pub keep-here : take sum_room (keep_sums n (new ∷ news) sums) ≡ sets (take sum_room sums) n new
  unfolding keep_sums
  keep-here =
      elim seam [
        | inl e ↦ take_at here behind sum_room e
        | inr e ↦ ap (λ k. take sum_room (here ++ k)) e ∙ ap (take sum_room) (append-nil here) ∙ take_all sum_room here here-le
      ]

  pub keep-behind : drop sum_room (keep_sums n (new ∷ news) sums) ≡ keep_sums n news (drop sum_room sums)
  unfolding keep_sums
  keep-behind =
      elim seam [
        | inl e ↦ drop_at here behind sum_room e
        | inr e ↦ ap (λ k. drop sum_room (here ++ k)) e ∙ ap (drop sum_room) (append-nil here) ∙ drop_of_length-le here here-le ∙ sym e
      ]

-- ---- row r's places, and the room behind all rows

-- a row further on
further : (r : ℕ) (l : List ℕ) → drop (suc r * sum_room) l ≡ drop (r * sum_room) (drop sum_room l)
further r l = ap (λ i. drop i l) (suc-mul r sum_room ∙ add_comm (r * sum_room) sum_room) ∙ sym (drop-drop (r * sum_room) sum_room l)

part_at : (n : ℕ) (news : List (List ℕ)) (m : ℕ) (sums : List ℕ) (r : ℕ) → m ≤ sum_room → r < length news
    → take m (drop (r * sum_room) (keep_sums n news sums)) ≡ sets (take m (drop (r * sum_room) sums)) n (get_or news r [])
part_at n [] m sums r g l = absurd (not-suc-le-zero l)
part_at n (new ∷ news) m sums zero g l =
    sym (take-take m sum_room (keep_sums n (new ∷ news) sums) g) ∙ ap (take m) (keep-here n new news sums)
    ∙ take-sets m new (take sum_room sums) n ∙ ap (λ k. sets k n new) (take-take m sum_room sums g)
part_at n (new ∷ news) m sums (suc r) g l =
    ap (take m) (further r (keep_sums n (new ∷ news) sums)) ∙ ap (λ k. take m (drop (r * sum_room) k)) (keep-behind n new news sums)
    ∙ part_at n news m (drop sum_room sums) r g (le_of_suc-le-suc l)
    ∙ ap (λ k. sets (take m k) n (get_or news r [])) (sym (further r sums))

room-behind : (n : ℕ) (news : List (List ℕ)) (sums : List ℕ) → drop (length news * sum_room) (keep_sums n news sums) ≡ drop (length news * sum_room) sums
unfolding keep_sums
room-behind n [] sums = refl
room-behind n (new ∷ news) sums =
    further (length news) (keep_sums n (new ∷ news) sums) ∙ ap (drop (length news * sum_room)) (keep-behind n new news sums)
    ∙ room-behind n news (drop sum_room sums) ∙ sym (further (length news) sums)

module _ (at : ℕ) (cs : List (List ℕ)) (R : ℕ) (sums : List ℕ) where
  abbrev news : List (List ℕ)
  news = map (new_sums cs) (up_from 0 R)

  news-length : length news ≡ R
  news-length = length-map (up_from 0 R) (new_sums cs) ∙ length_up 0 R

  -- the first m of row r's places
  pub keep-part : (m r : ℕ) → m ≤ sum_room → r < R
      → take m (drop (r * sum_room) (keep_sums at news sums)) ≡ sets (take m (drop (r * sum_room) sums)) at (new_sums cs r)
  keep-part m r g l =
      part_at at news m sums r g (rw news-length l) ∙ ap (sets (take m (drop (r * sum_room) sums)) at) (get_or-map-below (new_sums cs) R r [] l)

  pub keep-room : drop (R * sum_room) (keep_sums at news sums) ≡ drop (R * sum_room) sums
  keep-room = subst (λ k. drop (k * sum_room) (keep_sums at news sums) ≡ drop (k * sum_room) sums) news-length (room-behind at news sums)

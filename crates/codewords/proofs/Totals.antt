-- The rows' weighted total: the loops that add it up, and its sums. Assumes nothing.
use mathlib.Core.Path.{◌≡◌, refl, sym, ap, ap₂, ◌∙◌, subst}
use mathlib.Core.List.{List, [], ◌∷◌, map}
use Prim.Native.Nat.{ℕ, zero, suc, ◌+◌, ◌*◌, ◌-◌, ◌≤◌, ◌<◌}
use native.Mathlib.Nat.{zero-mul, suc-mul, zero-add, add-zero, le_of_eq}
use native.Mathlib.Numerals.{add-one}
use native.Mathlib.Omega.{arith}
use lib.Bits.{bit_and, and_mask}
use lib.Dec.{lit<}
use lib.ListN.{length, get_or, set, take, drop, replicate, length-map, get_or-map, drop_of_length-le}
use lib.Seq.{take_all, drop-cons, drop-drop, drop-paste, get_or-drop}
use Rattle.field.specs.Field.{◌⊕◌, Field, size, mul, dot, gf2, gf16, gf256}
use Rattle.field.specs.Ours.{field_of}
use Rattle.field.specs.declared.Gf.{Gf}
use Rattle.field.specs.declared.Gf.TheVariants.{Two, Sixteen, Bytes}
use Rattle.field.proofs.Sum.{⊕-assoc, ⊕-zero, zero-⊕}
use Rattle.field.proofs.Ring.{one-low}
use Rattle.field.proofs.Fields.{our-field}
use Rattle.field.proofs.Laws.{IsField, mul-zero}
use Rattle.fills.specs.Marks.{rows_of}
use Rattle.fills.specs.Lists.{plus}
use Rattle.fills.proofs.Vectors.{plus-length, plus-at, dot-comm, dot-plus, dot-scaled, dot-zeros}
use Rattle.plans.proofs.Copying.{Copying, copying-starts, copying-turns, copying-ends}
use Rattle.plans.proofs.Parts.{part, part_of, part_length}
use Rattle.codewords.specs.Asked.{with_rows, total_row}

-- ---- one row

-- of a symbol the field's bits count
pub size-small : (q : Gf) → size (field_of q) - 1 < 256
unfolding size gf2 gf16 gf256 field_of
size-small Two = lit< tt
size-small Sixteen = lit< tt
size-small Bytes = lit< tt

pub plain-product : (q : Gf) (x : ℕ) → bit_and x (size (field_of q) - 1) ≡ mul (field_of q) 1 x
unfolding size
plain-product q x = and_mask x (field_of q).width ∙ sym (one-low (field_of q) (our-field q).one-lt x)

module _ (F : Field) (w : ℕ) (row total₀ : List ℕ) (same : length row ≡ length total₀) where
  abbrev added : List ℕ
  added = plus total₀ (map (mul F w) row)

  pub added-length : length added ≡ length total₀
  added-length = plus-length total₀ _ (sym (length-map row _ ∙ same)) ∙ length-map row _ ∙ same

  pub added-starts : Copying total₀ added total₀ 0
  added-starts = copying-starts total₀ added (le_of_eq (sym added-length))

  module _ {total : List ℕ} {c : ℕ} (s : Copying total₀ added total c) where
    read : (l : List ℕ) → get_or l c 0 ≡ get_or (drop (0 + c) l) 0 0
    read l = sym (get_or-drop (0 + c) l 0 0 ∙ ap (λ k. get_or l k 0) (add-zero (0 + c) ∙ zero-add c))

    -- column c is as it was
    unadded : get_or total c 0 ≡ get_or total₀ c 0
    unadded =
        read total
        ∙ ap (λ l. get_or l 0 0) (ap (drop (0 + c)) s.copied ∙ drop-paste total₀ 0 added c (omega arith) (omega (arith, s.within, added-length)))
        ∙ sym (read total₀)

    pub added-turns : IsField F → c < length total₀ → {p : ℕ} → p ≡ mul F w (get_or row c 0)
        → Copying total₀ added (set total c (get_or total c 0 ⊕ p)) (c + 1)
    added-turns K more e =
        let at : get_or (map (mul F w) row) c 0 ≡ mul F w (get_or row c 0) =
        subst (λ z. get_or (map (mul F w) row) c z ≡ mul F w (get_or row c 0)) (mul-zero F K w) (get_or-map (mul F w) row c 0) in
        subst (λ x. Copying total₀ added (set total c x) (c + 1)) (plus-at total₀ _ c ∙ ap₂ ◌⊕◌ (sym unadded) (at ∙ sym e))
        (copying-turns total₀ added (le_of_eq (sym added-length)) s more)

    pub added-ends : length total₀ ≤ c → total ≡ added
    added-ends all = copying-ends total₀ added (le_of_eq (sym added-length)) s all ∙ take_all (length total₀) added (le_of_eq added-length)

-- ---- the rows one after the other

-- the rows before r are added: those from r on make the total whole
pub record Adding (F : Field) (weights symbols total₀ total : List ℕ) (r : ℕ) : Type 0 where
  pub long : length total ≡ length total₀
  pub left : let n = length total₀ in with_rows F (drop r weights) n (drop (r * n) symbols) total ≡ with_rows F weights n symbols total₀

module _ (F : Field) (weights symbols total₀ : List ℕ) where
  pub adding-starts : Adding F weights symbols total₀ total₀ 0
  adding-starts = record { long = refl; left = ap (λ k. with_rows F weights (length total₀) (drop k symbols) total₀) (zero-mul (length total₀)) }

  module _ {total : List ℕ} {r : ℕ} (more : r < length weights) (s : Adding F weights symbols total₀ total r) where
    abbrev n : ℕ
    n = length total₀

    behind : drop ((r + 1) * n) symbols ≡ drop n (drop (r * n) symbols)
    behind = ap (λ k. drop (k * n) symbols) (add-one r) ∙ ap (λ k. drop k symbols) (suc-mul r n) ∙ sym (drop-drop n (r * n) symbols)

    pub adding-turns : {w : ℕ} {new : List ℕ} → r * n + n ≤ length symbols → w ≡ get_or weights r 0
        → new ≡ plus total (map (mul F w) (part (r * n) n symbols)) → Adding F weights symbols total₀ new (r + 1)
    unfolding with_rows
    adding-turns {w} {new} inside weighs e =
        let row : length (part (r * n) n symbols) ≡ length total = part_length (r * n) n symbols inside ∙ sym s.long in
        record {
          long = ap length e ∙ added-length F w (part (r * n) n symbols) total row ∙ s.long;
          left =
              ap₂ (λ k l. with_rows F (drop k weights) n l new) (add-one r) behind
              ∙ ap (with_rows F (drop (suc r) weights) n (drop n (drop (r * n) symbols)))
              (e ∙ ap₂ (λ w row. plus total (map (mul F w) row)) weighs (part_of (r * n) n symbols))
              ∙ ap (λ ws. with_rows F ws n (drop (r * n) symbols) total) (sym (drop-cons weights r 0 more))
              ∙ s.left;
        }

  pub adding-ends : {total : List ℕ} {r : ℕ} → length weights ≤ r → Adding F weights symbols total₀ total r
      → total ≡ with_rows F weights (length total₀) symbols total₀
  unfolding with_rows
  adding-ends {total} {r} all s =
      ap (λ ws. with_rows F ws (length total₀) (drop (r * length total₀) symbols) total) (sym (drop_of_length-le weights all)) ∙ s.left

-- ---- its sums

module _ (F : Field) (K : IsField F) where
  -- the sum of a row that is multiplied by its weight
  pub dot-times : (c : List ℕ) (w : ℕ) (row : List ℕ) → dot F c (map (mul F w) row) ≡ mul F w (dot F c row)
  dot-times c w row = dot-comm F c (map (mul F w) row) ∙ dot-scaled F K w row c ∙ ap (mul F w) (dot-comm F row c)

  -- with each row its sum is added, times its weight
  dot-with : (c ws : List ℕ) (m n : ℕ) (symbols total : List ℕ) → length ws ≤ m
      → dot F c (with_rows F ws n symbols total) ≡ dot F c total ⊕ dot F ws (map (dot F c) (rows_of m n symbols))
  unfolding with_rows rows_of dot
  dot-with c [] m n symbols total few = sym (⊕-zero (dot F c total))
  dot-with c (w ∷ ws) zero n symbols total few = absurd (omega arith)
  dot-with c (w ∷ ws) (suc m) n symbols total few =
      let row : List ℕ = take n symbols in
      dot-with c ws m n (drop n symbols) (plus total (map (mul F w) row)) (omega arith)
      ∙ ap (λ x. x ⊕ dot F ws (map (dot F c) (rows_of m n (drop n symbols))))
      (dot-plus F c total (map (mul F w) row) ∙ ap (λ x. dot F c total ⊕ x) (dot-times c w row))
      ∙ ⊕-assoc (dot F c total) (mul F w (dot F c row)) _

  -- the total's sum under a check is the weighted total of the rows' sums under it
  pub dot-total : (c ws : List ℕ) (m n : ℕ) (symbols : List ℕ) → length ws ≤ m
      → dot F c (total_row F ws n symbols) ≡ dot F ws (map (dot F c) (rows_of m n symbols))
  unfolding total_row
  dot-total c ws m n symbols few =
      dot-with c ws m n symbols (replicate n 0) few
      ∙ ap (λ x. x ⊕ dot F ws (map (dot F c) (rows_of m n symbols))) (dot-comm F c (replicate n 0) ∙ dot-zeros F K n c)
      ∙ zero-⊕ (dot F ws (map (dot F c) (rows_of m n symbols)))

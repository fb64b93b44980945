-- Products and inverses in GF(256) by the tables: exponents of a = 2 add, and a ^ 255 is 1. Assumes nothing.
use mathlib.Core.Path.{◌≡◌, refl, sym, ap, ap₂, ◌∙◌}
use mathlib.Core.Logic.{◌≢◌}
use mathlib.Core.List.{List}
use Prim.Native.Nat.{ℕ, zero, suc, ◌+◌, ◌-◌, ◌<◌}
use native.Mathlib.Nat.{zero-add}
use native.Mathlib.Omega.{arith}
use lib.Dec.{T, eqb, eqb→eq, lit<}
use lib.ListN.{length, length-map, get_or}
use lib.Seq.{ext_get_or}
use Rattle.field.specs.Lists.{up_from, place_from}
use Rattle.field.specs.Field.{size, mul, squares, inverse, gf256}
use Rattle.field.specs.Power.{power, orbit}
use Rattle.field.specs.Ours.{powers, logarithms}
use Rattle.field.proofs.Test.{below, at}
use Rattle.field.proofs.Lists.{length_up, get_or-map-below, place-lt}
use Rattle.field.proofs.Exponents.{length-orbit, orbit-at}
use Rattle.field.proofs.Laws.{among, powers_in, place-power, zero-mul, mul-one}
use Rattle.field.proofs.Fields.{powers-256, period-256, gf256-field}
use Rattle.field.proofs.Powers.{power-lt, power-add}

power_at : (i : ℕ) → i < 510 → get_or powers i 0 ≡ power gf256 2 i
unfolding powers power
power_at i l = orbit-at gf256 2 0 510 i l ∙ ap (power gf256 2) (zero-add i)

-- what stands at a byte's entry, as it is computed
abbrev logarithm : ℕ → ℕ
logarithm = place_from 0 (orbit gf256 2 1 255)

length-logarithms : length logarithms ≡ 256
unfolding logarithms
length-logarithms = length-map (up_from 0 256) logarithm ∙ length_up 0 256

logarithm-at : (x : ℕ) → x < 256 → get_or logarithms x 0 ≡ logarithm x
unfolding logarithms
logarithm-at x l = get_or-map-below logarithm 256 x 0 l

logarithm-lt : (x : ℕ) → x < 256 → get_or logarithms x 0 < 255
logarithm-lt x l =
    rw (logarithm-at x l) (place-lt 0 (orbit gf256 2 1 255) x 255 (lit< tt) (omega (arith, length-orbit gf256 2 1 255)))

-- in a table of them
pub below_order : (t : List ℕ) (x : ℕ) → t ≡ logarithms → x < 256 → get_or t x 0 < 255
below_order t x e l = rw e (logarithm-lt x l)

-- the test of a table of them, entry by entry
pub are-logarithms : (l : List ℕ) → length l ≡ 256 → T (below 256 (λ x. eqb (get_or l x 0) (logarithm x))) → l ≡ logarithms
unfolding logarithms
are-logarithms l long test =
    ext_get_or 0 l logarithms (long ∙ sym length-logarithms)
    (λ x h. eqb→eq _ _ (at 256 (λ x. eqb (get_or l x 0) (logarithm x)) test x (omega arith)) ∙ sym (logarithm-at x (omega arith)))

-- a to the power of a byte's logarithm is the byte
logarithm-names : (x : ℕ) → x < 256 → x ≢ 0 → power gf256 2 (get_or logarithms x 0) ≡ x
unfolding size gf256
logarithm-names zero l ne = absurd (ne refl)
logarithm-names (suc k) l ne =
    ap (power gf256 2) (logarithm-at (suc k) l) ∙ place-power gf256 (lit< tt) 2 k (at 255 (among (powers_in gf256 2)) powers-256 k (omega arith))

inverse-lt : (x : ℕ) → inverse gf256 x < size gf256
unfolding inverse squares gf256
inverse-lt x = gf256-field.product_lt _ _

-- what inverts an element is its inverse
only-inverse : (x y : ℕ) → x < size gf256 → x ≢ 0 → y < size gf256 → mul gf256 x y ≡ 1 → y ≡ inverse gf256 x
only-inverse x y hx ne hy e =
    sym (mul-one gf256 gf256-field y hy) ∙ ap (mul gf256 y) (sym (gf256-field.inverts x hx ne)) ∙ sym (gf256-field.assoc y x (inverse gf256 x))
    ∙ ap (λ z. mul gf256 z (inverse gf256 x)) (gf256-field.comm y x ∙ e) ∙ gf256-field.unit (inverse gf256 x) (inverse-lt x)

-- ---- 0, which has no logarithm

pub zero-product : (x y : ℕ) → x ≡ 0 → 0 ≡ mul gf256 x y
zero-product x y e = sym (ap (λ z. mul gf256 z y) e ∙ zero-mul gf256 gf256-field y)

pub product-zero : (x y : ℕ) → y ≡ 0 → 0 ≡ mul gf256 x y
product-zero x y e = zero-product y x e ∙ gf256-field.comm y x

pub zero-inverse : (x : ℕ) → x ≡ 0 → 0 ≡ inverse gf256 x
unfolding inverse squares gf256
zero-inverse x e = zero-product (mul gf256 x x) _ (sym (zero-product x x e))

-- ---- the others, by the tables

pub product_at : {p l m : List ℕ} (x y : ℕ) → p ≡ powers → l ≡ logarithms → m ≡ logarithms → x < 256 → y < 256 → x ≢ 0 → y ≢ 0
    → get_or p (get_or l x 0 + get_or m y 0) 0 ≡ mul gf256 x y
product_at x y ep el em hx hy nx ny =
    rw (ep, el, em)
    (power_at _ (omega (arith, logarithm-lt x hx, logarithm-lt y hy)) ∙ power-add gf256 gf256-field 2 _ _
    ∙ ap₂ (mul gf256) (logarithm-names x hx nx) (logarithm-names y hy ny))

-- what stands at 255 less the logarithm inverts x, and only one element does
pub inverse-at : (x : ℕ) → x < 256 → x ≢ 0 → get_or powers (255 - get_or logarithms x 0) 0 ≡ inverse gf256 x
unfolding size gf256
inverse-at x hx nx =
    let k = get_or logarithms x 0 in
    let around : k + (255 - k) ≡ 255 = omega (arith, logarithm-lt x hx) in
    power_at (255 - k) (omega arith)
    ∙ only-inverse x (power gf256 2 (255 - k)) hx nx (power-lt gf256 gf256-field 2 _)
    (ap (λ z. mul gf256 z (power gf256 2 (255 - k))) (sym (logarithm-names x hx nx)) ∙ sym (power-add gf256 gf256-field 2 k (255 - k))
    ∙ ap (power gf256 2) around ∙ period-256)

-- There is room for each symbol, and behind all of them for the line feed. Assumes nothing.
use mathlib.Core.Bool.{Bool}
use mathlib.Core.List.{List}
use mathlib.Core.Path.{◌≡◌, refl, sym, ap, ◌∙◌, subst}
use Prim.Native.Nat.{ℕ, ◌*◌, ◌<◌, ◌≤◌}
use native.Mathlib.Nat.{suc-mul}
use native.Mathlib.Numerals.{add-one}
use native.Mathlib.Omega.{arith}
use lib.ListN.{length, get_or}
use lib.Seq.{take_all}
use Rattle.field.specs.Lists.{up_from}
use Rattle.field.proofs.Lists.{length_up}
use Rattle.plans.proofs.Rows.{row-end}
use Rattle.words.specs.Written.{Put}
use Rattle.words.proofs.Writing.{Joining, joining-starts, joining-length, counting-turns, counting-ends, put_then, put_is}
use Rattle.texts.specs.Text.{line_end, symbol_text}
use Rattle.texts.proofs.Texts.{row-shown, length-symbol}
use Rattle.texts.proofs.Text.put_line.Goals as goal

-- what the loop reads is the row: its places, and the symbols that were put
module _ (row : List ℕ) {read : List ℕ} where
  below : {i : ℕ} → i < length read → read ≡ row → i < length row
  below {i} h e = subst (λ l. i < length l) e h

  of_row : (n : ℕ) (m : Bool) (i : ℕ) {out new : List ℕ} {at next : ℕ} → Put out at (symbol_text n m (get_or read i 0)) next new → read ≡ row
      → Put out at (symbol_text n m (get_or row i 0)) next new
  of_row n m i p e = put_is (ap (λ l. symbol_text n m (get_or l i 0)) (sym e)) p

  all_read : {f : ℕ → List ℕ} {old out : List ℕ} {at next i : ℕ} → length read ≤ i → Joining f old at (up_from 0 (length row)) i out next → read ≡ row
      → i ≡ length row
  all_read h j e = omega (arith, h, ap length e, j.within, length_up 0 (length row))

pub loop-column-init : goal.loop-column-init
loop-column-init c = (refl, omega arith, joining-starts _ _ _ _)

pub put_symbol-requires : goal.put_symbol-requires
put_symbol-requires c =
    let row = c.args.row.now in
    let l = c.loop-column in
    let inside = below row c.loop-column-test.true (grind (arith, take_all)) in
    record {
      digits = c.requires.digits;
      room = omega (arith, c.requires.room, l.invariant.1, joining-length _ _ _ _ l.invariant.2, row-end c.args.digits inside);
    }

pub loop-column-preserved : goal.loop-column-preserved
loop-column-preserved c =
    let a = c.args in
    let row = a.row.now in
    let l = c.loop-column in
    let inside = below row c.loop-column-test.true (grind (arith, take_all)) in
    let put = of_row row a.digits c.is_marked-marked.result l.column c.put_symbol.ensures.written (grind (arith, take_all)) in (
      c.put_symbol.ensures.same_buffer ∙ l.invariant.0,
      omega (arith, put.reached, length-symbol a.digits c.is_marked-marked.result (get_or row l.column 0), l.invariant.1, ap (λ k. k * a.digits) (add-one l.column), suc-mul l.column a.digits),
      counting-turns _ _ _ _ l.invariant.2 inside (ap (λ m. symbol_text a.digits m (get_or row l.column 0)) c.is_marked-marked.ensures) put.written put.reached,
    )

pub push-requires : goal.push-requires
push-requires c =
    let a = c.args in
    let l = c.loop-column in
    let all = all_read a.row.now c.loop-column-test.false l.invariant.2 (grind (arith, take_all)) in
    omega (arith, c.requires.room, l.invariant.1, joining-length _ _ _ _ l.invariant.2, ap (λ k. k * a.digits) all)

pub returns-clause-same_buffer : goal.returns-clause-same_buffer
returns-clause-same_buffer c = c.push.ensures.same_buffer ∙ c.loop-column.invariant.0

pub returns-clause-written : goal.returns-clause-written
unfolding line_end
returns-clause-written c =
    let a = c.args in
    let row = a.row.now in
    let l = c.loop-column in
    let all = all_read row c.loop-column-test.false l.invariant.2 (grind (arith, take_all)) in
    let symbols = counting-ends _ _ _ _ l.invariant.2 (omega (arith, all)) (omega (arith, c.requires.room, l.invariant.1, ap (λ k. k * a.digits) all)) in
    put_then (put_is (row-shown a.digits a.word row) symbols) c.push.ensures.written

-- The second demand on encoding and extraction. Assumes nothing.
use mathlib.Core.Path.{◌≡◌, refl, sym, ap, ◌∙◌}
use mathlib.Core.Logic.{◌⊎◌, inl, inr}
use mathlib.Core.Bool.{Bool, ◌&&◌}
use mathlib.Core.List.{List}
use Prim.Native.Nat.{ℕ, zero, suc, ◌*◌, ◌^◌, ◌<◌}
use native.Mathlib.Nat.{eq-or-lt_of_le}
use native.Mathlib.Omega.{arith}
use lib.Dec.{T, T_not, leb, leb→le, nleb→lt, eqb, ltb, eqb→eq, ltb→lt, lt→ltb}
use lib.ListN.{length, drop, get_or}
use Rattle.field.specs.Field.{size}
use Rattle.field.proofs.Test.{both_left, both, at}
use Rattle.field.proofs.Ring.{size-pos}
use Rattle.fills.specs.Lists.{all}
use Rattle.fills.proofs.Tests.{either}
use Rattle.fills.proofs.Filling.{independent-inside}
use Rattle.fills.proofs.Choices.{alike_at}
use Rattle.plans.specs.Plan.{Plan, known, plan_of, level_of, row_at, marks_at, marks_of, check_places_of, carried}
use Rattle.steps.specs.Steps.{lossy}
use Rattle.plans.specs.Refusal.{stripe_fits, all_below}
use Rattle.encoding.specs.Data.{placed, encode_refusal, extracted, extract_refusal, extract_data}
use Rattle.repair.specs.Encoding.{encoded, encode_stripe}
use Rattle.steps.proofs.Fit.{eq→eqb, if-true, all_take, all_drop, fit-lent}
use Rattle.field.proofs.Words.{◌&◌}
use Rattle.plans.proofs.Refusals.{all-passed, none-refused, unmarked-below}
use Rattle.encoding.proofs.Placing.{rows-length}
use Rattle.encoding.proofs.Carrying.{words_count}
use Rattle.encoding.proofs.Data.{placed-length, placed-all, taken-length, taken-all, taken-placed, alike-taken, taken-alike}
use Rattle.demands.specs.Words.{Codeword, Agree, Fit}
use Rattle.demands.specs.Second.{IsEncoded, EncodingMeans, ExtractionMeans, CodewordsAreEncodings}
use Rattle.demands.proofs.Alike.{at-alike, inside-refl}
use Rattle.demands.proofs.Held.{row_tied, level_tied, LevelFree}
use Rattle.demands.proofs.Order.{lossy-inside, row-free-more}
use Rattle.demands.proofs.Second.{restores}
use Rattle.demands.proofs.Counts.{Clears}
use Rattle.demands.proofs.Few.{backed, mend_level, pending, row-square, level-square, mend-level-bounds}
use Rattle.demands.proofs.Build.{codeword-holds}

-- ---- the check places

places_count : (P : Plan) → length (check_places_of P) ≡ P.rows * P.columns
unfolding marks_of check_places_of
places_count P = rows-length P P.check_places P.rows

-- a row is filled at its level, so the rows still marked are those whose weights are independent at the next
places-clear : (p : ℕ) → T (known p) → Clears p (plan_of p).check_places
unfolding marks_at lossy
places-clear p kn t M pos le rows level =
    elim (eq-or-lt_of_le le) [ inl e ↦ at_top e | inr low ↦ absurd (T_not (level_tied p t M) (free t pos low waits) (level low)) ]
  where
    waits : (r : ℕ) → r < (plan_of p).rows → (get_or M r 0 ≡ 0) ⊎ T (ltb t (mend_level p kn r))
    waits r h =
        elim (rows r h) [
          | inl z ↦ inl z
          | inr s ↦ elim (either (leb (mend_level p kn r) t)) [
            | inl l ↦
                absurd (T_not (row_tied p t M r)
                (row-free-more p (mend_level p kn r) t M (plan_of p).check_places r (leb→le (mend_level p kn r) t l)
                (rw s.0 (inside-refl (marks_at (plan_of p) (plan_of p).check_places r))) (row-square p kn r h).independent) s.1)
            | inr l ↦ inr (lt→ltb t (mend_level p kn r) (nleb→lt (mend_level p kn r) t l))
          ]
        ]

    at_top : t ≡ length (plan_of p).levels → (r : ℕ) → r < (plan_of p).rows → get_or M r 0 ≡ 0
    at_top e r h = elim (waits r h) [ inl z ↦ z | inr l ↦ absurd (omega (arith, ltb→lt t (mend_level p kn r) l, (mend-level-bounds p kn r h).1)) ]

    free : (t : ℕ) → 0 < t → t < length (plan_of p).levels → ((r : ℕ) → r < (plan_of p).rows → (get_or M r 0 ≡ 0) ⊎ T (ltb t (mend_level p kn r)))
        → LevelFree p t M
    free zero pos low waits = absurd (omega arith)
    free (suc i) pos low waits =
        independent-inside (plan_of p).field (level_of (plan_of p) (suc (suc i))).weights (lossy (plan_of p) M) (pending p kn (suc i))
        (lossy-inside M (λ r. ltb (suc i) (mend_level p kn r)) 0 (plan_of p).rows (λ r l. waits r (omega arith)))
        (level-square p kn i low).independent

-- ---- data of the right number and symbols

module _ (p : ℕ) (kn : T (known p)) (ds : List ℕ) (count : length ds ≡ carried (plan_of p)) (symbols : T (all_below (size (plan_of p).field) ds)) where
  abbrev P : Plan
  P = plan_of p

  abbrev D : List ℕ
  D = placed (check_places_of P) ds

  long : length D ≡ P.rows * P.columns
  long = placed-length (check_places_of P) ds ∙ places_count P

  fit : Fit p D P.check_places
  unfolding row_at all_below
  fit = fit-lent p D P.check_places record {
    plan-known = kn;
    long = long;
    words = words_count p;
    mark-lt = λ r h.
        ltb→lt (get_or P.check_places r 0) (2 ^ P.columns)
        (at P.rows (λ r. ltb (get_or P.check_places r 0) (2 ^ P.columns)) (backed p kn).tested.places-low r h);
    row_fits = λ r h.
        unmarked-below P.field (marks_at P P.check_places r) (row_at P D r)
        (all_take (λ x. ltb x (size P.field)) P.columns (drop (r * P.columns) D)
        (all_drop (λ x. ltb x (size P.field)) (r * P.columns) D
        (placed-all (λ x. ltb x (size P.field)) (lt→ltb 0 (size P.field) (size-pos P.field)) (check_places_of P) ds symbols)));
  }

  -- a stripe holds the data exactly if it agrees with D outside the check places
  data-agrees : (X : List ℕ) → extracted P X ≡ ds → Agree p P.check_places X D
  unfolding carried extracted check_places_of
  data-agrees X e =
      alike_at (check_places_of P) X D (taken-alike (check_places_of P) X D (e ∙ sym (taken-placed (check_places_of P) ds count)))

  agrees-data : (X : List ℕ) → Agree p P.check_places X D → extracted P X ≡ ds
  unfolding carried extracted check_places_of
  agrees-data X a =
      alike-taken (check_places_of P) X D (at-alike (check_places_of P) X D a) ∙ taken-placed (check_places_of P) ds count

  -- mending D gives the codeword that holds the data
  pub encodes : (X : List ℕ) → Codeword p X → extracted P X ≡ ds → encoded p ds ≡ X
  unfolding encoded
  encodes X word e = (restores p X D P.check_places word fit (data-agrees X e) (places-clear p kn)).1

  pub is-encoded : IsEncoded p ds (encoded p ds)
  is-encoded =
      let h = codeword-holds p D fit in
      let holds = agrees-data h.0 h.2 in
      let same : encoded p ds ≡ h.0 = encodes h.0 h.1 holds in
      record { codeword = rw same h.1; holds = rw same holds; only = λ X word e. sym (encodes X word e) }

-- ---- what is not refused

module _ (p : ℕ) (ds stripe : List ℕ) where
  abbrev lengths : Bool
  lengths = eqb (length ds) (carried (plan_of p)) && stripe_fits (plan_of p) stripe

  encode-passed : encode_refusal p ds stripe ≡ 0 → T (known p) × T lengths × T (all_below (size (plan_of p).field) ds)
  unfolding all encode_refusal
  encode-passed e = let h = all-passed _ tt e in (h.0, h.1.0, h.1.1.0)

  encode-passes : T (known p) → length ds ≡ carried (plan_of p) → length stripe ≡ (plan_of p).rows * (plan_of p).columns
      → T (all_below (size (plan_of p).field) ds) → encode_refusal p ds stripe ≡ 0
  unfolding stripe_fits encode_refusal
  encode-passes kn count long symbols =
      none-refused _
      (kn
      & both (eqb (length ds) (carried (plan_of p))) (stripe_fits (plan_of p) stripe) (eq→eqb (length ds) (carried (plan_of p)) count)
      (eq→eqb (length stripe) ((plan_of p).rows * (plan_of p).columns) long)
      & symbols & tt)

  encodes-by : encode_refusal p ds stripe ≡ 0 → encode_stripe p ds stripe ≡ encoded p ds
  unfolding encode_stripe
  encodes-by e = if-true (eqb (encode_refusal p ds stripe) 0) (encoded p ds) stripe (rw e tt)

pub encoding-means : EncodingMeans
encoding-means p ds stripe e =
    let h = encode-passed p ds stripe e in
    rw (encodes-by p ds stripe e)
    (is-encoded p h.0 ds
    (eqb→eq (length ds) (carried (plan_of p)) (both_left (eqb (length ds) (carried (plan_of p))) (stripe_fits (plan_of p) stripe) h.1))
    h.2)

-- extraction accepts a codeword, and gives what stands at its data places
module _ (p : ℕ) (X buffer : List ℕ) (kn : T (known p)) (word : Codeword p X) (count : length buffer ≡ carried (plan_of p)) where
  accepts : extract_refusal p X buffer ≡ 0
  unfolding stripe_fits extract_refusal
  accepts =
      let P = plan_of p in
      none-refused _
      (kn
      & both (stripe_fits P X) (eqb (length buffer) (carried P)) (eq→eqb (length X) (P.rows * P.columns) word.long)
      (eq→eqb (length buffer) (carried P) count)
      & word.symbols & word.holds & tt)

  gives : extract_data p X buffer ≡ extracted (plan_of p) X
  unfolding extract_data
  gives = if-true (eqb (extract_refusal p X buffer) 0) (extracted (plan_of p) X) buffer (rw accepts tt)

pub extraction-means : ExtractionMeans
extraction-means p ds stripe buffer e count =
    let kn = (encode-passed p ds stripe e).0 in
    let X = encode_stripe p ds stripe in
    let h = encoding-means p ds stripe e in
    (accepts p X buffer kn h.codeword count, gives p X buffer kn h.codeword count ∙ h.holds)

pub codewords-are-encodings : CodewordsAreEncodings
unfolding all_below carried extracted
codewords-are-encodings p X buffer stripe kn word count long =
    let P = plan_of p in
    let ds = extracted P X in
    let given = gives p X buffer kn word count in
    let enough : length ds ≡ carried P = taken-length (check_places_of P) X in
    let symbols : T (all_below (size P.field) ds) = taken-all (λ x. ltb x (size P.field)) (lt→ltb 0 (size P.field) (size-pos P.field)) (check_places_of P) X word.symbols in
    let accepted = encode-passes p ds stripe kn enough long symbols in
    record {
      extracts = accepts p X buffer kn word count;
      encodes = rw given accepted;
      same = ap (λ ds. encode_stripe p ds stripe) given ∙ encodes-by p ds stripe accepted ∙ encodes p kn ds enough symbols X word refl;
    }

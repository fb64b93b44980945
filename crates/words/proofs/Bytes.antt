-- Words of n bytes: written and read they are the same, and so are bytes read and written. Assumes nothing.
use mathlib.Core.Path.{◌≡◌, refl, sym, ap, ap₂, ◌∙◌, subst}
use mathlib.Core.List.{List, [], ◌∷◌, ◌++◌, map, flat_map, append-nil, append_assoc}
use Prim.Native.Nat.{ℕ, zero, suc, ◌+◌, ◌-◌, ◌*◌, ◌/◌, ◌%◌, ◌^◌, ◌≤◌, ◌<◌}
use native.Mathlib.Nat.{add-suc, add_comm, mul-zero, mul-suc, mul-le-mul_left, div-one, div-div-eq-div-mul, div-lt_iff_lt-mul, pow-suc, pow-succ', zero-lt-suc, not-suc-le-zero, le_of_suc-le-suc, le_of_eq, le_trans}
use native.Mathlib.Numerals.{add-one}
use native.Mathlib.Omega.{arith}
use mir.Syntax.{w8}
use mir.Val.{Fits}
use lib.ListN.{length, get_or, take, drop, length-map, length-append, length-take, get_or-append, take-append-drop}
use lib.Pow.{pow-add, pow_mono}
use lib.Seq.{get_or-append-add, get_or-append_seam, drop-cons, take-add, drop-drop}
use Rattle.field.specs.Lists.{up_from}
use Rattle.field.proofs.Lists.{length_up, get_or-map-below}
use Rattle.field.proofs.Words.{EachBelow, each_at}
use Rattle.words.proofs.Stores.{part_length}
use Rattle.words.specs.Words.{byte_range, word_bits, bytes_of, number_at, words_at}

-- ---- a number's bytes

-- n bytes have eight bits each
pub byte_power : (n : ℕ) → byte_range ^ n ≡ 2 ^ (8 * n)
byte_power zero = refl
byte_power (suc n) =
    pow-suc byte_range n ∙ ap (λ m. m * byte_range) (byte_power n) ∙ sym (pow-add 2 (8 * n) 8) ∙ ap (λ k. 2 ^ k) (sym (mul-suc 8 n))

pub length-bytes-of : (n x : ℕ) → length (bytes_of n x) ≡ n
unfolding bytes_of
length-bytes-of zero x = refl
length-bytes-of (suc n) x = ap suc (length-bytes-of n (x / byte_range))

pub get_or-bytes-of : (n x i : ℕ) → i < n → get_or (bytes_of n x) i 0 ≡ x / byte_range ^ i % byte_range
unfolding bytes_of
get_or-bytes-of zero x i h = absurd (not-suc-le-zero h)
get_or-bytes-of (suc n) x zero h = ap (λ q. q % byte_range) (sym (div-one x))
get_or-bytes-of (suc n) x (suc i) h =
    get_or-bytes-of n (x / byte_range) i (le_of_suc-le-suc h)
    ∙ ap (λ q. q % byte_range) (div-div-eq-div-mul x byte_range (byte_range ^ i) ∙ ap (λ m. x / m) (sym (pow-succ' byte_range i)))

-- what is left behind the i low bytes, and behind one more
pub shorter : (x i : ℕ) → x / byte_range ^ i / byte_range ≡ x / byte_range ^ (i + 1)
shorter x i = div-div-eq-div-mul x (byte_range ^ i) byte_range ∙ ap (λ m. x / m) (sym (pow-suc byte_range i)) ∙ ap (λ k. x / byte_range ^ k) (sym (add-one i))

-- ---- words that are written

-- a word among k of n bytes each
pub word-inside : (n r k : ℕ) → r < k → n * r + n ≤ n * k
word-inside n r k h = subst (λ m. m ≤ n * k) (mul-suc n r) (mul-le-mul_left n h)

pub length-bytes : (n : ℕ) (ws : List ℕ) → length (flat_map (bytes_of n) ws) ≡ n * length ws
unfolding flat_map
length-bytes n [] = sym (mul-zero n)
length-bytes n (w ∷ ws) =
    length-append (bytes_of n w) (flat_map (bytes_of n) ws) ∙ ap₂ ◌+◌ (length-bytes-of n w) (length-bytes n ws)
    ∙ add_comm n (n * length ws) ∙ sym (mul-suc n (length ws))

-- a word behind something else
pub word-behind : (n : ℕ) (a l : List ℕ) (i : ℕ) → number_at n (a ++ l) (length a + i) ≡ number_at n l i
unfolding number_at
word-behind zero a l i = refl
word-behind (suc n) a l i =
    ap₂ (λ b m. b + byte_range * m) (get_or-append-add a l i 0) (ap (number_at n (a ++ l)) (sym (add-suc (length a) i)) ∙ word-behind n a l (suc i))

-- a word that is read for itself
word-front : (n : ℕ) (a b : List ℕ) (i : ℕ) → i + n ≤ length a → number_at n (a ++ b) i ≡ number_at n a i
unfolding number_at
word-front zero a b i h = refl
word-front (suc n) a b i h = ap₂ (λ x m. x + byte_range * m) (get_or-append a b 0 i (omega arith)) (word-front n a b (suc i) (omega arith))

pub word-of-part : (i n : ℕ) (l : List ℕ) → i + n ≤ length l → number_at (length (take (i + n - i) (drop i l))) (take (i + n - i) (drop i l)) 0 ≡ number_at n l i
word-of-part i n l h =
    let part = take (i + n - i) (drop i l) in
    let rest = drop (i + n - i) (drop i l) in
    let long : length part ≡ n = part_length i n l h in
    let front : length (take i l) + 0 ≡ i = simp length-take (omega arith) in
    ap (λ k. number_at k part 0) long ∙ sym (word-front n part rest 0 (omega arith)) ∙ sym (word-behind n (take i l) (part ++ rest) 0)
    ∙ ap₂ (number_at n) (ap (λ k. take i l ++ k) (take-append-drop (i + n - i) (drop i l)) ∙ take-append-drop i l) front

bytes_word : (n x : ℕ) (l : List ℕ) → x < byte_range ^ n → number_at n (bytes_of n x ++ l) 0 ≡ x
unfolding bytes_of number_at
bytes_word zero x l h = omega arith
bytes_word (suc n) x l h =
    ap (λ m. x % byte_range + byte_range * m)
    (word-behind n (x % byte_range ∷ []) (bytes_of n (x / byte_range) ++ l) 0
    ∙ bytes_word n (x / byte_range) l ((div-lt_iff_lt-mul (zero-lt-suc 255)).1 (subst (λ y. x < y) (pow-suc byte_range n) h)))
    ∙ omega arith

-- the words' bytes hold the words
pub words-bytes : (n : ℕ) (ws l : List ℕ) (r : ℕ) → r < length ws → get_or ws r 0 < byte_range ^ n
    → number_at n (flat_map (bytes_of n) ws ++ l) (n * r) ≡ get_or ws r 0
unfolding flat_map
words-bytes n [] l r h small = absurd (not-suc-le-zero h)
words-bytes n (w ∷ ws) l zero h small =
    ap₂ (number_at n) (append_assoc (bytes_of n w) (flat_map (bytes_of n) ws) l) (mul-zero n) ∙ bytes_word n w (flat_map (bytes_of n) ws ++ l) small
words-bytes n (w ∷ ws) l (suc r) h small =
    ap₂ (number_at n) (append_assoc (bytes_of n w) (flat_map (bytes_of n) ws) l) next ∙ word-behind n (bytes_of n w) (flat_map (bytes_of n) ws ++ l) (n * r)
    ∙ words-bytes n ws l r (le_of_suc-le-suc h) small
  where
    next : n * suc r ≡ length (bytes_of n w) + n * r
    next = omega (arith, mul-suc n r, length-bytes-of n w)

-- ---- words that are read

module _ (n : ℕ) (bytes : List ℕ) (at k : ℕ) where
  pub length-words-at : length (words_at n bytes at k) ≡ k
  length-words-at = length-map (up_from 0 k) _ ∙ length_up 0 k

  pub get_or-words-at : (r : ℕ) → r < k → get_or (words_at n bytes at k) r 0 ≡ number_at n bytes (at + n * r)
  get_or-words-at r h = get_or-map-below (λ r. number_at n bytes (at + n * r)) k r 0 h

-- bytes are those of the words that they make
module _ (file : List ℕ) (bytes : EachBelow byte_range file) where
  -- the bytes at a place are those of the number there
  bytes-at : (n i : ℕ) → i + n ≤ length file → bytes_of n (number_at n file i) ≡ take n (drop i file)
  unfolding bytes_of number_at
  bytes-at zero i h = refl
  bytes-at (suc n) i h =
      ap₂ ◌∷◌ (low (get_or file i 0) (number_at n file (suc i)) small)
      (ap (bytes_of n) (high (get_or file i 0) (number_at n file (suc i)) small) ∙ bytes-at n (suc i) (omega arith))
      ∙ sym (ap (take (suc n)) (drop-cons file i 0 (omega arith)))
    where
      small : get_or file i 0 < byte_range
      small = each_at (λ x. x < byte_range) file bytes i (omega arith)

      low : (b m : ℕ) → b < byte_range → (b + byte_range * m) % byte_range ≡ b
      low b m h = omega arith

      high : (b m : ℕ) → b < byte_range → (b + byte_range * m) / byte_range ≡ m
      high b m h = omega arith

  words-from : (n at k m : ℕ) → at + n * k + n * m ≤ length file
      → flat_map (bytes_of n) (map (λ r. number_at n file (at + n * r)) (up_from k m)) ≡ take (n * m) (drop (at + n * k) file)
  unfolding flat_map up_from
  words-from n at k zero h = ap (λ i. take i (drop (at + n * k) file)) (sym (mul-zero n))
  words-from n at k (suc m) h =
      ap₂ ◌++◌ (bytes-at n (at + n * k) (omega (arith, h, more)))
      (words-from n at (suc k) m (omega (arith, h, more, next)) ∙ ap (λ i. take (n * m) (drop i file)) next
      ∙ ap (take (n * m)) (sym (drop-drop n (at + n * k) file)))
      ∙ sym (take-add n (n * m) (drop (at + n * k) file)) ∙ ap (λ i. take i (drop (at + n * k) file)) more
    where
      next : at + n * suc k ≡ at + n * k + n
      next = omega (arith, mul-suc n k)

      more : n + n * m ≡ n * suc m
      more = omega (arith, mul-suc n m)

  -- so are the bytes of words that were read
  pub words-at : (n at k : ℕ) → at + n * k ≤ length file → flat_map (bytes_of n) (words_at n file at k) ≡ take (n * k) (drop at file)
  words-at n at k h =
      let here : at + n * 0 ≡ at = omega (arith, mul-zero n) in
      words-from n at 0 k (omega (arith, here)) ∙ ap (λ i. take (n * k) (drop i file)) here

-- ---- a loop that reads a number, from its high byte down

-- behind the bytes that are left stand those that were read
pub record Reading (bytes left : List ℕ) (word : ℕ) : Type 0 where
  pub passed : List ℕ
  pub parts : bytes ≡ left ++ passed
  pub small : word < byte_range ^ length passed
  pub number : word ≡ number_at (length passed) passed 0

pub reading-starts : (bytes : List ℕ) → Reading bytes bytes 0
unfolding number_at
reading-starts bytes = record { passed = []; parts = sym (append-nil bytes); small = omega arith; number = refl }

module _ {bytes rest : List ℕ} {word : ℕ} (h : Reading bytes rest word) (left : List ℕ) (b : ℕ) (e : rest ≡ left ++ (b ∷ []))
    (bytes-fit : (i : ℕ) → Fits w8 (get_or bytes i 0)) where
  parted : bytes ≡ left ++ b ∷ h.passed
  parted = h.parts ∙ ap (λ l. l ++ h.passed) e ∙ append_assoc left (b ∷ []) h.passed

  byte : b < byte_range
  byte = rw (ap (λ l. get_or l (length left) 0) parted ∙ get_or-append_seam left b h.passed 0) at (bytes-fit (length left)).fits

  grown : word * byte_range + b < byte_range ^ suc (length h.passed)
  grown = omega (arith, pow-suc byte_range (length h.passed), h.small, byte)

  -- nothing is lost in a word of the code
  pub reading-fits : 8 * length bytes ≤ word_bits → word * byte_range + b < 2 ^ word_bits
  reading-fits few =
      let all = ap length parted ∙ length-append left (b ∷ h.passed) in
      let room : 8 * suc (length h.passed) ≤ word_bits = omega arith in
      le_trans grown (le_trans (le_of_eq (byte_power (suc (length h.passed)))) (pow_mono room))

  pub reading-turns : Reading bytes left (word * byte_range + b)
  unfolding number_at
  reading-turns = record {
    passed = b ∷ h.passed;
    parts = parted;
    small = grown;
    number =
        ap (λ m. m * byte_range + b) (h.number ∙ sym (word-behind (length h.passed) (b ∷ []) h.passed 0))
        ∙ turned (number_at (length h.passed) (b ∷ h.passed) 1);
  }
    where
      turned : (m : ℕ) → m * byte_range + b ≡ b + byte_range * m
      turned m = omega arith

pub reading-ends : {bytes : List ℕ} {word : ℕ} → Reading bytes [] word → word ≡ number_at (length bytes) bytes 0
reading-ends h = h.number ∙ ap (λ l. number_at (length l) l 0) (sym h.parts)

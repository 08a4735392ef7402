-- Numbers of so many bytes, the highest byte first.
use Rattle.std.proofs.Common.{◌≡◌, ◌<◌, ◌≤◌, ◌+◌, ◌*◌, ◌/◌, ◌%◌, ◌^◌, ◌∷◌, [], ℕ, zero, suc, Bool, true, false, List, length, refl, sym, ap, subst, ◌∙◌, div-one, arith}
use Rattle.std.specs.Prelude.{◌-◌, ◌&&◌, ◌||◌, ◌==◌, nat_lt, nat_le}
use Rattle.std.specs.Int.{byte_at, bytes_high_first}
use Rattle.std.specs.List.{AllByRecursion, list_any}
use Rattle.std.proofs.lemmas.Bool.{eq-eqb, eqb-true, lt-ltb, ltb-true, le-leb, leb-true}
use Rattle.std.proofs.Math.Nat.{div-div-eq-div-mul, div-mul-le_self, mul-le-mul_right, pow-suc}
use Rattle.std.proofs.lemmas.Nat.{div-mul-add, le-div, mod-mul-add}
use Rattle.px_pieces.specs.Pieces.{Piece, as_full, as_value, byte, byte_full}
use Rattle.px_pieces.specs.Chains.{chain, chain_cons, chain_first, chain_full, chain_long, chain_nil, chain_others}

-- the number of these bytes behind those of another number
abbrev pub number_on : ℕ → List ℕ → ℕ
number_on v [] = v
number_on v (b ∷ bytes) = number_on (256 * v + b) bytes

-- the byte is one, and the number so far may go on to one that is allowed, with so many bytes behind it
abbrev pub digit_ok : (ℕ → ℕ → Bool) → ℕ → ℕ → ℕ → Bool
digit_ok may left v b = nat_lt b 256 && may left (256 * v + b)

abbrev pub one_byte_more : ℕ → ℕ → ℕ
one_byte_more v b = 256 * v + b

-- bytes of a number that begins so
unfoldable pub digits : (ℕ → ℕ → Bool) → ℕ → ℕ → Piece (List ℕ)
digits may size v = chain 0 (λ left v. byte (digit_ok may left v)) one_byte_more size v

and_true : (a b : Bool) → (a && b) ≡ true → (a ≡ true) × (b ≡ true)
and_true true b is = (refl, is)
and_true false b is = absurd cc

both_true : (a b : Bool) → a ≡ true → b ≡ true → (a && b) ≡ true
both_true a b x y = ap (λ (t : Bool). t && b) x ∙ y

-- the number of so many bytes lies between that of the number before them and that of the next one
pub number_between : (v : ℕ) (bytes : List ℕ) → AllByRecursion (λ b. b < 256) bytes → (v * 256 ^ length bytes ≤ number_on v bytes) × (number_on v bytes < (v + 1) * 256 ^ length bytes)
number_between v [] small = (omega arith, omega arith)
number_between v (b ∷ bytes) small =
    let more = number_between (256 * v + b) bytes small.1 in
    let p = 256 ^ length bytes in
    let e : 256 ^ suc (length bytes) ≡ p * 256 = pow-suc 256 (length bytes) in
    let low : v * (p * 256) ≤ (256 * v + b) * p = between_low v b p in
    let high : (256 * v + b + 1) * p ≤ (v + 1) * (p * 256) = between_high v b p small.0 in
    (subst (λ (m : ℕ). v * m ≤ number_on (256 * v + b) bytes) (sym e) (omega (arith, more.0, low)), subst (λ (m : ℕ). number_on (256 * v + b) bytes < (v + 1) * m) (sym e) (omega (arith, more.1, high)))
  where
    between_low : (v b p : ℕ) → v * (p * 256) ≤ (256 * v + b) * p
    between_low v b p = let a : 256 * v * p ≤ (256 * v + b) * p = mul-le-mul_right p (omega arith) in let e : v * (p * 256) ≡ 256 * v * p = grind arith in omega (arith, a, e)

    between_high : (v b p : ℕ) → b < 256 → (256 * v + b + 1) * p ≤ (v + 1) * (p * 256)
    between_high v b p lt = let a : (256 * v + b + 1) * p ≤ 256 * (v + 1) * p = mul-le-mul_right p (omega arith) in let e : (v + 1) * (p * 256) ≡ 256 * (v + 1) * p = grind arith in omega (arith, a, e)

div_between : (w p n : ℕ) → w * p ≤ n → n < (w + 1) * p → n / p ≡ w
div_between w p n low high =
    let e : n ≡ w * p + (n - w * p) = omega arith in
    let more : (w + 1) * p ≡ w * p + p = grind arith in
    ap (λ (m : ℕ). m / p) e ∙ div-mul-add w p (n - w * p) (omega arith)

byte_is : (k n : ℕ) → byte_at k n ≡ n / 256 ^ k % 256
byte_is zero n = ap (λ (m : ℕ). m % 256) (sym (div-one n))
byte_is (suc k) n = refl

-- the bytes of the number of some bytes are these
pub bytes_back : (k v : ℕ) (bytes : List ℕ) → length bytes ≡ k → AllByRecursion (λ b. b < 256) bytes → bytes_high_first k (number_on v bytes) ≡ bytes
bytes_back zero v [] long small = refl
bytes_back zero v (b ∷ bytes) long small = absurd (omega (arith, long))
bytes_back (suc k) v [] long small = absurd (omega (arith, long))
bytes_back (suc k) v (b ∷ bytes) long small =
    let n = number_on (256 * v + b) bytes in
    let len : length bytes ≡ k = omega (arith, long) in
    let between = number_between (256 * v + b) bytes small.1 in
    let quotient : n / 256 ^ k ≡ 256 * v + b = ap (λ (j : ℕ). n / 256 ^ j) (sym len) ∙ div_between (256 * v + b) (256 ^ length bytes) n between.0 between.1 in
    let first : byte_at k n ≡ b = byte_is k n ∙ ap (λ (m : ℕ). m % 256) quotient ∙ ap (λ (m : ℕ). m % 256) (let e : 256 * v + b ≡ v * 256 + b = omega arith in e) ∙ mod-mul-add v 256 b small.0 in
    ap (λ (x : ℕ). x ∷ bytes_high_first k n) first ∙ ap (λ (l : List ℕ). b ∷ l) (bytes_back k (256 * v + b) bytes len small.1)

next_digit : (k n : ℕ) → 256 * (n / 256 ^ suc k) + byte_at k n ≡ n / 256 ^ k
next_digit k n =
    let q = n / 256 ^ k in
    let higher : n / 256 ^ suc k ≡ q / 256 = ap (λ (m : ℕ). n / m) (pow-suc 256 k) ∙ sym (div-div-eq-div-mul n (256 ^ k) 256) in
    let here : byte_at k n ≡ q % 256 = byte_is k n in
    omega (arith, higher, here)

-- the number of the bytes of a number is this
pub number_on_back : (k v n : ℕ) → n / 256 ^ k ≡ v → number_on v (bytes_high_first k n) ≡ n
number_on_back zero v n is = sym is ∙ div-one n
number_on_back (suc k) v n is = number_on_back k (256 * v + byte_at k n) n (sym (next_digit k n) ∙ ap (λ (m : ℕ). 256 * m + byte_at k n) is)

module _ (may : ℕ → ℕ → Bool) where
  -- bytes of so many places
  pub digits_small : (k v : ℕ) (bytes : List ℕ) → (digits may k v).right bytes → AllByRecursion (λ b. b < 256) bytes
  unfolding digits byte
  digits_small k v [] right = tt
  digits_small zero v (b ∷ bytes) right = absurd (let long = chain_long 0 (λ left v. byte (digit_ok may left v)) one_byte_more zero v (b ∷ bytes) right in omega (arith, long))
  digits_small (suc k) v (b ∷ bytes) right =
      let first = chain_first 0 (λ left v. byte (digit_ok may left v)) one_byte_more k v (b ∷ bytes) right in
      let others = chain_others 0 (λ left v. byte (digit_ok may left v)) one_byte_more k v (b ∷ bytes) right in
      (ltb-true b 256 (and_true (nat_lt b 256) (may k (256 * v + b)) first).0, digits_small k (256 * v + b) bytes others)

  pub digits_back : (size : ℕ) (bytes : List ℕ) → (digits may size 0).right bytes → bytes_high_first size (number_on 0 bytes) ≡ bytes
  unfolding digits
  digits_back size bytes right = bytes_back size 0 bytes (chain_long 0 (λ left v. byte (digit_ok may left v)) one_byte_more size 0 bytes right) (digits_small size 0 bytes right)

  -- a number of so many bytes, of those that are allowed
  unfoldable pub allowed_number_piece : ℕ → Piece ℕ
  allowed_number_piece size = as_value (number_on 0) (bytes_high_first size) (digits may size 0) (digits_back size)

  pub digits_right : (k v n : ℕ) → n / 256 ^ k ≡ v → ((left : ℕ) → left < k → may left (n / 256 ^ left) ≡ true) → (digits may k v).right (bytes_high_first k n)
  unfolding digits byte
  digits_right zero v n is all = chain_nil 0 (λ left v. byte (digit_ok may left v)) one_byte_more v
  digits_right (suc k) v n is all =
      let next : 256 * v + byte_at k n ≡ n / 256 ^ k = ap (λ (m : ℕ). 256 * m + byte_at k n) (sym is) ∙ next_digit k n in
      let small : byte_at k n < 256 = (let e = byte_is k n in omega (arith, e)) in
      chain_cons 0 (λ left v. byte (digit_ok may left v)) one_byte_more k v (byte_at k n) (bytes_high_first k n)
      (both_true (nat_lt (byte_at k n) 256) (may k (256 * v + byte_at k n)) (lt-ltb (byte_at k n) 256 small) (ap (may k) next ∙ all k (omega arith)))
      (digits_right k (256 * v + byte_at k n) n (sym next) (λ left lt. all left (omega arith)))

  -- a number fits where it is short enough and allowed at each place
  pub number_right : (size n : ℕ) → n < 256 ^ size → ((left : ℕ) → left < size → may left (n / 256 ^ left) ≡ true) → (allowed_number_piece size).right n
  unfolding allowed_number_piece as_value
  number_right size n lt all = let none : n / 256 ^ size ≡ 0 = div_between 0 (256 ^ size) n (omega arith) (omega arith) in (digits_right size 0 n none all, number_on_back size 0 n none)

  pub number_full : (P : ℕ → ℕ → Type 0) → ((left v : ℕ) → P (suc left) v → (b : ℕ) × (digit_ok may left v b ≡ true)) → ((left v : ℕ) → may left v ≡ true → P left v) → (size : ℕ) → P size 0 → (allowed_number_piece size).full
  unfolding allowed_number_piece digits byte
  number_full P some kept size start =
      as_full (number_on 0) (bytes_high_first size) (digits may size 0) (digits_back size)
      (chain_full 0 (λ left v. byte (digit_ok may left v)) one_byte_more P (λ n v p. let b = some n v p in byte_full (digit_ok may n v) b.0 b.1)
      (λ n v x p right. kept n (256 * v + x) (and_true (nat_lt x 256) (may n (256 * v + x)) right).1) size 0 start)

module _ (may : ℕ → ℕ → Bool) where
  digits_last : (k v : ℕ) (bytes : List ℕ) → (digits may (suc k) v).right bytes → may 0 (number_on v bytes) ≡ true
  unfolding digits byte
  digits_last k v [] right = absurd (let long = chain_long 0 (λ left v. byte (digit_ok may left v)) one_byte_more (suc k) v [] right in omega (arith, long))
  digits_last zero v (b ∷ []) right = (and_true (nat_lt b 256) (may 0 (256 * v + b)) (chain_first 0 (λ left v. byte (digit_ok may left v)) one_byte_more zero v (b ∷ []) right)).1
  digits_last zero v (b ∷ c ∷ bytes) right = absurd (let long = chain_long 0 (λ left v. byte (digit_ok may left v)) one_byte_more (suc zero) v (b ∷ c ∷ bytes) right in omega (arith, long))
  digits_last (suc k) v (b ∷ bytes) right = digits_last k (256 * v + b) bytes (chain_others 0 (λ left v. byte (digit_ok may left v)) one_byte_more (suc k) v (b ∷ bytes) right)

  -- a right number is allowed
  pub number_may : (size n : ℕ) → (allowed_number_piece may (suc size)).right n → may 0 n ≡ true
  unfolding allowed_number_piece as_value
  number_may size n right = ap (may 0) (sym right.1) ∙ digits_last size 0 (bytes_high_first (suc size) n) right.0

  -- and has so many bytes
  pub number_short : (size n : ℕ) → (allowed_number_piece may size).right n → n < 256 ^ size
  unfolding allowed_number_piece as_value digits
  number_short size n right =
      let bytes = bytes_high_first size n in
      let between = number_between 0 bytes (digits_small may size 0 bytes right.0) in
      let long : length bytes ≡ size = chain_long 0 (λ left v. byte (digit_ok may left v)) one_byte_more size 0 bytes right.0 in
      let one : (0 + 1) * 256 ^ length bytes ≡ 256 ^ size = ap (λ (k : ℕ). 1 * 256 ^ k) long ∙ omega arith in
      omega (arith, between.1, right.1, one)

-- ---- numbers up to a greatest one

-- the number so far may go on to one that isn't above the greatest
abbrev pub stays_up_to : ℕ → ℕ → ℕ → Bool
stays_up_to most left v = nat_le v (most / 256 ^ left)

pow_some : (k : ℕ) → 0 < 256 ^ k
pow_some zero = omega arith
pow_some (suc k) = let more = pow_some k in let e = pow-suc 256 k in omega (arith, e, more)

div_less : (n m w : ℕ) → 0 < w → n ≤ m → n / w ≤ m / w
div_less n m w some le = let low = div-mul-le_self n w in le-div (n / w) m w some (omega (arith, low, le))

unfoldable pub number_piece : (size most : ℕ) → Piece ℕ
number_piece size most = allowed_number_piece (stays_up_to most) size

pub fits_number : (size most n : ℕ) → n < 256 ^ size → n ≤ most → (number_piece size most).right n
unfolding number_piece
fits_number size most n lt le = number_right (stays_up_to most) size n lt (λ left l. le-leb (n / 256 ^ left) (most / 256 ^ left) (div_less n most (256 ^ left) (pow_some left) le))

pub number_most : (size most n : ℕ) → (number_piece (suc size) most).right n → n ≤ most
unfolding number_piece
number_most size most n right = let le : n ≤ most / 1 = leb-true n (most / 1) (number_may (stays_up_to most) size n right) in omega (arith, le, div-one most)

pub full_number : (size most : ℕ) → (number_piece size most).full
unfolding number_piece
full_number size most =
    number_full (stays_up_to most) (λ left v. v ≤ most / 256 ^ left)
    (λ left v p. (
      0,
      both_true (nat_lt 0 256) (nat_le (256 * v + 0) (most / 256 ^ left)) refl (le-leb (256 * v + 0) (most / 256 ^ left)
          (let higher : most / 256 ^ suc left ≡ most / 256 ^ left / 256 = ap (λ (m : ℕ). most / m) (pow-suc 256 left) ∙ sym (div-div-eq-div-mul most (256 ^ left) 256) in omega (arith, higher, p))),
    ))
    (λ left v is. leb-true v (most / 256 ^ left) is) size (omega arith)

-- ---- one of some numbers

-- one of the numbers begins so
abbrev pub begins_one : List ℕ → ℕ → ℕ → Bool
begins_one ns left v = list_any (λ n. n / 256 ^ left == v) ns

unfoldable pub one_of_piece : (size : ℕ) → List ℕ → Piece ℕ
one_of_piece size ns = allowed_number_piece (begins_one ns) size

any_true : (t u : Bool) → u ≡ true → (t || u) ≡ true
any_true true u is = refl
any_true false u is = is

-- a right one is one of them, and each of them is right
pub one_of_member : (size : ℕ) (ns : List ℕ) (n : ℕ) → (one_of_piece (suc size) ns).right n → list_any (λ m. m == n) ns ≡ true
unfolding one_of_piece
one_of_member size ns n right = whole ns n (number_may (begins_one ns) size n right)
  where
    whole : (ns : List ℕ) (n : ℕ) → list_any (λ m. m / 1 == n) ns ≡ true → list_any (λ m. m == n) ns ≡ true
    whole [] n is = is
    whole (m ∷ ns) n is = by (m / 1 == n) (list_any (λ m. m / 1 == n) ns) (ap (λ (k : ℕ). k == n) (div-one m)) is (whole ns n)
      where
        by : (t u : Bool) → t ≡ (m == n) → (t || u) ≡ true → (u ≡ true → list_any (λ m. m == n) ns ≡ true) → ((m == n) || list_any (λ m. m == n) ns) ≡ true
        by true u same is more = ap (λ (t : Bool). t || list_any (λ m. m == n) ns) (sym same)
        by false u same is more = any_true (m == n) (list_any (λ m. m == n) ns) (more is)

pub one_of_right : (size : ℕ) (ns : List ℕ) (n : ℕ) → n < 256 ^ size → list_any (λ m. m == n) ns ≡ true → (one_of_piece size ns).right n
unfolding one_of_piece
one_of_right size ns n lt is = number_right (begins_one ns) size n lt (λ left l. begun ns left is)
  where
    begun : (ns : List ℕ) (left : ℕ) → list_any (λ m. m == n) ns ≡ true → list_any (λ m. m / 256 ^ left == (n / 256 ^ left)) ns ≡ true
    begun [] left is = is
    begun (m ∷ ns) left is = by (m == n) refl is (begun ns left)
      where
        by : (t : Bool) → (m == n) ≡ t → (t || list_any (λ m. m == n) ns) ≡ true → (list_any (λ m. m == n) ns ≡ true → list_any (λ m. m / 256 ^ left == (n / 256 ^ left)) ns ≡ true)
            → ((m / 256 ^ left == (n / 256 ^ left)) || list_any (λ m. m / 256 ^ left == (n / 256 ^ left)) ns) ≡ true
        by true same is more = ap (λ (t : Bool). t || list_any (λ m. m / 256 ^ left == (n / 256 ^ left)) ns) (eq-eqb (m / 256 ^ left) (n / 256 ^ left) (ap (λ (k : ℕ). k / 256 ^ left) (eqb-true m n same)))
        by false same is more = any_true (m / 256 ^ left == (n / 256 ^ left)) (list_any (λ m. m / 256 ^ left == (n / 256 ^ left)) ns) (more is)

begins_more : (ns : List ℕ) (left v : ℕ) → begins_one ns (suc left) v ≡ true → (b : ℕ) × (digit_ok (begins_one ns) left v b ≡ true)
begins_more [] left v is = absurd cc
begins_more (n ∷ ns) left v is = by (n / 256 ^ suc left == v) refl is (begins_more ns left v)
  where
    by : (t : Bool) → (n / 256 ^ suc left == v) ≡ t → (t || begins_one ns (suc left) v) ≡ true → (begins_one ns (suc left) v ≡ true → (b : ℕ) × (digit_ok (begins_one ns) left v b ≡ true)) → (b : ℕ) × (digit_ok (begins_one (n ∷ ns)) left v b ≡ true)
    by true same e further =
        let b = byte_at left n in
        let small : b < 256 = (let e = byte_is left n in omega (arith, e)) in
        let next : n / 256 ^ left ≡ 256 * v + b = sym (next_digit left n) ∙ ap (λ (m : ℕ). 256 * m + b) (eqb-true (n / 256 ^ suc left) v same) in
        (b, both_true (nat_lt b 256) (begins_one (n ∷ ns) left (256 * v + b)) (lt-ltb b 256 small) (ap (λ (t : Bool). t || begins_one ns left (256 * v + b)) (eq-eqb (n / 256 ^ left) (256 * v + b) next)))
    by false same e further =
        let more = further e in
        let parts = and_true (nat_lt more.0 256) (begins_one ns left (256 * v + more.0)) more.1 in
        (more.0, both_true (nat_lt more.0 256) (begins_one (n ∷ ns) left (256 * v + more.0)) parts.0 (any_true (n / 256 ^ left == (256 * v + more.0)) (begins_one ns left (256 * v + more.0)) parts.1))

pub one_full : (size n : ℕ) (ns : List ℕ) → n < 256 ^ size → (one_of_piece size (n ∷ ns)).full
unfolding one_of_piece
one_full size n ns lt =
    number_full (begins_one (n ∷ ns)) (λ left v. begins_one (n ∷ ns) left v ≡ true) (begins_more (n ∷ ns)) (λ left v is. is) size
    (ap (λ (t : Bool). t || begins_one ns size 0) (eq-eqb (n / 256 ^ size) 0 (div_between 0 (256 ^ size) n (omega arith) (omega arith))))

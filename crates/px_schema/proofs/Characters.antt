-- A text is right exactly where its bytes are UTF-8.
use Rattle.std.proofs.Common.{◌≡◌, ◌≢◌, ◌<◌, ◌≤◌, ◌+◌, ◌/◌, ◌%◌, ◌++◌, ◌∷◌, [], ℕ, zero, suc, Bool, true, List, length, inl, inr, sym, ap, subst, ◌∙◌, arith}
use Rattle.std.specs.Prelude.{◌-◌, ◌&&◌, nat_le, nat_lt}
use Rattle.std.specs.Char.{encode_utf8}
use Rattle.std.specs.Str.{IsUtf8, encode_utf8_all}
use Rattle.std.specs.Str.Lossy.{second_byte_min, second_byte_max}
use Rattle.std.proofs.Math.Utf8.{scalar, scalars}
use Rattle.std.proofs.lemmas.Bool.{cases_lt, le-leb, lt-ltb, leb-true, ltb-true}
use Rattle.std.proofs.lemmas.Bool.Decides.{nat_tests}
use Rattle.std.proofs.lemmas.Str.{IsUtf8-nil, IsUtf8-append, IsUtf8-encode, encode_ascii}
use Rattle.px_keys.specs.inner.PartReading.{IsContinuation, char_size}
use Rattle.px_keys.proofs.Characters.{and-true, forms, one, two, three, four}
use Rattle.px_keys.proofs.CharReading.{Shaped, low-scalar, second_bounds, shaped, size-four, size-one, size-three, size-two, spelt-two, spelt-three, spelt-four}
use Rattle.px_pieces.specs.Pieces.{byte}
use Rattle.px_pieces.specs.Chains.{chain, chain_cons, chain_first, chain_long, chain_nil, chain_others}
use Rattle.px_schema.specs.Texts.{CharState, char_next, char_ok, no_char, text}

-- the bytes are a right end of a text, where so many bytes of a character are still to come
Right : ℕ → CharState → List ℕ → Type 0
Right n s l = (chain 0 (λ left s. byte (char_ok left s)) char_next n s).right l

abbrev between : ℕ → ℕ → ℕ → CharState
between need least most = record { need = need; least = least; most = most }

both_true : (a b : Bool) → a ≡ true → b ≡ true → (a && b) ≡ true
both_true a b x y = ap (λ (t : Bool). t && b) x ∙ y

-- ---- what is UTF-8 is right

first_right : (n k x : ℕ) (rest : List ℕ) (a b : ℕ) → char_size x ≡ suc k → k ≤ n → Right n (between k (second_byte_min x) (second_byte_max x)) rest → Right (suc n) (between 0 a b) (x ∷ rest)
unfolding Right byte
first_right n k x rest a b size le right =
    let ok : char_ok n (between 0 a b) x ≡ true = both_true (nat_lt 0 (char_size x)) (nat_le (char_size x) (n + 1)) (lt-ltb 0 (char_size x) (omega (arith, size))) (le-leb (char_size x) (n + 1) (omega (arith, size))) in
    let next : k ≡ char_size x - 1 = omega (arith, size) in
    chain_cons 0 (λ left s. byte (char_ok left s)) char_next n (between 0 a b) x rest ok (subst (λ (m : ℕ). (chain 0 (λ left s. byte (char_ok left s)) char_next n (between m (second_byte_min x) (second_byte_max x))).right rest) next right)

later_right : (n k least most y : ℕ) (rest : List ℕ) → least ≤ y → y ≤ most → Right n (between k 128 191) rest → Right (suc n) (between (suc k) least most) (y ∷ rest)
unfolding Right byte
later_right n k least most y rest low high right =
    chain_cons 0 (λ left s. byte (char_ok left s)) char_next n (between (suc k) least most) y rest (both_true (nat_le least y) (nat_le y most) (le-leb least y low) (le-leb y most high)) right

-- the bytes of a character before right ones
char_right : (c : ℕ) → scalar c ≡ true → (rest : List ℕ) → ((a b : ℕ) → Right (length rest) (between 0 a b) rest) → (a b : ℕ) → Right (length (encode_utf8 c ++ rest)) (between 0 a b) (encode_utf8 c ++ rest)
char_right c s rest more a b = elim (forms c s) [
  | one low e ↦ subst (λ (w : List ℕ). Right (length (w ++ rest)) (between 0 a b) (w ++ rest)) (sym e)
      (first_right (length rest) 0 c rest a b (size-one c low) (omega arith) (more (second_byte_min c) (second_byte_max c)))
  | two p q e ↦
      let x = 192 + c / 64 in
      let y = 128 + c % 64 in
      let w : Shaped (x ∷ y ∷ []) = subst Shaped e (shaped c s (omega arith)) in
      let second : IsContinuation x 1 y = w.follows 1 (omega arith) (omega arith) in
      subst (λ (w : List ℕ). Right (length (w ++ rest)) (between 0 a b) (w ++ rest)) (sym e)
      (first_right (suc (length rest)) 1 x (y ∷ rest) a b w.sized (omega arith) (later_right (length rest) 0 (second_byte_min x) (second_byte_max x) y rest second.0 second.1 (more 128 191)))
  | three p q gap e ↦
      let x = 224 + c / 4096 in
      let y = 128 + c / 64 % 64 in
      let z = 128 + c % 64 in
      let w : Shaped (x ∷ y ∷ z ∷ []) = subst Shaped e (shaped c s (omega arith)) in
      let second : IsContinuation x 1 y = w.follows 1 (omega arith) (omega arith) in
      let third : IsContinuation x 2 z = w.follows 2 (omega arith) (omega arith) in
      subst (λ (w : List ℕ). Right (length (w ++ rest)) (between 0 a b) (w ++ rest)) (sym e)
      (first_right (suc (suc (length rest))) 2 x (y ∷ z ∷ rest) a b w.sized (omega arith) (later_right (suc (length rest)) 1 (second_byte_min x) (second_byte_max x) y (z ∷ rest) second.0 second.1
      (later_right (length rest) 0 128 191 z rest third.0 third.1 (more 128 191))))
  | four p q e ↦
      let x = 240 + c / 262144 in
      let y = 128 + c / 4096 % 64 in
      let z = 128 + c / 64 % 64 in
      let u = 128 + c % 64 in
      let w : Shaped (x ∷ y ∷ z ∷ u ∷ []) = subst Shaped e (shaped c s (omega arith)) in
      let second : IsContinuation x 1 y = w.follows 1 (omega arith) (omega arith) in
      let third : IsContinuation x 2 z = w.follows 2 (omega arith) (omega arith) in
      let fourth : IsContinuation x 3 u = w.follows 3 (omega arith) (omega arith) in
      subst (λ (w : List ℕ). Right (length (w ++ rest)) (between 0 a b) (w ++ rest)) (sym e)
      (first_right (suc (suc (suc (length rest)))) 3 x (y ∷ z ∷ u ∷ rest) a b w.sized (omega arith) (later_right (suc (suc (length rest))) 2 (second_byte_min x) (second_byte_max x) y (z ∷ u ∷ rest) second.0 second.1
      (later_right (suc (length rest)) 1 128 191 z (u ∷ rest) third.0 third.1 (later_right (length rest) 0 128 191 u rest fourth.0 fourth.1 (more 128 191)))))
]

all_right : (cs : List ℕ) → scalars cs ≡ true → (a b : ℕ) → Right (length (encode_utf8_all cs)) (between 0 a b) (encode_utf8_all cs)
unfolding Right
all_right [] s a b = chain_nil 0 (λ left s. byte (char_ok left s)) char_next (between 0 a b)
all_right (c ∷ cs) s a b = let parts = and-true (scalar c) (scalars cs) s in char_right c parts.0 (encode_utf8_all cs) (all_right cs parts.1) a b

pub text_right : (l : List ℕ) → IsUtf8 l → (text (length l)).right l
unfolding text Right
text_right l utf8 = subst (λ (m : List ℕ). (chain 0 (λ left s. byte (char_ok left s)) char_next (length m) no_char).right m) utf8.1.1 (all_right utf8.0 utf8.1.0 0 0)

-- ---- what is right is UTF-8

right_long : (n : ℕ) (s : CharState) (l : List ℕ) → Right n s l → length l ≡ n
unfolding Right
right_long n s l right = chain_long 0 (λ left s. byte (char_ok left s)) char_next n s l right

first_size : (n a b x : ℕ) (rest : List ℕ) → Right (suc n) (between 0 a b) (x ∷ rest) → (1 ≤ char_size x) × (char_size x ≤ n + 1)
unfolding Right byte
first_size n a b x rest right =
    let parts = and-true (nat_lt 0 (char_size x)) (nat_le (char_size x) (n + 1)) (chain_first 0 (λ left s. byte (char_ok left s)) char_next n (between 0 a b) (x ∷ rest) right) in
    (let lt = ltb-true 0 (char_size x) parts.0 in omega (arith, lt), leb-true (char_size x) (n + 1) parts.1)

first_rest : (n a b x k : ℕ) (rest : List ℕ) → char_size x ≡ suc k → Right (suc n) (between 0 a b) (x ∷ rest) → Right n (between k (second_byte_min x) (second_byte_max x)) rest
unfolding Right
first_rest n a b x k rest size right =
    let next : char_size x - 1 ≡ k = omega (arith, size) in
    subst (λ (m : ℕ). (chain 0 (λ left s. byte (char_ok left s)) char_next n (between m (second_byte_min x) (second_byte_max x))).right rest) next (chain_others 0 (λ left s. byte (char_ok left s)) char_next n (between 0 a b) (x ∷ rest) right)

later_range : (n k least most y : ℕ) (rest : List ℕ) → Right (suc n) (between (suc k) least most) (y ∷ rest) → (least ≤ y) × (y ≤ most)
unfolding Right byte
later_range n k least most y rest right =
    let parts = and-true (nat_le least y) (nat_le y most) (chain_first 0 (λ left s. byte (char_ok left s)) char_next n (between (suc k) least most) (y ∷ rest) right) in
    (leb-true least y parts.0, leb-true y most parts.1)

later_rest : (n k least most y : ℕ) (rest : List ℕ) → Right (suc n) (between (suc k) least most) (y ∷ rest) → Right n (between k 128 191) rest
unfolding Right
later_rest n k least most y rest right = chain_others 0 (λ left s. byte (char_ok left s)) char_next n (between (suc k) least most) (y ∷ rest) right

-- what a first byte tells of the character's size
data Lead (x : ℕ) : Type 0 where
  leads-one : x < 128 → char_size x ≡ 1 → Lead x
  leads-two : 194 ≤ x → x < 224 → char_size x ≡ 2 → Lead x
  leads-three : 224 ≤ x → x < 240 → char_size x ≡ 3 → Lead x
  leads-four : 240 ≤ x → x < 245 → char_size x ≡ 4 → Lead x

no_size : (x : ℕ) → 128 ≤ x → x < 194 → char_size x ≡ 0
no_size x h k = grind (arith, nat_tests)

no_size_high : (x : ℕ) → 245 ≤ x → char_size x ≡ 0
no_size_high x h = grind (arith, nat_tests)

lead : (x : ℕ) → 1 ≤ char_size x → Lead x
lead x h = elim (cases_lt x 128) [
  | inl a ↦ leads-one a (size-one x a)
  | inr a ↦ elim (cases_lt x 194) [
    | inl b ↦ let e = no_size x a b in absurd (omega arith)
    | inr b ↦ elim (cases_lt x 224) [
      | inl c ↦ leads-two b c (size-two x b c)
      | inr c ↦ elim (cases_lt x 240) [
        | inl d ↦ leads-three c d (size-three x c d)
        | inr d ↦ elim (cases_lt x 245) [
          | inl e ↦ leads-four d e (size-four x d e)
          | inr e ↦ let f = no_size_high x e in absurd (omega arith)
        ]
      ]
    ]
  ]
]

is_utf8 : (w : List ℕ) → (c : ℕ) × (scalar c ≡ true) × (c ≢ 0) × (encode_utf8 c ≡ w) → IsUtf8 w
is_utf8 w s = subst IsUtf8 s.3 (IsUtf8-encode s.0 s.1)

module _ (most : ℕ) (more : (n : ℕ) → n ≤ most → (a b : ℕ) (l : List ℕ) → Right n (between 0 a b) l → IsUtf8 l) where
  two_bytes : (n x : ℕ) (rest : List ℕ) → n ≤ most → 194 ≤ x → x < 224 → 1 ≤ n → Right n (between 1 (second_byte_min x) (second_byte_max x)) rest → IsUtf8 (x ∷ rest)
  two_bytes zero x rest le low high some right = absurd (omega arith)
  two_bytes (suc n) x [] le low high some right = absurd (let long = right_long (suc n) (between 1 (second_byte_min x) (second_byte_max x)) [] right in omega (arith, long))
  two_bytes (suc n) x (y ∷ rest) le low high some right =
      let y-in = later_range n 0 (second_byte_min x) (second_byte_max x) y rest right in
      let y-bounds = second_bounds x y y-in.0 y-in.1 in
      IsUtf8-append (x ∷ y ∷ []) rest (is_utf8 (x ∷ y ∷ []) (spelt-two x y low high y-bounds.0 y-bounds.1)) (more n (omega arith) 128 191 rest (later_rest n 0 (second_byte_min x) (second_byte_max x) y rest right))

  three_bytes : (n x : ℕ) (rest : List ℕ) → n ≤ most → 224 ≤ x → x < 240 → 2 ≤ n → Right n (between 2 (second_byte_min x) (second_byte_max x)) rest → IsUtf8 (x ∷ rest)
  three_bytes zero x rest le low high some right = absurd (omega arith)
  three_bytes (suc zero) x rest le low high some right = absurd (omega arith)
  three_bytes (suc (suc n)) x [] le low high some right = absurd (let long = right_long (suc (suc n)) (between 2 (second_byte_min x) (second_byte_max x)) [] right in omega (arith, long))
  three_bytes (suc (suc n)) x (y ∷ []) le low high some right = absurd (let long = right_long (suc (suc n)) (between 2 (second_byte_min x) (second_byte_max x)) (y ∷ []) right in omega (arith, long))
  three_bytes (suc (suc n)) x (y ∷ z ∷ rest) le low high some right =
      let y-in = later_range (suc n) 1 (second_byte_min x) (second_byte_max x) y (z ∷ rest) right in
      let behind-y = later_rest (suc n) 1 (second_byte_min x) (second_byte_max x) y (z ∷ rest) right in
      let z-in = later_range n 0 128 191 z rest behind-y in
      IsUtf8-append (x ∷ y ∷ z ∷ []) rest (is_utf8 (x ∷ y ∷ z ∷ []) (spelt-three x y z low high y-in.0 y-in.1 z-in.0 z-in.1)) (more n (omega arith) 128 191 rest (later_rest n 0 128 191 z rest behind-y))

  four_bytes : (n x : ℕ) (rest : List ℕ) → n ≤ most → 240 ≤ x → x < 245 → 3 ≤ n → Right n (between 3 (second_byte_min x) (second_byte_max x)) rest → IsUtf8 (x ∷ rest)
  four_bytes zero x rest le low high some right = absurd (omega arith)
  four_bytes (suc zero) x rest le low high some right = absurd (omega arith)
  four_bytes (suc (suc zero)) x rest le low high some right = absurd (omega arith)
  four_bytes (suc (suc (suc n))) x [] le low high some right = absurd (let long = right_long (suc (suc (suc n))) (between 3 (second_byte_min x) (second_byte_max x)) [] right in omega (arith, long))
  four_bytes (suc (suc (suc n))) x (y ∷ []) le low high some right = absurd (let long = right_long (suc (suc (suc n))) (between 3 (second_byte_min x) (second_byte_max x)) (y ∷ []) right in omega (arith, long))
  four_bytes (suc (suc (suc n))) x (y ∷ z ∷ []) le low high some right = absurd (let long = right_long (suc (suc (suc n))) (between 3 (second_byte_min x) (second_byte_max x)) (y ∷ z ∷ []) right in omega (arith, long))
  four_bytes (suc (suc (suc n))) x (y ∷ z ∷ u ∷ rest) le low high some right =
      let y-in = later_range (suc (suc n)) 2 (second_byte_min x) (second_byte_max x) y (z ∷ u ∷ rest) right in
      let behind-y = later_rest (suc (suc n)) 2 (second_byte_min x) (second_byte_max x) y (z ∷ u ∷ rest) right in
      let z-in = later_range (suc n) 1 128 191 z (u ∷ rest) behind-y in
      let behind-z = later_rest (suc n) 1 128 191 z (u ∷ rest) behind-y in
      let u-in = later_range n 0 128 191 u rest behind-z in
      IsUtf8-append (x ∷ y ∷ z ∷ u ∷ []) rest (is_utf8 (x ∷ y ∷ z ∷ u ∷ []) (spelt-four x y z u low high y-in.0 y-in.1 z-in.0 z-in.1 u-in.0 u-in.1))
      (more n (omega arith) 128 191 rest (later_rest n 0 128 191 u rest behind-z))

  some_bytes : (n a b x : ℕ) (rest : List ℕ) → n ≤ most → Right (suc n) (between 0 a b) (x ∷ rest) → IsUtf8 (x ∷ rest)
  some_bytes n a b x rest le right =
      let size = first_size n a b x rest right in
      elim (lead x size.0) [
        | leads-one low is ↦ IsUtf8-append (x ∷ []) rest (subst IsUtf8 (encode_ascii x low) (IsUtf8-encode x (low-scalar x (omega arith)))) (more n le (second_byte_min x) (second_byte_max x) rest (first_rest n a b x 0 rest is right))
        | leads-two low high is ↦ two_bytes n x rest le low high (omega (arith, is, size.1)) (first_rest n a b x 1 rest is right)
        | leads-three low high is ↦ three_bytes n x rest le low high (omega (arith, is, size.1)) (first_rest n a b x 2 rest is right)
        | leads-four low high is ↦ four_bytes n x rest le low high (omega (arith, is, size.1)) (first_rest n a b x 3 rest is right)
      ]

utf8_up_to : (most n : ℕ) → n ≤ most → (a b : ℕ) (l : List ℕ) → Right n (between 0 a b) l → IsUtf8 l
utf8_up_to most zero le a b [] right = IsUtf8-nil
utf8_up_to most zero le a b (x ∷ l) right = absurd (let long = right_long zero (between 0 a b) (x ∷ l) right in omega (arith, long))
utf8_up_to zero (suc n) le a b l right = absurd (omega arith)
utf8_up_to (suc most) (suc n) le a b [] right = absurd (let long = right_long (suc n) (between 0 a b) [] right in omega (arith, long))
utf8_up_to (suc most) (suc n) le a b (x ∷ l) right = some_bytes most (utf8_up_to most) n a b x l (omega arith) right

pub text_utf8 : (n : ℕ) (l : List ℕ) → (text n).right l → IsUtf8 l
unfolding text Right
text_utf8 n l right = utf8_up_to n n (omega arith) 0 0 l right

-- One bit.
use Rattle.std.proofs.Common.{◌≡◌, ℕ, ◌*◌, ◌/◌, ◌%◌, ◌^◌, ◌<◌, ◌≤◌, ◌≢◌, ◌⊎◌, List, length, get_or, set, replicate, sym, ap, subst, ◌∙◌, inl, inr, arith, length-set, get_or-set_same, get_or-set_other, mod-lt}
use Rattle.std.proofs.lemmas.Bool.{cases_eq, cases_lt}
use Rattle.std.proofs.Math.Pow.{pow-lt}
use Rattle.std.proofs.Math.Nat.{mod-eq_of_lt}
use Rattle.std.proofs.lemmas.Bool.Decides.{Decides-eqb}
use Rattle.std.proofs.lemmas.List.{get_or_default, get_or-replicate, get_or_past, length-replicate}
use Rattle.std.proofs.lemmas.Nat.Bits.{bit_at-lt, bit_at-pow_same, bit_at-zero, bit_at_or}
use Rattle.std.specs.Prelude.{◌↔◌, Bool, true, false, IsTrue, bit_or, nat_eq}
use Rattle.std.specs.Int.{bit_at}
use Rattle.px_keyfilter.specs.Keys.{HasBit, HasKeyBits, bit_of, first_bit, second_bit, with_bit}

pub length-with_bit : (words : List ℕ) (n : ℕ) → length (with_bit words n) ≡ length words
unfolding with_bit
length-with_bit words n = length-set words (n / 64) (bit_or (get_or words (n / 64) 0) (2 ^ (n % 64)))

pub bit_of-lt : (number factor bits : ℕ) → 0 < bits → bit_of number factor bits < bits
unfolding bit_of
bit_of-lt number factor bits some = mod-lt (number * factor % 2 ^ 64 / 2 ^ 32) some

-- what one word says after another was set to it
or_has_new : (word k : ℕ) → bit_at (bit_or word (2 ^ k)) k ≡ 1
or_has_new word k = (let w = bit_at-lt word k in omega (arith, bit_at_or word (2 ^ k) k, bit_at-pow_same k))

or_has_old : (word more k : ℕ) → bit_at word k ≡ 1 → bit_at (bit_or word more) k ≡ 1
or_has_old word more k has = (let m = bit_at-lt more k in omega (arith, bit_at_or word more k))

pub bit_is_set : (words : List ℕ) (n : ℕ) → n < 64 * length words → HasBit (with_bit words n) n
unfolding HasBit with_bit
bit_is_set words n within =
    let place : n / 64 < length words = omega arith in
    ap (λ (word : ℕ). bit_at word (n % 64)) (get_or-set_same words (n / 64) (bit_or (get_or words (n / 64) 0) (2 ^ (n % 64))) 0 place) ∙ or_has_new (get_or words (n / 64) 0) (n % 64)

pub bit_stays : (words : List ℕ) (n k : ℕ) → n < 64 * length words → HasBit words k → HasBit (with_bit words n) k
unfolding HasBit with_bit
bit_stays words n k within has =
    by (omega arith) (cases_eq (k / 64) (n / 64))
  where
    by : n / 64 < length words → (k / 64 ≡ n / 64) ⊎ (k / 64 ≢ n / 64) → bit_at (get_or (set words (n / 64) (bit_or (get_or words (n / 64) 0) (2 ^ (n % 64)))) (k / 64) 0) (k % 64) ≡ 1
    by place (inl same) =
        let here : bit_at (get_or words (n / 64) 0) (k % 64) ≡ 1 = ap (λ (i : ℕ). bit_at (get_or words i 0) (k % 64)) (sym same) ∙ has in
        ap (λ (i : ℕ). bit_at (get_or (set words (n / 64) (bit_or (get_or words (n / 64) 0) (2 ^ (n % 64)))) i 0) (k % 64)) same
        ∙ ap (λ (w : ℕ). bit_at w (k % 64)) (get_or-set_same words (n / 64) (bit_or (get_or words (n / 64) 0) (2 ^ (n % 64))) 0 place)
        ∙ or_has_old (get_or words (n / 64) 0) (2 ^ (n % 64)) (k % 64) here
    by place (inr apart) = ap (λ (w : ℕ). bit_at w (k % 64)) (get_or-set_other words (n / 64) (k / 64) (bit_or (get_or words (n / 64) 0) (2 ^ (n % 64))) 0 apart) ∙ has

pub no_bit : (count n : ℕ) → HasBit (replicate count 0) n → ⊥
unfolding HasBit
no_bit count n has = by (cases_lt (n / 64) count)
  where
    zero_at : ◌≡◌ {A = ℕ} (get_or (replicate count 0) (n / 64) 0) 0 → ⊥
    zero_at z = (let e : bit_at 0 (n % 64) ≡ 1 = subst (λ (w : ℕ). bit_at w (n % 64) ≡ 1) z has in omega (arith, bit_at-zero (n % 64)))

    by : (n / 64 < count) ⊎ (count ≤ n / 64) → ⊥
    by (inl within) = zero_at (get_or-replicate count (n / 64) 0 0 within)
    by (inr past) = zero_at (get_or_past (replicate count 0) (n / 64) 0 (omega (arith, length-replicate {A = ℕ} count 0)))

pub no_key : (count : ℕ) (key : List ℕ) → HasKeyBits (replicate count 0) key → ⊥
unfolding HasKeyBits
no_key count key has = no_bit count (first_bit (replicate count 0) key) has.0

-- ---- what the code does

word_is : (items words : List ℕ) (n word : ℕ) → n < 64 * length words → items ≡ words → word ≡ get_or items (n / 64) word → word ≡ get_or words (n / 64) 0
word_is items words n word within same is =
    is ∙ ap (λ (l : List ℕ). get_or l (n / 64) word) same ∙ get_or_default words (n / 64) word 0 (omega arith)

pub tested : (items words : List ℕ) (n word : ℕ) → n < 64 * length words → items ≡ words → word ≡ get_or items (n / 64) word → IsTrue (nat_eq (word / 2 ^ (n % 64) % 2) 1) ↔ HasBit words n
unfolding HasBit
tested items words n word within same is =
    subst (λ (w : ℕ). IsTrue (nat_eq (word / 2 ^ (n % 64) % 2) 1) ↔ (w / 2 ^ (n % 64) % 2 ≡ 1)) (word_is items words n word within same is) (Decides-eqb (word / 2 ^ (n % 64) % 2) 1)

one_bit : (k : ℕ) → k < 64 → 1 * 2 ^ k % 2 ^ 64 ≡ 2 ^ k
one_bit k small = (let p = pow-lt {i = k} {j = 64} small in let e : 1 * 2 ^ k ≡ 2 ^ k = omega arith in ap (λ (n : ℕ). n % 2 ^ 64) e ∙ mod-eq_of_lt p)

pub written : (items words : List ℕ) (n word : ℕ) → n < 64 * length words → items ≡ words → word ≡ get_or items (n / 64) word → set items (n / 64) (bit_or word (1 * 2 ^ (n % 64) % 2 ^ 64)) ≡ with_bit words n
unfolding with_bit
written items words n word within same is =
    ap (λ (l : List ℕ). set l (n / 64) (bit_or word (1 * 2 ^ (n % 64) % 2 ^ 64))) same
    ∙ ap (λ (w : ℕ). set words (n / 64) (bit_or w (1 * 2 ^ (n % 64) % 2 ^ 64))) (word_is items words n word within same is)
    ∙ ap (λ (w : ℕ). set words (n / 64) (bit_or (get_or words (n / 64) 0) w)) (one_bit (n % 64) (omega arith))

module _ (words key : List ℕ) (first second : ℕ) (first_is : first ≡ first_bit words key) (has_first : Bool) (of_first : IsTrue has_first ↔ HasBit words first) where
  pub both_tested : (has_second : Bool) → second ≡ second_bit words key → IsTrue has_second ↔ HasBit words second → has_first ≡ true → IsTrue has_second ↔ HasKeyBits words key
  unfolding HasKeyBits
  both_tested has_second second_is of_second has = (
    λ yes. (subst (HasBit words) first_is (of_first.0 has), subst (HasBit words) second_is (of_second.0 yes)),
    λ key. of_second.1 (subst (HasBit words) (sym second_is) key.1),
  )

  pub one_tested : has_first ≡ false → IsTrue has_first ↔ HasKeyBits words key
  unfolding HasKeyBits
  one_tested lacks = (
    λ yes. absurd (not_both yes),
    λ key. of_first.1 (subst (HasBit words) (sym first_is) key.0),
  )
    where
      not_both : has_first ≡ true → ⊥
      not_both truth = cc

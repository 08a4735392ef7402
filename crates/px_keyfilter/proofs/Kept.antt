-- No key is lost.
use Rattle.std.proofs.Common.{◌≡◌, ℕ, ◌*◌, ◌<◌, ◌≢◌, List, [], ◌∷◌, ◌++◌, length, refl, sym, subst, ◌∙◌, arith, append_assoc, append-nil}
use Rattle.std.specs.List.{AllByRecursion}
use Rattle.px_cells.specs.CellData.{CellData}
use Rattle.px_keyfilter.specs.Keys.{HasAll, HasBit, HasKeyBits, bit_of, first_bit, number_of, second_bit, with_bit, with_keys, with_key}
use Rattle.px_keyfilter.proofs.Bits.{bit_is_set, bit_of-lt, bit_stays, length-with_bit}

pub length-with_key : (words key : List ℕ) → length (with_key words key) ≡ length words
unfolding with_key
length-with_key words key = length-with_bit (with_bit words (first_bit words key)) (second_bit words key) ∙ length-with_bit words (first_bit words key)

pub length-with_keys : (words : List ℕ) (cells : List CellData) → length (with_keys words cells) ≡ length words
length-with_keys words [] = refl
length-with_keys words (c ∷ cells) = length-with_keys (with_key words c.key) cells ∙ length-with_key words c.key

-- as many words have the bits of a key at the same places
both : (words after key : List ℕ) → length after ≡ length words → HasBit after (first_bit words key) → HasBit after (second_bit words key) → HasKeyBits after key
unfolding HasKeyBits
both words after key same one two =
    subst (λ (n : ℕ). HasBit after (bit_of (number_of key) 11400714819323198485 (64 * n)) × HasBit after (bit_of (number_of key) 14029467366897019727 (64 * n))) (sym same) (one, two)

module _ (words key : List ℕ) (some : 0 < length words) where
  first_within : first_bit words key < 64 * length words
  first_within = bit_of-lt (number_of key) 11400714819323198485 (64 * length words) (omega arith)

  second_within : second_bit words key < 64 * length (with_bit words (first_bit words key))
  second_within = subst (λ (n : ℕ). second_bit words key < 64 * n) (sym (length-with_bit words (first_bit words key))) (bit_of-lt (number_of key) 14029467366897019727 (64 * length words) (omega arith))

  pub key_added : HasKeyBits (with_key words key) key
  unfolding with_key
  key_added =
      let one = with_bit words (first_bit words key) in
      both words (with_key words key) key (length-with_key words key)
      (bit_stays one (second_bit words key) (first_bit words key) second_within (bit_is_set words (first_bit words key) first_within))
      (bit_is_set one (second_bit words key) second_within)

  bit_kept : (n : ℕ) → HasBit words n → HasBit (with_key words key) n
  unfolding with_key
  bit_kept n has = bit_stays (with_bit words (first_bit words key)) (second_bit words key) n second_within (bit_stays words (first_bit words key) n first_within has)

  pub key_kept : (other : List ℕ) → HasKeyBits words other → HasKeyBits (with_key words key) other
  unfolding HasKeyBits
  key_kept other has = both words (with_key words key) other (length-with_key words key) (bit_kept (first_bit words other) has.0) (bit_kept (second_bit words other) has.1)

  all_kept : (cells : List CellData) → HasAll words cells → HasAll (with_key words key) cells
  all_kept [] has = tt
  all_kept (c ∷ cells) has = (key_kept c.key has.0, all_kept cells has.1)

  all_and_key : (cells : List CellData) (c : CellData) → c.key ≡ key → HasAll words cells → HasAll (with_key words key) (cells ++ c ∷ [])
  all_and_key [] c is has = (subst (HasKeyBits (with_key words key)) (sym is) key_added, tt)
  all_and_key (b ∷ cells) c is has = (key_kept b.key has.0, all_and_key cells c is has.1)

pub all_added : (words : List ℕ) (cells more : List CellData) → 0 < length words → HasAll words cells → HasAll (with_keys words more) (cells ++ more)
all_added words cells [] some has = subst (HasAll words) (sym (append-nil cells)) has
all_added words cells (c ∷ more) some has =
    let after = with_key words c.key in
    let some_after : 0 < length after = subst (λ (n : ℕ). 0 < n) (sym (length-with_key words c.key)) some in
    subst (HasAll (with_keys after more)) (append_assoc cells (c ∷ []) more) (all_added after (cells ++ c ∷ []) more some_after (all_and_key words c.key some cells c refl has))

pub none_has : (words key : List ℕ) (cells : List CellData) → HasAll words cells → (HasKeyBits words key → ⊥) → AllByRecursion (λ (c : CellData). c.key ≢ key) cells
none_has words key [] has lacks = tt
none_has words key (c ∷ cells) has lacks = (λ is. lacks (subst (HasKeyBits words) is has.0), none_has words key cells has.1 lacks)

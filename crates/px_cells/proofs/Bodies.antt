-- A key and a value that stand in a longer list, one behind the other.
use Rattle.std.proofs.Common.{◌≡◌, ◌++◌, ◌+◌, ℕ, List, length, take, drop, refl, sym, ap, ◌∙◌, arith, le-add_right, length-append, take_at, drop_at, take-take}
use Rattle.std.proofs.lemmas.Slice.{take-put_mid}
use borrow.Rule.Slice.PartMut.{put_mid}

-- the key was copied to the beginning of a list, and the value behind it
pub written_is : (key value k v zs : List ℕ) (n : ℕ) → k ≡ key → v ≡ value → take (length key + length value) (put_mid (length key) n (k ++ zs) v) ≡ key ++ value
written_is key value k v zs n e f =
    let long : length k ≡ length key = ap length e in
    take-put_mid (length key) n (k ++ zs) v (length key + length value) (ap (λ (l : List ℕ). length key + length l) (sym f)) (omega (arith, length-append k zs, long))
    ∙ ap (λ (l : List ℕ). l ++ v) (take_at k zs (length key) long ∙ e) ∙ ap (λ (l : List ℕ). key ++ l) f

module _ (key value bytes : List ℕ) (is : take (length key + length value) bytes ≡ key ++ value) where
  pub key_is : take (length key) bytes ≡ key
  key_is = sym (take-take (length key) (length key + length value) bytes (le-add_right _ _)) ∙ ap (take (length key)) is ∙ take_at key value (length key) refl

  pub value_is : drop (length key) (take (length key + length value) bytes) ≡ value
  value_is = ap (drop (length key)) is ∙ drop_at key value (length key) refl

-- How the reader of a text goes on.
use Rattle.std.proofs.Common.{◌≡◌, ◌<◌, ◌≤◌, ◌+◌, ◌++◌, ◌∷◌, [], ℕ, suc, true, false, List, length, get_or, take, drop, sym, ap, subst, ◌∙◌, arith, length-drop}
use Rattle.std.specs.Prelude.{◌-◌}
use Rattle.std.proofs.lemmas.List.{get_or-drop, take_more}
use Rattle.px_pieces.specs.Pieces.{byte}
use Rattle.px_pieces.specs.Taking.{IsPartWay, IsStoppedAt, IsTakenAt}
use Rattle.px_pieces.proofs.Takes.{part_done, part_more, part_none, part_stopped, stopped_byte, stopped_end, taken_byte}
use Rattle.px_schema.specs.Texts.{CharState, char_next, char_ok, no_char, text}

-- so many bytes of a text were taken
abbrev pub IsTextPart : ℕ → List ℕ → ℕ → ℕ → CharState → Type 0
IsTextPart size bytes at taken s = IsPartWay 0 (λ left s. byte (char_ok left s)) char_next size no_char bytes at (take taken (drop at bytes)) (size - taken) s (at + taken)

module _ (size : ℕ) (bytes : List ℕ) (at : ℕ) where
  pub text_start : at ≤ length bytes → IsTextPart size bytes at 0 no_char
  text_start le =
      subst (λ (n : ℕ). IsPartWay 0 (λ left s. byte (char_ok left s)) char_next size no_char bytes at [] n no_char (at + 0)) (let e : size ≡ size - 0 = omega arith in e)
      (subst (λ (n : ℕ). IsPartWay 0 (λ left s. byte (char_ok left s)) char_next size no_char bytes at [] size no_char n) (let e : at ≡ at + 0 = omega arith in e) (part_none 0 (λ left s. byte (char_ok left s)) char_next bytes size no_char at le))

  module _ (taken : ℕ) (s : CharState) (part : IsTextPart size bytes at taken s) (before : taken < size) where
    left_is : size - taken ≡ suc (size - 1 - taken)
    left_is = omega arith

    pub text_more : at + taken < length bytes → char_ok (size - 1 - taken) s (get_or bytes (at + taken) 0) ≡ true → IsTextPart size bytes at (taken + 1) (char_next s (get_or bytes (at + taken) 0))
    text_more lt ok =
        let b = get_or bytes (at + taken) 0 in
        let left : size - 1 - taken ≡ size - (taken + 1) = omega arith in
        let place : at + taken + 1 ≡ at + (taken + 1) = omega arith in
        let long = length-drop at bytes in
        let front : take taken (drop at bytes) ++ b ∷ [] ≡ take (taken + 1) (drop at bytes) = ap (λ (x : ℕ). take taken (drop at bytes) ++ x ∷ []) (sym (get_or-drop at bytes taken 0)) ∙ sym (take_more (drop at bytes) taken 0 (omega (arith, long))) in
        let way = part_more 0 (λ left s. byte (char_ok left s)) char_next bytes size no_char at (take taken (drop at bytes)) (size - taken) (size - 1 - taken) s (at + taken) b (at + taken + 1) left_is part (taken_byte bytes (at + taken) (char_ok (size - 1 - taken) s) lt ok) in
        subst (λ (l : List ℕ). IsPartWay 0 (λ left s. byte (char_ok left s)) char_next size no_char bytes at l (size - (taken + 1)) (char_next s b) (at + (taken + 1))) front
        (subst (λ (n : ℕ). IsPartWay 0 (λ left s. byte (char_ok left s)) char_next size no_char bytes at (take taken (drop at bytes) ++ b ∷ []) n (char_next s b) (at + (taken + 1))) left
        (subst (λ (p : ℕ). IsPartWay 0 (λ left s. byte (char_ok left s)) char_next size no_char bytes at (take taken (drop at bytes) ++ b ∷ []) (size - 1 - taken) (char_next s b) p) place way))

    pub text_wrong : at + taken < length bytes → char_ok (size - 1 - taken) s (get_or bytes (at + taken) 0) ≡ false → IsStoppedAt (text size) bytes at (at + taken)
    unfolding text
    text_wrong lt not =
        part_stopped 0 (λ left s. byte (char_ok left s)) char_next bytes size no_char at (take taken (drop at bytes)) (size - taken) (size - 1 - taken) s (at + taken) (at + taken) left_is part (stopped_byte bytes (at + taken) (char_ok (size - 1 - taken) s) lt not)

    pub text_cut : length bytes ≤ at + taken → IsStoppedAt (text size) bytes at (at + taken)
    unfolding text
    text_cut le =
        part_stopped 0 (λ left s. byte (char_ok left s)) char_next bytes size no_char at (take taken (drop at bytes)) (size - taken) (size - 1 - taken) s (at + taken) (at + taken) left_is part (stopped_end bytes (at + taken) (char_ok (size - 1 - taken) s) le)

  pub text_done : (taken : ℕ) (s : CharState) → taken ≡ size → IsTextPart size bytes at taken s → IsTakenAt (text size) bytes at (take size (drop at bytes)) (at + size)
  unfolding text
  text_done taken s is part = subst (λ (n : ℕ). IsTakenAt (text size) bytes at (take n (drop at bytes)) (at + n)) is
      (part_done 0 (λ left s. byte (char_ok left s)) char_next bytes size no_char at (take taken (drop at bytes)) (size - taken) s (at + taken) (omega arith) part)

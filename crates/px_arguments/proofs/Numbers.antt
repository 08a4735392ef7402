-- A number is read of its digits, and of nothing else.
use Rattle.std.proofs.Common.{ℕ, ◌≡◌, ◌≢◌, ◌<◌, ◌==◌, ◌^◌, ◌&&◌, Bool, true, false, nat_lt, if◌then◌else◌, None, Some, Result, Ok, Err, List, length, get_or, refl, sym, ◌∙◌, ap, subst}
use Rattle.std.specs.Prelude.{slice_index}
use Rattle.std.specs.Result.{OkIff}
use Rattle.std.specs.Str.{all_ascii_digits}
use Rattle.std.specs.Str.Parse.{ParsesUnsigned, digits_value}
use Rattle.std.proofs.lemmas.Bool.{false≢true, lt-ltb, ltb-true}
use Rattle.std.proofs.lemmas.Str.Parse.{IsNumeralModel, numerals_by_value, parse_plain, tells_all_ascii_digits}
use Rattle.px_arguments.specs.Arguments.{number_named}

pub numerals : IsNumeralModel (λ ds. all_ascii_digits ds ≡ true) (digits_value 10)
numerals = numerals_by_value (λ ds. all_ascii_digits ds ≡ true) tells_all_ascii_digits

-- digits alone, at least one, of a number that has 64 bits at most
abbrev pub IsShort : List ℕ → Type 0
IsShort text = (all_ascii_digits text ≡ true) × (0 < length text) × (digits_value 10 text < 2 ^ 64)

pub named : (text : List ℕ) → IsShort text → number_named text ≡ Some (digits_value 10 text)
named text h =
    let digits = h.0 in
    let some : nat_lt 0 (length text) ≡ true = lt-ltb 0 (length text) h.1 in
    let short : nat_lt (digits_value 10 text) (2 ^ 64) ≡ true = lt-ltb (digits_value 10 text) (2 ^ 64) h.2 in
    λ i. if digits i && some i && short i then Some (digits_value 10 text) else None

not_named : (text : List ℕ) → ¬ (IsShort text) → number_named text ≡ None
not_named text h = by_parts (all_ascii_digits text) (nat_lt 0 (length text)) (nat_lt (digits_value 10 text) (2 ^ 64)) refl refl refl
  where
    by_parts : (a b c : Bool) → all_ascii_digits text ≡ a → nat_lt 0 (length text) ≡ b → nat_lt (digits_value 10 text) (2 ^ 64) ≡ c → (if a && b && c then Some (digits_value 10 text) else None) ≡ None
    by_parts true true true digits some short = absurd (h (digits, ltb-true 0 (length text) some, ltb-true (digits_value 10 text) (2 ^ 64) short))
    by_parts true true false digits some short = refl
    by_parts true false c digits some short = refl
    by_parts false b c digits some short = refl

-- a text that doesn't begin with a plus
plain : (text : List ℕ) → false ≡ (slice_index text 0 == 43) → get_or text 0 0 ≢ 43
plain text h e = false≢true (h ∙ ap (λ (x : ℕ). x == 43) e)

module _ {E : Type 0} (text : List ℕ) (r : Result ℕ E) (h : false ≡ (slice_index text 0 == 43)) (parses : ParsesUnsigned 64 10 text r) where
  found : OkIff r (IsShort text) (digits_value 10 text)
  found = parse_plain numerals 64 text r parses (plain text h)

  pub read : (n : ℕ) → r ≡ Ok n → Some n ≡ number_named text
  read n is = (let k : OkIff {T = ℕ} {E = E} (Ok n) (IsShort text) (digits_value 10 text) = subst (λ (x : Result ℕ E). OkIff x (IsShort text) (digits_value 10 text)) is found in sym (named text k.0 ∙ ap Some (sym k.1)))

  pub unread : (e : E) → r ≡ Err e → None ≡ number_named text
  unread e is = sym (not_named text (subst (λ (x : Result ℕ E). OkIff x (IsShort text) (digits_value 10 text)) is found))

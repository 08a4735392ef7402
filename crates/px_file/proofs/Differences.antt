-- The first place where bytes differ.
use Rattle.std.proofs.Common.{◌≡◌, ℕ, ◌+◌, ◌<◌, ◌≤◌, List, [], ◌∷◌, ◌++◌, length, take, get_or, sym, ap, ◌∙◌, arith}
use Rattle.std.proofs.lemmas.List.{get_or-take, length-take, take-take, take_all, take_more}
use Rattle.px_file.specs.Reading.{DiffersAt, IsOther}
use Rattle.px_file.specs.Reading.IsOther.{byte, short, long}

pub same_more : (found right : List ℕ) (i : ℕ) → take i found ≡ take i right → i < length found → i < length right → get_or found i 0 ≡ get_or right i 0 → take (i + 1) found ≡ take (i + 1) right
same_more found right i same f r e = take_more found i 0 f ∙ ap (λ (l : List ℕ). l ++ get_or found i 0 ∷ []) same ∙ ap (λ (n : ℕ). take i right ++ n ∷ []) e ∙ sym (take_more right i 0 r)

pub same_all : (found right : List ℕ) (i : ℕ) → take i found ≡ take i right → i ≡ length right → length found ≤ length right → found ≡ right
same_all found right i same all le = sym (take_all i found (omega arith)) ∙ same ∙ take_all i right (omega arith)

-- more bytes behind those that were compared change nothing
pub differs_more : (right found : List ℕ) (place : ℕ) → DiffersAt right (take (length right + 1) found) place → DiffersAt right found place
differs_more right found place d = by d.other
  where
    front : place ≤ length right → take place found ≡ take place right
    front le = sym (take-take place (length right + 1) found (omega arith)) ∙ d.before

    len : length (take (length right + 1) found) ≡ Rattle.std.specs.Prelude.min (length right + 1) (length found)
    len = length-take (length right + 1) found

    by : IsOther right (take (length right + 1) found) place → DiffersAt right found place
    by (byte r f e) = record { before = front (omega arith); other = byte r (let l = len in omega arith) (λ same. e (same ∙ sym (get_or-take (length right + 1) found place 0 (omega arith)))) }
    by (short e r) = record { before = front (omega arith); other = short (let l = len in omega arith) r }
    by (long e f) = record { before = front (omega arith); other = long e (let l = len in omega arith) }

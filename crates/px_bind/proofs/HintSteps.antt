-- The hints among what is left of tokens.
use Rattle.std.proofs.Common.{◌≡◌, ◌<◌, ◌≤◌, ◌+◌, ◌-◌, ℕ, zero, suc, List, [], ◌∷◌, ◌++◌, length, map, drop, refl, ap, ◌∙◌, sym, arith, append_assoc}
use Rattle.std.specs.Option.{option_to_list}
use Rattle.px_lex.specs.Lexemes.{Seen, seen}
use Rattle.px_lex.specs.declared.token.Token.{Token}
use Rattle.px_bind.specs.Hints.{hint_at, hints_among, length_behind}
use Rattle.px_bind.specs.declared.request.Hint.{Hint}

-- something is left at a place within a list
some_rest : {X : Type 0} (xs : List X) (i : ℕ) → i < length xs → (x : X) × (drop i xs ≡ x ∷ drop (i + 1) xs)
some_rest [] i l = absurd (omega arith)
some_rest (y ∷ ys) zero l = (y, refl)
some_rest {X} (y ∷ ys) (suc i) l =
    let rest = some_rest ys i (omega arith) in
    let place : suc (i + 1) ≡ suc i + 1 = omega arith in
    (rest.0, rest.1 ∙ ap (λ (n : ℕ). rest.0 ∷ drop n (y ∷ ys)) place)

passed_one : (table : List ℕ) (skip : ℕ) (t : Seen) (ts : List Seen) → 0 < skip → hints_among table skip (t ∷ ts) ≡ hints_among table (skip - 1) ts
passed_one table zero t ts l = absurd (omega arith)
passed_one table (suc skip) t ts l = let one : skip ≡ suc skip - 1 = omega arith in ap (λ (n : ℕ). hints_among table n ts) one

-- a token that belongs to a hint
pub passed : (table : List ℕ) (skip : ℕ) (tokens : List Token) (i : ℕ) → i < length tokens → 0 < skip → hints_among table skip (map seen (drop i tokens)) ≡ hints_among table (skip - 1) (map seen (drop (i + 1) tokens))
passed table skip tokens i within some =
    let rest = some_rest tokens i within in
    ap (λ (l : List Token). hints_among table skip (map seen l)) rest.1 ∙ passed_one table skip (seen rest.0) (map seen (drop (i + 1) tokens)) some

-- a token that may begin a hint
pub taken : (table : List ℕ) (tokens : List Token) (i : ℕ) → i < length tokens
    → hints_among table 0 (map seen (drop i tokens)) ≡ option_to_list (hint_at table (map seen (drop i tokens))) ++ hints_among table (length_behind (hint_at table (map seen (drop i tokens)))) (map seen (drop (i + 1) tokens))
taken table tokens i within =
    let rest = some_rest tokens i within in
    ap (λ (l : List Token). hints_among table 0 (map seen l)) rest.1
    ∙ sym (ap (λ (l : List Token). option_to_list (hint_at table (map seen l)) ++ hints_among table (length_behind (hint_at table (map seen l))) (map seen (drop (i + 1) tokens))) rest.1)

-- the same behind the hints that were found before
pub one_taken : (table : List ℕ) (tokens : List Token) (i behind : ℕ) (all before after : List Hint) → i < length tokens → all ≡ before ++ hints_among table 0 (map seen (drop i tokens))
    → after ≡ before ++ option_to_list (hint_at table (map seen (drop i tokens))) → behind ≡ length_behind (hint_at table (map seen (drop i tokens))) → all ≡ after ++ hints_among table behind (map seen (drop (i + 1) tokens))
one_taken table tokens i behind all before after within left added is =
    let h : List Hint = option_to_list (hint_at table (map seen (drop i tokens))) in
    let rest : List Hint = hints_among table (length_behind (hint_at table (map seen (drop i tokens)))) (map seen (drop (i + 1) tokens)) in
    left ∙ ap (λ (l : List Hint). before ++ l) (taken table tokens i within) ∙ sym (append_assoc before h rest)
    ∙ sym (ap (λ (l : List Hint). l ++ rest) added) ∙ sym (ap (λ (n : ℕ). after ++ hints_among table n (map seen (drop (i + 1) tokens))) is)

-- the same where those tokens are what was read
pub one_read : (table : List ℕ) (tokens given : List Token) (i skip behind : ℕ) (all before after : List Hint) → given ≡ drop i tokens → skip ≤ 0 → i < length tokens
    → all ≡ before ++ hints_among table skip (map seen (drop i tokens)) → after ≡ before ++ option_to_list (hint_at table (map seen given)) → behind ≡ length_behind (hint_at table (map seen given))
    → all ≡ after ++ hints_among table behind (map seen (drop (i + 1) tokens))
one_read table tokens given i skip behind all before after same none within left added is =
    let zero_left : skip ≡ 0 = omega arith in
    one_taken table tokens i behind all before after within (left ∙ ap (λ (n : ℕ). before ++ hints_among table n (map seen (drop i tokens))) zero_left)
    (added ∙ ap (λ (l : List Token). before ++ option_to_list (hint_at table (map seen l))) same) (is ∙ ap (λ (l : List Token). length_behind (hint_at table (map seen l))) same)

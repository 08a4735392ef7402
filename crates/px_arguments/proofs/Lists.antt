-- A list of sessions is read of its names and commas, and of nothing else.
use Rattle.std.proofs.Common.{ℕ, suc, ◌+◌, ◌-◌, ◌≡◌, ◌<◌, ◌==◌, not, if◌then◌else◌, Bool, true, false, Option, None, Some, List, [], ◌∷◌, ◌++◌, length, take, drop, refl, sym, ◌∙◌, ap, arith, append_assoc}
use Rattle.std.specs.Option.{option_and_then, option_map, is_some}
use Rattle.std.specs.List.{before_first, after_first, position_or_len}
use Rattle.std.specs.Str.{all_ascii_digits}
use Rattle.std.specs.Char.{is_ascii_digit}
use Rattle.std.proofs.lemmas.Bool.{and_parts, eqb-true, false≢true, leb-true}
use Rattle.std.proofs.lemmas.List.{append-nil}
use Rattle.px_arguments.specs.Arguments.{session_among, sessions_from}

-- 1. By the first comma

abbrev pub is_comma : ℕ → Bool
is_comma b = b == 44

-- a name in front of a comma, and what stands behind it
abbrev pub and_more : (most : ℕ) → (name rest : List ℕ) → Option (List ℕ)
and_more most name rest = option_and_then (λ n. option_map (λ ns. n ∷ ns) (sessions_from (most - 1) [] rest)) (session_among most name)

abbrev pub alone : (most : ℕ) → (name : List ℕ) → Option (List ℕ)
alone most name = option_map (λ n. n ∷ []) (session_among most name)

one_more : (n : ℕ) → 1 + n ≡ suc n
one_more n = omega arith

one_behind : (n : ℕ) → suc (n + 1) ≡ suc n + 1
one_behind n = omega arith

first_from : (text begun : List ℕ) (most : ℕ) → position_or_len is_comma text < length text → sessions_from most begun text ≡ and_more most (begun ++ before_first is_comma text) (after_first is_comma text)
first_from [] begun most h = absurd (omega arith)
first_from (x ∷ xs) begun most h = by (first_from xs (begun ++ (x ∷ [])) most) (x == 44) h
  where
    pos : ℕ
    pos = position_or_len is_comma xs

    by : (pos < length xs → sessions_from most (begun ++ (x ∷ [])) xs ≡ and_more most ((begun ++ (x ∷ [])) ++ before_first is_comma xs) (after_first is_comma xs))
        → (b : Bool) → (if not b then 1 + pos else 0) < length (x ∷ xs)
        → (if b then and_more most begun xs else sessions_from most (begun ++ (x ∷ [])) xs)
        ≡ and_more most (begun ++ take (if not b then 1 + pos else 0) (x ∷ xs)) (drop ((if not b then 1 + pos else 0) + 1) (x ∷ xs))
    by rest true l = ap (λ (w : List ℕ). and_more most w xs) (sym (append-nil begun))
    by rest false l =
        rest (omega arith)
        ∙ (ap (λ (w : List ℕ). and_more most w (after_first is_comma xs)) (append_assoc begun (x ∷ []) (take pos xs))
        ∙ (ap (λ (n : ℕ). and_more most (begun ++ take (suc pos) (x ∷ xs)) (drop n (x ∷ xs))) (one_behind pos)
        ∙ ap (λ (n : ℕ). and_more most (begun ++ take n (x ∷ xs)) (drop (n + 1) (x ∷ xs))) (sym (one_more pos))))

last_from : (text begun : List ℕ) (most : ℕ) → position_or_len is_comma text ≡ length text → sessions_from most begun text ≡ alone most (begun ++ text)
last_from [] begun most h = ap (alone most) (sym (append-nil begun))
last_from (x ∷ xs) begun most h = by (last_from xs (begun ++ (x ∷ [])) most) (x == 44) h
  where
    pos : ℕ
    pos = position_or_len is_comma xs

    by : (pos ≡ length xs → sessions_from most (begun ++ (x ∷ [])) xs ≡ alone most ((begun ++ (x ∷ [])) ++ xs))
        → (b : Bool) → (if not b then 1 + pos else 0) ≡ length (x ∷ xs) → (if b then and_more most begun xs else sessions_from most (begun ++ (x ∷ [])) xs) ≡ alone most (begun ++ (x ∷ xs))
    by rest true l = absurd (omega (arith, l))
    by rest false l = rest (omega (arith, l)) ∙ ap (alone most) (append_assoc begun (x ∷ []) xs)

-- a name is what stands before the first comma
pub first_named : (text : List ℕ) (most : ℕ) → position_or_len is_comma text < length text → sessions_from most [] text ≡ and_more most (before_first is_comma text) (after_first is_comma text)
first_named text most h = first_from text [] most h

pub last_named : (text : List ℕ) (most : ℕ) → position_or_len is_comma text ≡ length text → sessions_from most [] text ≡ alone most text
last_named text most h = last_from text [] most h

-- a text that is cut at its first comma
abbrev pub IsCut : (text name rest : List ℕ) → Type 0
IsCut text name rest = (name ≡ before_first is_comma text) × (rest ≡ after_first is_comma text) × (position_or_len is_comma text < length text)

cut_named : (most : ℕ) (text name rest : List ℕ) → IsCut text name rest → sessions_from most [] text ≡ and_more most name rest
cut_named most text name rest h = first_named text most h.2 ∙ sym (λ i. and_more most (h.0 i) (h.1 i))

pub named_more : (most n : ℕ) (text name rest : List ℕ) → IsCut text name rest → session_among most name ≡ Some n → sessions_from most [] text ≡ option_map (λ ns. n ∷ ns) (sessions_from (most - 1) [] rest)
named_more most n text name rest h is = cut_named most text name rest h ∙ ap (option_and_then (λ m. option_map (λ ns. m ∷ ns) (sessions_from (most - 1) [] rest))) is

pub unnamed : (most : ℕ) (text name rest : List ℕ) → IsCut text name rest → session_among most name ≡ None → sessions_from most [] text ≡ None
unnamed most text name rest h is = cut_named most text name rest h ∙ ap (option_and_then (λ m. option_map (λ ns. m ∷ ns) (sessions_from (most - 1) [] rest))) is

mapped_some : {A B : Type 0} (f : A → B) (o : Option A) → is_some (option_map f o) ≡ is_some o
mapped_some f None = refl
mapped_some f (Some x) = refl

-- whether a list names sessions is told by what stands behind its first one
pub more_some : (most : ℕ) (text name rest : List ℕ) → IsCut text name rest → (o : Option ℕ) → o ≡ session_among most name → is_some o ≡ true → is_some (sessions_from (most - 1) [] rest) ≡ is_some (sessions_from most [] text)
more_some most text name rest h None is some = absurd (false≢true some)
more_some most text name rest h (Some n) is some = sym (ap is_some (named_more most n text name rest h (sym is)) ∙ mapped_some (λ (ns : List ℕ). n ∷ ns) (sessions_from (most - 1) [] rest))

pub last_some : (most : ℕ) (text : List ℕ) → position_or_len is_comma text ≡ length text → is_some (session_among most text) ≡ is_some (sessions_from most [] text)
last_some most text h = sym (ap is_some (last_named text most h) ∙ mapped_some (λ (n : ℕ). n ∷ []) (session_among most text))

-- one session more
pub kept_more : (items : List ℕ) (n : ℕ) (o : Option (List ℕ)) → option_map (λ ns. items ++ ns) (option_map (λ ns. n ∷ ns) o) ≡ option_map (λ ns. (items ++ (n ∷ [])) ++ ns) o
kept_more items n None = refl
kept_more items n (Some ns) = ap Some (sym (append_assoc items (n ∷ []) ns))

-- 2. Digits

not_comma : (x : ℕ) → is_ascii_digit x ≡ true → (x == 44) ≡ false
not_comma x digit = by (x == 44) refl
  where
    by : (b : Bool) → (x == 44) ≡ b → b ≡ false
    by true e = (let is = eqb-true x 44 e in let low = leb-true 48 x (and_parts _ _ digit).0 in absurd (omega (arith, is, low)))
    by false e = refl

-- digits are part of a name
pub digits_pass : (name rest begun : List ℕ) (most : ℕ) → all_ascii_digits name ≡ true → sessions_from most begun (name ++ rest) ≡ sessions_from most (begun ++ name) rest
digits_pass [] rest begun most h = ap (λ (w : List ℕ). sessions_from most w rest) (sym (append-nil begun))
digits_pass (x ∷ xs) rest begun most h =
    let digit = (and_parts _ _ h).0 in
    ap (λ b. if b then and_more most begun (xs ++ rest) else sessions_from most (begun ++ (x ∷ [])) (xs ++ rest)) (not_comma x digit)
    ∙ (digits_pass xs rest (begun ++ (x ∷ [])) most (and_parts _ _ h).1
    ∙ ap (λ (w : List ℕ). sessions_from most w rest) (append_assoc begun (x ∷ []) xs))

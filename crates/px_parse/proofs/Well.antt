-- The lexer's tokens are as readers use them.
use Rattle.std.proofs.Common.{◌≡◌, ℕ, zero, suc, ◌+◌, ◌-◌, ◌<◌, Bool, true, false, not, cond, List, [], ◌∷◌, ◌++◌, length, take, drop, refl, sym, ap, ◌∙◌, subst, arith, length-append}
use Rattle.std.specs.List.{list_all}
use Rattle.std.specs.Str.{str_eq_ignore_ascii_case}
use Rattle.std.proofs.lemmas.Bool.{and_parts, eqb-true}
use Rattle.std.proofs.lemmas.List.{take_at}
use Rattle.px_lex.specs.declared.kind.Kind.{Kind}
use Rattle.px_lex.specs.declared.kind.Kind.TheVariants as k
use Rattle.px_lex.specs.declared.form.Form.{Form}
use Rattle.px_lex.specs.declared.form.Form.TheVariants as forms
use Rattle.px_lex.specs.Kinds.{same_kind}
use Rattle.px_lex.specs.Bytes.{starts, spells_word, is_letter, is_word, pairs}
use Rattle.px_lex.specs.Keywords.{keywords, keyword, lookup}
use Rattle.px_lex.specs.Lexemes.{Seen, Lexeme, IsToken, IsLexeme, AreLexemes, joined_text, token_of, tokens_from, is_fault, before_fault}
use Rattle.px_ast.specs.Grammar.{unquoted}
use Rattle.px_words.specs.Tokens.{IsEnclosed, IsWell, AreWell}
use Rattle.px_parse.specs.Texts.{true_token}
use Rattle.px_statements.proofs.Laws.{same_kind-true}

pub AreWell-append : (ts us : List Seen) → AreWell ts → AreWell us → AreWell (ts ++ us)
AreWell-append [] us h i = i
AreWell-append (t ∷ ts) us h i = (h.0, AreWell-append ts us h.1 i)

pub AreWell-take : (n : ℕ) (ts : List Seen) → AreWell ts → AreWell (take n ts)
AreWell-take zero ts h = tt
AreWell-take (suc n) [] h = tt
AreWell-take (suc n) (t ∷ ts) h = (h.0, AreWell-take n ts h.1)

enclosed : (quote : ℕ) (text inner : List ℕ) → text ≡ quote ∷ (inner ++ quote ∷ []) → quote < 128 → IsEnclosed text
enclosed quote text inner whole ascii = (quote, quote, inner, whole, ascii, ascii)

unquoted_is : (quote : ℕ) (text inner : List ℕ) → text ≡ quote ∷ (inner ++ quote ∷ []) → unquoted text ≡ inner
unquoted_is quote text inner whole =
    let n : length text - 2 ≡ length inner = omega (arith, ap length whole, length-append inner (quote ∷ [])) in
    ap (take (length text - 2)) (ap (drop 1) whole) ∙ ap (λ (m : ℕ). take m (inner ++ quote ∷ [])) n ∙ take_at inner (quote ∷ []) (length inner) refl

-- a word begins with a letter, so with no quote
word_starts : (text : List ℕ) → spells_word text ≡ true → starts 34 text ≡ true → ⊥
word_starts [] h s = absurd cc
word_starts (b ∷ text) h s =
    let letter = (and_parts (is_letter b) (list_all is_word text) h).0 in
    let quote : is_letter 34 ≡ true = ap is_letter (sym (eqb-true b 34 s)) ∙ letter in
    absurd cc

negated : (b : Bool) → not b ≡ true → b ≡ false
negated true h = absurd cc
negated false h = refl

-- no keyword is a text
none_is_text : (table : List (List ℕ × Kind)) → list_all (λ x. not (same_kind x.1 k.Text)) table ≡ true → (word : List ℕ) → same_kind k.Name k.Text ≡ false → same_kind (lookup table word) k.Text ≡ false
none_is_text [] all word name = name
none_is_text (x ∷ table) all word name =
    let both = and_parts (not (same_kind x.1 k.Text)) (list_all (λ x. not (same_kind x.1 k.Text)) table) all in
    by_test (str_eq_ignore_ascii_case x.0 word) (negated _ both.0) (none_is_text table both.1 word name)
  where
    by_test : (b : Bool) → same_kind x.1 k.Text ≡ false → same_kind (lookup table word) k.Text ≡ false → same_kind (cond b x.1 (lookup table word)) k.Text ≡ false
    by_test true h i = h
    by_test false h i = i

keyword_is_no_text : (word : List ℕ) → same_kind (keyword word) k.Text ≡ false
unfolding keyword same_kind
keyword_is_no_text word = none_is_text keywords refl word refl

word_well : (place : ℕ) (text : List ℕ) → spells_word text ≡ true → IsWell (record { kind = keyword text; place = place; text = text })
word_well place text h = record {
  name = λ e s. absurd (word_starts text h s);
  text = λ e. absurd (let x = sym e ∙ keyword_is_no_text text in cc);
}

token_well : (kind : Kind) (place : ℕ) (text after : List ℕ) → IsToken kind text after → IsWell (record { kind = kind; place = place; text = text })
token_well kind place text after h = record {
  name = λ e s. name_well (subst (λ (x : Kind). IsToken x text after) (same_kind-true kind k.Name e) h);
  text = λ e. text_well (subst (λ (x : Kind). IsToken x text after) (same_kind-true kind k.Text e) h);
}
  where
    name_well : IsToken k.Name text after → IsEnclosed text
    name_well i = enclosed 34 text i.0 i.1 (omega arith)

    text_well : IsToken k.Text text after → IsEnclosed text × (pairs false (unquoted text) ≡ true)
    text_well i = (enclosed 39 text i.0 i.1 (omega arith), ap (pairs false) (unquoted_is 39 text i.0 i.1) ∙ i.2)

lexeme_well : (form : Form) (place : ℕ) (text after : List ℕ) → IsLexeme form text after → AreWell (token_of form place text)
lexeme_well forms.Word place text after h = (word_well place text h.0, tt)
lexeme_well (forms.Token kind) place text after h = (token_well kind place text after h, tt)
lexeme_well form place text after h = tt

pub well_before : (place : ℕ) (xs : List Lexeme) (after : List ℕ) → AreLexemes xs after → AreWell (tokens_from place (before_fault xs))
well_before place [] after h = tt
well_before place (x ∷ xs) after h = by_test (is_fault x.form) (AreWell-append _ _ (lexeme_well x.form place x.text (joined_text xs ++ after) h.0) (well_before (place + length x.text) xs after h.1))
  where
    by_test : (b : Bool) → AreWell (tokens_from place (x ∷ before_fault xs)) → AreWell (tokens_from place (cond b [] (x ∷ before_fault xs)))
    by_test true i = tt
    by_test false i = i

pub true_well : (tokens : List Seen) → AreWell tokens → AreWell (tokens ++ true_token ∷ [])
unfolding same_kind
true_well tokens h = AreWell-append tokens (true_token ∷ []) h (is_true, tt)
  where
    is_true : IsWell true_token
    is_true = record { name = λ e s. absurd cc; text = λ e. absurd cc }

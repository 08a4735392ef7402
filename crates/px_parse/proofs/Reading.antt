-- From what a text is made of to what a parser of texts answers.
use Rattle.std.proofs.Common.{◌≡◌, ◌≢◌, ℕ, ◌+◌, List, [], ◌∷◌, length, map, Option, Some, None, Result, Ok, Err, IsErrAnd, arith, sym, ap, ◌∙◌, subst}
use Rattle.px_lex.specs.declared.form.Form.{Form}
use Rattle.px_lex.specs.declared.form.Form.TheVariants as forms
use Rattle.px_lex.specs.declared.token.Lexed.{Lexed}
use Rattle.px_lex.specs.declared.token.LexFault.{LexFault}
use Rattle.px_lex.specs.declared.token.LexFault.TheVariants as lexical
use Rattle.px_lex.specs.Lexemes.{Lexeme, IsTextReading, IsLexed, seen, tokens_from, lex_fault_at, fault_or_else, fault_from, before_fault}
use Rattle.px_lex.proofs.Readings.{same_reading, some_reading, before_none}
use Rattle.px_ast.specs.declared.statement.Statement.{Statement}
use Rattle.px_ast.specs.Statements.{ReadsWithin, depth_limit}
use Rattle.px_parse.specs.declared.syntax.SyntaxFault.{SyntaxFault}
use Rattle.px_parse.specs.declared.syntax.SyntaxFault.TheVariants as faults
use Rattle.px_words.specs.Tokens.{AreWell}
use Rattle.px_parse.specs.Texts.{IsTextParse, end_of, AnswersStatement}
use Rattle.px_parse.proofs.Well.{well_before}

pub lexed_well : (text : List ℕ) (found : Lexed) → IsLexed text found → AreWell (map seen found.tokens.items)
lexed_well text found h = subst AreWell (sym h.tokens) (well_before 0 h.lexemes [] h.reading.1)

-- a fault of the lexer isn't want of memory
form_fault : (form : Form) (place : ℕ) → lex_fault_at form place ≡ Some lexical.Memory → ⊥
form_fault forms.BadCharacter place e = absurd cc
form_fault forms.Unclosed place e = absurd cc
form_fault forms.NumberTooLong place e = absurd cc
form_fault form place e = absurd cc

either_fault : (a b : Option LexFault) → (a ≡ Some lexical.Memory → ⊥) → (b ≡ Some lexical.Memory → ⊥) → fault_or_else a b ≡ Some lexical.Memory → ⊥
either_fault None b h i e = i e
either_fault (Some f) b h i e = h e

no_memory_fault : (place : ℕ) (xs : List Lexeme) → fault_from place xs ≡ Some lexical.Memory → ⊥
no_memory_fault place [] e = absurd cc
no_memory_fault place (x ∷ xs) e = either_fault (lex_fault_at x.form place) (fault_from (place + length x.text) xs) (form_fault x.form place) (no_memory_fault (place + length x.text) xs) e

pub lexed_fault : (text : List ℕ) (found : Lexed) (fault : LexFault) → IsLexed text found → found.fault ≡ Some fault → fault ≢ lexical.Memory
lexed_fault text found fault h e = λ m. no_memory_fault 0 h.lexemes (sym h.fault ∙ e ∙ ap (λ (f : LexFault). Some f) m)

-- the answer to the tokens is the answer to the text
pub answers_text : (text : List ℕ) (found : Lexed) (fault : Option LexFault) (r : Result Statement SyntaxFault) → IsLexed text found → found.fault ≡ fault → IsTextParse fault (map seen found.tokens.items) (end_of text fault) r
    → (xs : List Lexeme) × IsTextReading text xs × AnswersStatement text xs r
answers_text text found fault r h e parsed =
    let same : fault ≡ fault_from 0 h.lexemes = sym e ∙ h.fault in
    (h.lexemes, h.reading, subst (λ (f : Option LexFault). IsTextParse f (tokens_from 0 (before_fault h.lexemes)) (end_of text f) r) same (subst (λ ts. IsTextParse fault ts (end_of text fault) r) h.tokens parsed))

-- a text has one reading, so its statement is that of the tokens
pub reads_tokens : (text : List ℕ) (found : Lexed) (xs : List Lexeme) (s : Statement) → IsLexed text found → IsTextReading text xs → fault_from 0 xs ≡ None → ReadsWithin depth_limit (tokens_from 0 xs) s → ReadsWithin depth_limit (map seen found.tokens.items) s
reads_tokens text found xs s h reading sound reads =
    let same : xs ≡ h.lexemes = same_reading text xs h.lexemes reading h.reading in
    let whole : before_fault h.lexemes ≡ xs = ap before_fault (sym same) ∙ before_none xs sound in
    subst (λ ts. ReadsWithin depth_limit ts s) (sym (h.tokens ∙ ap (tokens_from 0) whole)) reads

-- where one reading has no fault, the lexer found none
pub finds_none : (text : List ℕ) (found : Lexed) (xs : List Lexeme) → IsLexed text found → IsTextReading text xs → fault_from 0 xs ≡ None → found.fault ≡ None
finds_none text found xs h reading sound = h.fault ∙ ap (fault_from 0) (sym (same_reading text xs h.lexemes reading h.reading)) ∙ sound

pub memory_text : (text : List ℕ) (r : Result Statement SyntaxFault) → IsErrAnd r (λ e. e ≡ faults.Memory) → (xs : List Lexeme) × IsTextReading text xs × AnswersStatement text xs r
memory_text text (Ok s) h = absurd h
memory_text text (Err e) h =
    let some = some_reading (length text) text (omega arith) in
    (some.0, some.1, subst (λ (x : SyntaxFault). AnswersStatement text some.0 (Err x)) (sym h) tt)

use Rattle.std.proofs.Common.{◌≡◌, map, Some, None, Err, sym, ◌∙◌}
use Rattle.px_lex.specs.Lexemes.{seen}
use Rattle.px_parse.specs.Texts.{IsTextParse, end_of}
use Rattle.px_parse.proofs.Reading.{lexed_well, lexed_fault, answers_text, reads_tokens, finds_none, memory_text}
use Rattle.px_parse.proofs.parsing.parse.Goals as goal

pub returns-in_err-tokens-clause-answer : goal.returns-in_err-tokens-clause-answer
returns-in_err-tokens-clause-answer c = memory_text c.args.text.now c.from_residual.result c.from_residual.ensures.1

pub whole-requires : goal.whole-requires
whole-requires c = rw c.as_slice.ensures.value (lexed_well c.args.text.now c.in_ok-tokens.field-0 c.in_ok-tokens.ensures)

pub returns-in-None-clause-answer : goal.returns-in-None-clause-answer
returns-in-None-clause-answer c =
    let parsed : IsTextParse None (map seen c.in_ok-tokens.field-0.tokens.items) (end_of c.args.text.now None) c.whole.result = rw c.as_slice.ensures.value at c.whole.ensures.answer in
    answers_text c.args.text.now c.in_ok-tokens.field-0 None c.whole.result c.in_ok-tokens.ensures (c.in-None.is) parsed

pub returns-in-None-clause-only : goal.returns-in-None-clause-only
returns-in-None-clause-only c xs s reading sound reads free =
    let here = reads_tokens c.args.text.now c.in_ok-tokens.field-0 xs s c.in_ok-tokens.ensures reading sound reads in
    c.whole.ensures.only s (rw c.as_slice.ensures.value here) free

pub cut_short-requires-clause-well : goal.cut_short-requires-clause-well
cut_short-requires-clause-well c = rw c.as_slice-in-Some.ensures.value (lexed_well c.args.text.now c.in_ok-tokens.field-0 c.in_ok-tokens.ensures)

pub cut_short-requires-clause-fault : goal.cut_short-requires-clause-fault
cut_short-requires-clause-fault c = lexed_fault c.args.text.now c.in_ok-tokens.field-0 c.in-Some.fault c.in_ok-tokens.ensures c.in-Some.is

pub returns-clause-answer : goal.returns-clause-answer
returns-clause-answer c =
    let parsed = rw c.as_slice-in-Some.ensures.value at c.cut_short.ensures in
    answers_text c.args.text.now c.in_ok-tokens.field-0 (Some c.in-Some.fault) (Err c.cut_short.result) c.in_ok-tokens.ensures c.in-Some.is parsed

pub returns-clause-only : goal.returns-clause-only
returns-clause-only c xs s reading sound reads free =
    let none = finds_none c.args.text.now c.in_ok-tokens.field-0 xs c.in_ok-tokens.ensures reading sound in
    absurd (let x : Some c.in-Some.fault ≡ None = sym c.in-Some.is ∙ none in cc)

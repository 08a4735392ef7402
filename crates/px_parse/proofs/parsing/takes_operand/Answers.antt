use Rattle.std.proofs.Common.{◌∷◌, [], map, length, sym, ap, ◌∙◌, subst, arith, length-append}
use Rattle.std.proofs.lemmas.List.{length-map}
use Rattle.px_lex.specs.Lexemes.{Seen, seen}
use Rattle.px_statements.specs.Parsed.{BeginsOne}
use Rattle.px_words.specs.Tokens.{AreWell}
use Rattle.px_parse.specs.Texts.{true_token}
use Rattle.px_parse.proofs.Telling.{reads_begin, fault_begins_none}
use Rattle.px_parse.proofs.Well.{true_well}
use Rattle.px_parse.proofs.parsing.takes_operand.Goals as goal

pub why_not-requires : goal.why_not-requires
why_not-requires c =
    rw c.as_slice.ensures.value (subst AreWell (sym c.in_ok-with_true.ensures.tokens) (true_well (map seen c.args.tokens.now) c.requires))

pub returns-in-None : goal.returns-in-None
returns-in-None c =
    let same = ap (map seen) c.as_slice.ensures.value ∙ c.in_ok-with_true.ensures.tokens in
    subst BeginsOne same (reads_begin (map seen c.as_slice.result.now) c.in-None.ensures.0 c.in-None.ensures.1)

pub returns-in-Some-TooDeep : goal.returns-in-Some-TooDeep
returns-in-Some-TooDeep c =
    let same = ap (map seen) c.as_slice.ensures.value ∙ c.in_ok-with_true.ensures.tokens in
    let deep = rw c.in-Some-TooDeep.field-0-is at c.in-Some-TooDeep.ensures in
    subst BeginsOne same (reads_begin (map seen c.as_slice.result.now) deep.0.0 deep.0.1)

pub returns-then-at-tokens : goal.returns-then-at-tokens
returns-then-at-tokens c =
    let same = ap (map seen) c.as_slice.ensures.value ∙ c.in_ok-with_true.ensures.tokens in
    let fault = rw c.in-Some-Unexpected.field-0-is at c.in-Some-Unexpected.ensures in
    let n = ap (length {A = Seen}) same ∙ length-append (map seen c.args.tokens.now) (true_token ∷ []) in
    λ b. fault_begins_none (map seen c.as_slice.result.now) c.in-Some-Unexpected.at fault
    (omega (arith, n, length-map c.args.tokens.now seen, c.if-at-tokens.true)) (subst BeginsOne (sym same) b)

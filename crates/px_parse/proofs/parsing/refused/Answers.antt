use Rattle.std.proofs.Common.{map, sym, subst}
use Rattle.px_lex.specs.Lexemes.{seen}
use Rattle.px_parse.specs.Texts.{IsFunction}
use Rattle.px_parse.specs.inner.Telling.{TellsFirst}
use Rattle.px_parse.proofs.Telling.{denied, told, seen_rest}
use Rattle.px_parse.proofs.parsing.refused.Goals as goal

pub returns-in-Ok-deciding : goal.returns-in-Ok-deciding
returns-in-Ok-deciding c =
    let tokens = c.args.tokens.now in
    let plain = denied (IsFunction (map seen tokens) c.args.at) c.in-Ok.function c.if-function.false c.in-Ok.ensures in
    told (map seen tokens) c.args.at c.in-Ok-deciding.at c.args.end c.fault_at.result plain c.in-Ok-deciding.ensures.decides
    (subst (λ x. TellsFirst x c.args.end c.fault_at.result) (sym (seen_rest tokens c.in-Ok-deciding.at)) c.fault_at.ensures)

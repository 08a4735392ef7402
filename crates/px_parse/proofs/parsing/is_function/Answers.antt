use Rattle.std.proofs.Common.{◌-◌, map, arith}
use Rattle.px_lex.specs.declared.kind.Kind.TheVariants as k
use Rattle.px_lex.specs.Lexemes.{seen}
use Rattle.px_parse.proofs.Telling.{not_at_start, not_without_paren, function_if, seen_at}
use Rattle.px_parse.proofs.parsing.is_function.Goals as goal

pub returns-then-at-eq0 : goal.returns-then-at-eq0
returns-then-at-eq0 c = not_at_start (map seen c.args.tokens.now) c.args.at (omega (arith, c.if-at-eq0.true))

pub returns-then-begins_with : goal.returns-then-begins_with
returns-then-begins_with c =
    function_if (map seen c.args.tokens.now) c.args.at (c.args.at - 1) c.is_operand.result (omega (arith, c.if-at-eq0.false))
    (seen_at c.args.tokens.now c.args.at k.OpenParen _ _ c.begins_with.ensures c.if-begins_with.true) c.is_operand.ensures

pub returns : goal.returns
returns c = not_without_paren (map seen c.args.tokens.now) c.args.at (seen_at c.args.tokens.now c.args.at k.OpenParen _ _ c.begins_with.ensures c.if-begins_with.false)

use Rattle.std.proofs.Common.{map, sym, subst, ◌∷◌, [], ◌++◌}
use Rattle.std.specs.List.{take-map}
use Rattle.px_lex.specs.declared.kind.Kind.TheVariants as k
use Rattle.px_lex.specs.Lexemes.{seen}
use Rattle.px_statements.specs.Parsed.{BeginsOne}
use Rattle.px_words.specs.Tokens.{AreWell}
use Rattle.px_parse.specs.Texts.{true_token}
use Rattle.px_parse.specs.inner.Telling.{Tests}
use Rattle.px_parse.proofs.Telling.{operand_if, no_operand, seen_at}
use Rattle.px_parse.proofs.Well.{AreWell-take}
use Rattle.px_parse.proofs.parsing.is_operand.Goals as goal

pub takes_operand-requires : goal.takes_operand-requires
takes_operand-requires c = subst AreWell (take-map seen c.args.at c.args.tokens.now) (AreWell-take c.args.at (map seen c.args.tokens.now) c.requires.well)

pub returns-then-begins_with : goal.returns-then-begins_with
returns-then-begins_with c =
    operand_if (map seen c.args.tokens.now) c.args.at c.takes_operand.result
    (seen_at c.args.tokens.now c.args.at k.Name _ _ c.begins_with.ensures c.if-begins_with.true)
    (subst (λ x. Tests (BeginsOne (x ++ true_token ∷ [])) c.takes_operand.result) (sym (take-map seen c.args.at c.args.tokens.now)) c.takes_operand.ensures)

pub returns : goal.returns
returns c = no_operand (map seen c.args.tokens.now) c.args.at (seen_at c.args.tokens.now c.args.at k.Name _ _ c.begins_with.ensures c.if-begins_with.false)

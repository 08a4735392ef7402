use Rattle.std.proofs.Common.{◌≡◌, map, take}
use Rattle.px_lex.specs.Lexemes.{seen}
use Rattle.px_parse.proofs.parsing.with_true.Given as goal

abbrev pub invariant-loop-token : goal.invariant-loop-token
invariant-loop-token l = map seen l.found.items ≡ map seen (take l.token-index l.tokens)

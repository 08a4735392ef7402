use Rattle.std.proofs.Common.{◌≡◌, ◌++◌, map, drop}
use Rattle.px_lex.specs.Lexemes.{seen}
use Rattle.px_bind.specs.Hints.{hints_among}
use Rattle.px_bind.proofs.hints.hints.Given as goal

abbrev pub invariant-loop-index : goal.invariant-loop-index
invariant-loop-index l = hints_among l.table 0 (map seen l.tokens) ≡ l.hints.items ++ hints_among l.table l.skip (map seen (drop l.index l.tokens))

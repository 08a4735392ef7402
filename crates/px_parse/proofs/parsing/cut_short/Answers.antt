use Rattle.std.proofs.Common.{map}
use Rattle.px_lex.specs.Lexemes.{seen}
use Rattle.px_parse.proofs.Telling.{reads_begin, refused_at_fault}
use Rattle.px_parse.proofs.parsing.cut_short.Goals as goal

pub returns-in-None : goal.returns-in-None
returns-in-None c = rw c.place_of-end.ensures (refused_at_fault c.args.fault (map seen c.args.tokens.now) _ (reads_begin (map seen c.args.tokens.now) c.in-None.ensures.0 c.in-None.ensures.1))

pub returns-in-Some-TooDeep : goal.returns-in-Some-TooDeep
returns-in-Some-TooDeep c =
    let deep = rw c.in-Some-TooDeep.field-0-is at c.in-Some-TooDeep.ensures in
    rw c.place_of-end.ensures (refused_at_fault c.args.fault (map seen c.args.tokens.now) _ (reads_begin (map seen c.args.tokens.now) deep.0.0 deep.0.1))

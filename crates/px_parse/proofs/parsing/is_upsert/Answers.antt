use Rattle.std.proofs.Common.{map}
use Rattle.px_lex.specs.Lexemes.{seen}
use Rattle.px_parse.proofs.Upserts.{told}
use Rattle.px_parse.proofs.parsing.is_upsert.Goals as goal

pub returns-in-Ok : goal.returns-in-Ok
returns-in-Ok c = rw c.upserts-is_one.ensures (told (map seen c.args.tokens.now) c.in-Ok.read c.in-Ok.ensures.answer c.in-Ok.ensures.only)

use Rattle.std.proofs.Common.{sym}
use Rattle.std.proofs.lemmas.Bool.{ltb-true, ltb-false}
use Rattle.px_commands.proofs.Places.{place-at-end, place-there}
use Rattle.px_commands.proofs.reading.place_behind.Goals as goal

pub returns-in-Some : goal.returns-in-Some
returns-in-Some c = place-there c.args.tokens.now c.args.count c.args.end c.in-Some.token.now (ltb-true c.args.count _ (sym c.in-Some.ensures.lookup.0)) c.in-Some.ensures.lookup.1

pub returns-in-None : goal.returns-in-None
returns-in-None c = place-at-end c.args.tokens.now c.args.count c.args.end (ltb-false c.args.count _ (sym c.in-None.ensures.lookup.0))

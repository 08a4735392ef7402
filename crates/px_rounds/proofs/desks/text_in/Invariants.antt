use Rattle.std.proofs.Common.{◌≡◌, drop}
use Rattle.px_rounds.specs.Rounds.{text_in}
use Rattle.px_rounds.proofs.desks.text_in.Given as goal

abbrev pub invariant-loop-text : goal.invariant-loop-text
invariant-loop-text l = text_in l.round l.session ≡ text_in (drop l.text-index l.round) l.session

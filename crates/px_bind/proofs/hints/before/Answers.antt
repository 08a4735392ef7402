use Rattle.std.proofs.lemmas.Str.Pattern.{strip_suffix_char}
use Rattle.px_bind.proofs.Ends.{before_is}
use Rattle.px_bind.proofs.hints.before.Goals as goal

pub returns : goal.returns
returns c =
    before_is c.args.last c.args.text.now c.strip_suffix.result
    (strip_suffix_char c.args.last c.args.text.now c.strip_suffix.result c.strip_suffix.ensures.cases c.requires)

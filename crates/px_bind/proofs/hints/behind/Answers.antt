use Rattle.std.proofs.lemmas.Str.Pattern.{strip_prefix_char}
use Rattle.px_bind.proofs.Ends.{behind_is}
use Rattle.px_bind.proofs.hints.behind.Goals as goal

pub returns : goal.returns
returns c =
    behind_is c.args.first c.args.text.now c.strip_prefix.result
    (strip_prefix_char c.args.first c.args.text.now c.strip_prefix.result c.strip_prefix.ensures.cases c.requires)

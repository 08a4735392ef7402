use Rattle.std.proofs.Common.{arith, refl}
use Rattle.std.proofs.lemmas.Str.Pattern.{split_parts}
use Rattle.px_script.proofs.Lines.{line-split}
use Rattle.px_script.proofs.dividing.first_line.Goals as goal

pub returns-clause-lines : goal.returns-clause-lines
returns-clause-lines c = line-split c.args.text.now c.split_once.result c.unwrap_or.result _ _ c.requires refl refl c.unwrap_or.ensures (split_parts 10 c.args.text.now c.split_once.result c.split_once.ensures.cases (omega arith))

use Rattle.std.proofs.Common.{rules}
use Rattle.std.proofs.lemmas.Fn.{filter_same}
use Rattle.px_memstore.specs.Left.{cell_stays}
use Rattle.px_memstore.proofs.keeping.keep_part.Goals as goal

pub returns-clause-left : goal.returns-clause-left
returns-clause-left c = filter_same _ (cell_stays c.args.kept.now c.args.horizon) _ (λ x b f' k. search rules) _ _ c.retain.ensures.filtered

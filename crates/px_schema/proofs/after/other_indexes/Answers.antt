use Rattle.std.proofs.Common.{ap, ◌∙◌, rules}
use Rattle.std.specs.Prelude.{◌==◌, filter, not}
use Rattle.std.proofs.lemmas.Fn.{filter_same}
use Rattle.px_schema.proofs.after.other_indexes.Goals as goal

pub returns : goal.returns
returns c = c.of.ensures ∙ filter_same _ (λ i. not (i.id.0 == c.args.number)) _ (λ x b f' k. search rules) _ _ c.retain.ensures.filtered ∙ ap (filter (λ i. not (i.id.0 == c.args.number))) c.into_vec-list.ensures

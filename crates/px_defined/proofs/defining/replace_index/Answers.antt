use Rattle.std.proofs.Common.{refl, rules}
use Rattle.std.specs.Prelude.{◌==◌, not}
use Rattle.std.proofs.lemmas.Fn.{filter_same}
use Rattle.px_defined.proofs.defining.replace_index.Goals as goal

pub returns : goal.returns
returns c = record {
  without = record c.args.group.now { indexes = c.retain.new.self };
  less = record {
    beside = record { table = refl; rows = refl; batches = refl; points = refl; horizon = refl };
    indexes = filter_same _ (λ x. not (x.index.id.0 == c.args.index.id.0)) _ (λ x b f' k. search rules) _ _ c.retain.ensures.filtered;
    last = refl;
  };
  more = c.add_index.ensures;
}

use Rattle.px_resolve.proofs.Typed.{literal_has_type}
use Rattle.px_resolve.proofs.laws.law_typed.Goals as goal

pub returns : goal.returns
returns c = literal_has_type

use Rattle.std.proofs.Common.{◌∙◌, sym}
use Rattle.px_tests_served.proofs.Sights.{among-first}
use Rattle.px_tests_served.proofs.late.only_doubt.Goals as goal

pub returns-then-is_only : goal.returns-then-is_only
returns-then-is_only c = among-first c.args.found _ c.in-Some-InDoubt.field-0 c.in-Some-InDoubt.doubt (sym c.into_vec.ensures ∙ (sym c.from-keys.ensures.0 ∙ c.in-Some-InDoubt.ensures.items)) c.in-Some-InDoubt.field-0-is

use Rattle.std.proofs.Common.{◌≡◌, [], length}
use Rattle.std.specs.Option.{is_some}
use denote.Text.{Utf8}
use denote.Shadow.{shadow}
use Rattle.px_arguments.specs.Arguments.{sessions_from, sessions_named}
use Rattle.px_arguments.proofs.schedule.is_schedule.Given as goal

abbrev pub invariant-names : goal.invariant-names
invariant-names l = shadow (Utf8 l.left) × (is_some (sessions_from l.most [] l.left) ≡ is_some (sessions_named l.list))

abbrev pub decreases-names : goal.decreases-names
decreases-names l = length l.left

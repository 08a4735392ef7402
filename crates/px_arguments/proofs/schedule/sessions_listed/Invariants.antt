use Rattle.std.proofs.Common.{◌≡◌, [], ◌++◌, length}
use Rattle.std.specs.Option.{option_map}
use denote.Text.{Utf8}
use denote.Shadow.{shadow}
use Rattle.px_arguments.specs.Arguments.{sessions_from, sessions_named}
use Rattle.px_arguments.proofs.schedule.sessions_listed.Given as goal

abbrev pub invariant-names : goal.invariant-names
invariant-names l = shadow (Utf8 l.left) × (sessions_named l.list ≡ option_map (λ ns. l.sessions.items ++ ns) (sessions_from l.most [] l.left))

abbrev pub decreases-names : goal.decreases-names
decreases-names l = length l.left

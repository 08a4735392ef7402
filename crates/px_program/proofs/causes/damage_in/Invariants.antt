use Rattle.std.proofs.Common.{◌≡◌, length}
use Rattle.px_program.specs.Status as spec
use Rattle.px_program.proofs.causes.damage_in.Given as goal

abbrev pub invariant-transcripts : goal.invariant-transcripts
invariant-transcripts l = spec.first_damage (spec.items_of l.left) ≡ spec.first_damage (spec.items_of l.transcripts)

abbrev pub decreases-transcripts : goal.decreases-transcripts
decreases-transcripts l = length l.left

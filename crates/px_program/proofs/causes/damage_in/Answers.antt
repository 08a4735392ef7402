use Rattle.std.proofs.Common.{rules}
use Rattle.px_program.specs.Status.{first_damage, items_of}
use Rattle.px_program.proofs.Flat.{found_here}
use Rattle.px_program.proofs.causes.damage_in.Goals as goal

pub returns-then-is_some : goal.returns-then-is_some
returns-then-is_some c = found_here c.transcripts.left.now c.in-Some.transcript.now c.in-Some.rest.now c.first_damage-damage.result (first_damage (items_of c.args.transcripts.now)) (search rules) (search rules) (search rules) (search rules)

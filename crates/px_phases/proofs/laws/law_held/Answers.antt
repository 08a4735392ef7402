use Rattle.px_phases.proofs.Held.{closes_handed, marked, marks_handed, met_held, other_wrote, puts_handed, verified, wrote}
use Rattle.px_phases.proofs.laws.law_held.Goals as goal

pub returns : goal.returns
returns c = record {
  marks = marks_handed;
  puts = puts_handed;
  closes = closes_handed;
  marked = marked;
  wrote = wrote;
  verified = verified;
  met = met_held;
  others = other_wrote;
}

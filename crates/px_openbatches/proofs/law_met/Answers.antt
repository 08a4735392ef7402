use Rattle.px_openbatches.proofs.Meetings.{concurrent_met, met_concurrent}
use Rattle.px_openbatches.proofs.law_met.Goals as goal

pub returns : goal.returns
returns c = record {
  met = λ es t h k r m. (let z = k.met_from r m in (z.0, met_concurrent es t h.stamp r z.1));
  concurrent = λ es t h k r q n. k.met_to r q (concurrent_met es t h.stamp r n);
}

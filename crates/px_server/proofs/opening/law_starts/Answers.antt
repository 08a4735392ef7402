use Rattle.px_server.proofs.Starts.{base_opened, opened_on, recovers_failed}
use Rattle.px_server.proofs.opening.law_starts.Goals as goal

pub returns : goal.returns
returns g c =
    let d = g.D.Disk in
    record {
      opened = λ old new o starts tells told stands catalogue read keeps. opened_on d old starts o (told tells) new (stands tells) (catalogue tells) (read tells) (keeps tells);
      base = λ old o starts tells told. base_opened d old starts o (told tells);
      failed = λ old new starts keeps moment image left. recovers_failed d old starts new (keeps (g.met.D.Disk.told new moment 0 (image 0) (left 0))) moment image left;
    }

use Rattle.px_recovery.proofs.Server.{kept_server, late_server, noted_server, opened_server, read_server, step_server, stopped_server}
use Rattle.px_recovery.proofs.law_server.Goals as goal

pub returns : goal.returns
returns g c =
    let d = g.D.Disk in
    let told = g.met.D.Disk.told in
    let now = g.met.D.Disk.up_to_now in
    let b = g.S.Serves.base in
    let p = g.S.Serves.premise in
    let has = g.S.Serves.has in
    record {
      opened = opened_server d told now b p has;
      read = read_server d told now b p has;
      noted = noted_server d told now b p has;
      kept = kept_server d told now b p has;
      stopped = stopped_server d told now b p has;
      late = late_server d told now b p has;
      step = step_server d told now b p has;
    }

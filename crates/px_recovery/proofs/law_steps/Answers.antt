use Rattle.px_recovery.proofs.Steps.{failed_server, marked_server, unmarked_server, wrote_server}
use Rattle.px_recovery.proofs.law_steps.Goals as goal

pub returns : goal.returns
returns g c =
    let d = g.D.Disk in
    let told = g.met.D.Disk.told in
    let now = g.met.D.Disk.up_to_now in
    let b = g.S.Serves.base in
    let p = g.S.Serves.premise in
    let has = g.S.Serves.has in
    record { wrote = wrote_server d told now b p has; marked = marked_server d told now b p has; late = failed_server d told now b p has; stopped = unmarked_server d told now b p has }

use Rattle.px_recovery.proofs.Definitions.{catalogue_kept, catalogue_moved, catalogue_moves, catalogue_stays}
use Rattle.px_recovery.proofs.law_definitions.Goals as goal

pub returns : goal.returns
returns g c =
    let d = g.D.Disk in
    record {
      moves = λ old new f on some touches s up drawn. catalogue_moves d old new f on some touches s up drawn;
      moved = λ old new f on some touches s up drawn. catalogue_moved d old new f on some touches s up drawn;
      stays = λ old new f on some touches leaves. catalogue_stays d old new f on some touches leaves;
      kept = λ old new f on some touches here. catalogue_kept d old new f on some touches here;
    }

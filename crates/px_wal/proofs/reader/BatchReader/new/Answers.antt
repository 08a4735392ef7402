use Rattle.std.proofs.Common.{[], refl, sym, ◌∙◌}
use Rattle.px_merge.proofs.Settling.{settle_sorted}
use Rattle.px_wal.proofs.reader.BatchReader.new.Goals as goal

pub returns-clause-empty : goal.returns-clause-empty
returns-clause-empty c = record {
  right = record { each = tt; rising = tt; first = tt };
  last = refl;
  some = refl;
  store = c.new.ensures ∙ sym (settle_sorted [] tt);
  cells = refl;
  bytes = refl;
}

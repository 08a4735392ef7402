use Rattle.px_batchcells.proofs.RowKeys.{begun_short, idle_short, none_short, opened_keys, spelled_keys}
use Rattle.px_batchcells.proofs.law_short_keys.Goals as goal

pub returns : goal.returns
returns c = record { spelled = spelled_keys; opened = opened_keys; none = none_short; begins = begun_short; others = idle_short }

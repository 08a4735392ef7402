use Rattle.px_rows.proofs.KeysBack.{row_key-fits, value_back}
use Rattle.px_rows.proofs.Spelled.{table_laws, nothing_spelled, nothing_whole}
use Rattle.px_rows.proofs.laws.law_rows.Goals as goal

pub returns : goal.returns
returns c = record { form = table_laws; nothing = λ t r low p. (nothing_spelled t r p, nothing_whole t low r); key = row_key-fits; value = value_back }

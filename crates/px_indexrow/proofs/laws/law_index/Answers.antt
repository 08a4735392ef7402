use Rattle.px_indexrow.proofs.KeysHeld.{form_laws, form_placed, key_is}
use Rattle.px_indexrow.proofs.StatesFit.{apply_fits}
use Rattle.px_indexrow.proofs.laws.law_index.Goals as goal

pub returns : goal.returns
returns c = record { form = form_laws; placed = form_placed; key = key_is; fits = apply_fits }

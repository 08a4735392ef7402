use Rattle.px_forgotten.proofs.Kept.{keys_compacted, keys_kept, rows_compacted, rows_kept}
use Rattle.px_forgotten.proofs.laws.law_kept.Goals as goal

pub returns : goal.returns
returns c = record {
  rows = λ t cells shape h kept is. (rows_compacted t cells shape h kept is, rows_kept t cells shape h kept is);
  keys = λ t i cells shape h kept is. (keys_compacted t i cells shape h kept is, keys_kept t i cells shape h kept is);
}

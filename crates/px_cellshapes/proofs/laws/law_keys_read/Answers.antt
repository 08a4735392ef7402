use Rattle.px_cellshapes.specs.Keys.{IsRightIndexCell}
use Rattle.px_cellshapes.proofs.Each.{each_from_all, each_reads}
use Rattle.px_cellshapes.proofs.KeysRead.{keys_are, keys_owned, keys_plain}
use Rattle.px_cellshapes.proofs.laws.law_keys_read.Goals as goal

pub returns : goal.returns
returns c = record {
  each = λ t i cells h x r. each_reads (IsRightIndexCell t i) cells h.each x r;
  listed = λ t i cells a. record { each = each_from_all (IsRightIndexCell t i) cells a };
  plain = keys_plain;
  keys = keys_are;
  owned = λ t i cells last h l. keys_owned t i cells h last l;
}

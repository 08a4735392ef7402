use Rattle.px_keyfilter.proofs.Kept.{all_added, key_added, key_kept, length-with_keys}
use Rattle.px_keyfilter.proofs.laws.keys_are_kept.Goals as goal

pub returns : goal.returns
returns c = record {
  added = λ words key some. key_added words key some;
  kept = λ words key other some has. key_kept words key some other has;
  all = all_added;
  size = length-with_keys;
}

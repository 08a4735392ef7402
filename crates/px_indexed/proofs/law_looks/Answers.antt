use Rattle.px_indexed.proofs.Looks.{seen_is_top, top_is_seen, vis_is}
use Rattle.px_indexed.proofs.law_looks.Goals as goal

pub returns : goal.returns
returns c = record {
  top_seen = top_is_seen;
  seen_top = seen_is_top;
  values = vis_is;
}

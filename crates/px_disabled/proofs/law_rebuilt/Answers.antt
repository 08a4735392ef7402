use Rattle.px_disabled.proofs.More.{tallied_rebuilt}
use Rattle.px_disabled.proofs.MoreShown.{bears_anew, shown_anew}
use Rattle.px_disabled.proofs.Once.{once_rebuilt}
use Rattle.px_disabled.proofs.law_rebuilt.Goals as goal

pub returns : goal.returns
returns c = record {
  tallied = tallied_rebuilt;
  once = once_rebuilt;
  bears = bears_anew;
  shown = λ b es e may g h g' x hs k none less s more is index v shown form. shown_anew b es e may g h x hs k none less s is index v shown form g' more;
}

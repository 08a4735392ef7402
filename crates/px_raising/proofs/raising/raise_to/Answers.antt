use Rattle.px_raising.proofs.Bounds.{is_raise}
use Rattle.px_raising.proofs.raising.raise_to.Goals as goal

pub returns : goal.returns
returns c = is_raise c.args.group.now c.args.lookback c.max.result (cc)

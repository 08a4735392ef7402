use Rattle.px_looks.proofs.Seen.{view_seen}
use Rattle.px_looks.proofs.version.seen_in.Goals as goal

pub returns : goal.returns
returns c = λ k own none. view_seen c.args.cells.now c.requires.list k own none c.args.point c.in_ok-seen.seen c.in_ok-seen.ensures

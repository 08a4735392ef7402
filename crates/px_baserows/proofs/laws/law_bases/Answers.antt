use Rattle.px_baserows.proofs.May.{can_base}
use Rattle.px_baserows.proofs.Seen.{bases_count, bases_right}
use Rattle.px_baserows.proofs.laws.law_bases.Goals as goal

pub returns : goal.returns
returns c = record { right = bases_right; count = bases_count; can = can_base }

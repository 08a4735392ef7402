use Rattle.px_trail.proofs.Orders.{begun-rising, written-first}
use Rattle.px_trail.proofs.laws.law_order.Goals as goal

pub returns-clause-rising : goal.returns-clause-rising
returns-clause-rising c b es t r legal = begun-rising b es t r legal

pub returns-clause-first : goal.returns-clause-first
returns-clause-first c b es t r legal = written-first b es t r legal

use Rattle.std.proofs.lemmas.List.{take-append-le}
use Rattle.px_trail.proofs.Growth.{legal-none, legal-snoc, legal-prefix}
use Rattle.px_trail.proofs.laws.law_legal.Goals as goal

pub returns-clause-none : goal.returns-clause-none
returns-clause-none c b = legal-none b

pub returns-clause-more : goal.returns-clause-more
returns-clause-more c b es e legal may = legal-snoc b es e legal may

pub returns-clause-first : goal.returns-clause-first
returns-clause-first c b es more legal = legal-prefix b es more legal

pub returns-clause-stays : goal.returns-clause-stays
returns-clause-stays c es more n low = take-append-le n es more low

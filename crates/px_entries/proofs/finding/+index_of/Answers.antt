use Rattle.std.proofs.Common.{rules, ◌≡◌, ◌∙◌, arith}
use Rattle.px_entries.proofs.Indexes.{among-here, among-none, among-on}
use Rattle.px_entries.proofs.finding.+index_of.Goals as goal

pub returns-then-eq : goal.returns-then-eq
returns-then-eq t c =
    let same : c.first-item.result.id ≡ c.args.index = search rules in
    among-here c.args.index c.args.indexes.now c.first-item.result _ (omega arith) c.first-item.is same

pub returns-in-empty : goal.returns-in-empty
returns-in-empty t c = among-none c.args.index.0 c.args.indexes.now (omega arith)

pub returns-else-eq : goal.returns-else-eq
returns-else-eq t c =
    let other : c.first-item.result.id ≡ c.args.index → ⊥ = search rules in
    c.index_of.ensures ∙ among-on c.args.index c.args.indexes.now c.first-item.result _ (omega arith) c.first-item.is other

use Rattle.std.proofs.Common.{◌≢◌}
use Rattle.std.proofs.lemmas.Bool.{false≢true}
use Rattle.px_tables.specs.declared.index.Index.{Index}
use Rattle.px_standing.proofs.SameNames.{all_next, is_same, not_all, not_same}
use Rattle.px_standing.proofs.names.is_free_of_indexes.Goals as goal

pub returns-then-eq : goal.returns-then-eq
returns-then-eq c = (
  (λ no. absurd (false≢true no)),
  (λ all. absurd (not_all (λ (x : Index). x.name ≢ c.args.name.now) c.args.indexes.now c.loop-index.index-index c.index-item.result c.loop-index-test.true c.index-item.is
      (λ other. other (is_same c.as_str.result.now c.as_str-in-loop-index.result.now c.index-item.result.name c.args.name.now c.eq.result c.eq.ensures c.if-eq.true c.as_str.ensures c.as_str-in-loop-index.ensures)) all)),
)

pub loop-index-preserved : goal.loop-index-preserved
loop-index-preserved c = all_next (λ (x : Index). x.name ≢ c.args.name.now) c.args.indexes.now c.loop-index.index-index c.index-item.result c.loop-index-test.true c.index-item.is c.loop-index.invariant
    (not_same c.as_str.result.now c.as_str-in-loop-index.result.now c.index-item.result.name c.args.name.now c.eq.result c.eq.ensures c.if-eq.false c.as_str.ensures c.as_str-in-loop-index.ensures)

use Rattle.std.proofs.Common.{◌∙◌, sym, rules}
use Rattle.std.proofs.lemmas.List.Sorted.{IsPartitionPoint-from_clause}
use Rattle.px_rows.specs.inner.Found.{is_before}
use Rattle.px_rows.proofs.Newest.{parted, same_qualifier, none_behind, none_of_other, newest_here}
use Rattle.px_rows.proofs.reading.newest_in.Goals.{else-at-cells-via-then-at-cells+else-qualifier, else-at-cells-via-else-at-cells}
use Rattle.px_rows.proofs.reading.newest_in.Goals as goal

pub returns-then-qualifier : goal.returns-then-qualifier
returns-then-qualifier c = λ k own.
    (let q = c.args.qualifier in
    let p = IsPartitionPoint-from_clause (is_before q c.args.point) c.args.cells.now c.partition_point-at.result c.partition_point-at.ensures.partitioned (parted c.args.cells.now k q c.args.point c.requires own) (λ a r f h. search rules) in
    newest_here c.args.cells.now k q c.args.point c.partition_point-at.result c.requires own p.0 p.1 c.index-cells-at-then-qualifier.result c.if-at-cells.true c.index-cells-at-then-qualifier.is (same_qualifier c.args.cells.now c.partition_point-at.result c.index-cells-at.result c.index-cells-at-then-qualifier.result c.if-at-cells.true c.index-cells-at.is c.index-cells-at-then-qualifier.is (sym c.qualifier.ensures ∙ c.if-qualifier.true)))

pub returns : goal.returns
returns c = λ k own.
    (let q = c.args.qualifier in
    let p = IsPartitionPoint-from_clause (is_before q c.args.point) c.args.cells.now c.partition_point-at.result c.partition_point-at.ensures.partitioned (parted c.args.cells.now k q c.args.point c.requires own) (λ a r f h. search rules) in
    elim c.else-at-cells.branch [
      | else-at-cells-via-then-at-cells+else-qualifier w ↦ none_of_other c.args.cells.now k q c.args.point c.partition_point-at.result c.requires own p.0 p.1 w.index-cells-at.result w.if-at-cells.true w.index-cells-at.is (λ e. w.if-qualifier.false (w.qualifier.ensures ∙ e))
      | else-at-cells-via-else-at-cells w ↦ none_behind c.args.cells.now k q c.args.point c.partition_point-at.result c.requires own p.0 p.1 w.if-at-cells.false
    ])

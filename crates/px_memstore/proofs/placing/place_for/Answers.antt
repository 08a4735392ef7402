use Rattle.std.specs.Ordering.{is_lt}
use Rattle.std.proofs.Common.{rules}
use Rattle.std.proofs.lemmas.List.Sorted.{IsPartitionPoint-from_clause}
use Rattle.px_cells.specs.CellData.{CellData}
use Rattle.px_cells.specs.Order.{cell_cmp}
use Rattle.px_memstore.proofs.Placed.{below_parts, from_parts, parted}
use Rattle.px_memstore.proofs.placing.place_for.Goals as goal

pub returns-clause-below : goal.returns-clause-below
returns-clause-below c =
    let p = IsPartitionPoint-from_clause (λ (m : CellData). is_lt (cell_cmp m c.args.cell.now)) c.args.cells.now c.partition_point.result c.partition_point.ensures.partitioned (parted c.args.cells.now c.args.cell.now c.requires) (λ a r q k. search rules) in
    below_parts c.args.cells.now c.args.cell.now c.partition_point.result c.partition_point.ensures.bound p.0

pub returns-clause-from : goal.returns-clause-from
returns-clause-from c =
    let p = IsPartitionPoint-from_clause (λ (m : CellData). is_lt (cell_cmp m c.args.cell.now)) c.args.cells.now c.partition_point.result c.partition_point.ensures.partitioned (parted c.args.cells.now c.args.cell.now c.requires) (λ a r q k. search rules) in
    from_parts c.args.cells.now c.args.cell.now c.partition_point.result p.1

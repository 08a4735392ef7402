use Rattle.std.proofs.Common.{◌≡◌, ◌≤◌, ◌+◌, length, take, sym, subst, arith, rules, Err}
use Rattle.px_rows.proofs.Spelled.{table_laws}
use Rattle.px_rows.specs.Keys.{row_key}
use Rattle.px_rows.specs.Spelled.{FitsTable}
use Rattle.px_rows.specs.declared.fault.RowFault.{RowFault}
use Rattle.px_values.specs.declared.change.Change.{Change}
use Rattle.px_phases.specs.Phases.{ArePuts}
use Rattle.px_phases.proofs.Assigned.{all_at}
use Rattle.px_phases.proofs.Puts.{ascending_apart, put_fits, puts_elsewhere, puts_next}
use Rattle.px_phases.proofs.made.puts_of_rows.Goals as goal

pub returns-in_err-cells-clause-not_too_long : goal.returns-in_err-cells-clause-not_too_long
returns-in_err-cells-clause-not_too_long c e =
    let short = all_at (λ (x : Change). length (row_key c.args.table.now x.row) ≤ 1024) c.args.changes.now c.loop-change.change-index c.change-item.result c.requires.short c.loop-change-test.true c.change-item.is in
    let m : c.cells_of.result ≡ Err RowFault.KeyTooLong = search rules in
    (let long = c.cells_of.ensures.too_long m in absurd (omega arith))

pub add-requires-clause-fitting : goal.add-requires-clause-fitting
add-requires-clause-fitting c =
    let short = all_at (λ (x : Change). length (row_key c.args.table.now x.row) ≤ 1024) c.args.changes.now c.loop-change.change-index c.change-item.result c.requires.short c.loop-change-test.true c.change-item.is in
    let fits = all_at (λ (x : Change). FitsTable c.args.table.now x.row x.what) c.args.changes.now c.loop-change.change-index c.change-item.result c.requires.fits c.loop-change-test.true c.change-item.is in
    put_fits c.args.table.now c.requires.table c.args.stamp c.change-item.result c.in_ok-cells.cells c.ranges.stamp.fits fits short (record { own = c.in_ok-cells.ensures.own; list = c.in_ok-cells.ensures.list; values = c.in_ok-cells.ensures.cells })

pub add-requires-clause-apart : goal.add-requires-clause-apart
add-requires-clause-apart c = ascending_apart c.in_ok-cells.cells c.in_ok-cells.ensures.list.ascending

pub add-requires-clause-other_keys : goal.add-requires-clause-other_keys
add-requires-clause-other_keys c = puts_elsewhere c.args.table.now (table_laws c.args.table.now).apart c.args.stamp c.args.changes.now c.loop-change.kept c.loop-change.change-index c.change-item.result c.in_ok-cells.cells c.requires.distinct c.loop-change-test.true c.change-item.is c.loop-change.invariant (record { own = c.in_ok-cells.ensures.own; list = c.in_ok-cells.ensures.list; values = c.in_ok-cells.ensures.cells })

pub loop-change-preserved : goal.loop-change-preserved
loop-change-preserved c =
    subst (ArePuts c.args.table.now c.args.stamp (take (c.loop-change.change-index + 1) c.args.changes.now)) (sym c.in_ok-add.ensures.ok)
    (puts_next c.args.table.now c.args.stamp c.args.changes.now c.loop-change.kept c.loop-change.change-index c.change-item.result c.in_ok-cells.cells c.loop-change-test.true c.change-item.is c.loop-change.invariant (record { own = c.in_ok-cells.ensures.own; list = c.in_ok-cells.ensures.list; values = c.in_ok-cells.ensures.cells }))

use Rattle.std.proofs.Common.{Some, List, sym, subst}
use Rattle.std.specs.List.{AllByRecursion}
use Rattle.px_indexrow.specs.Form.{FitsRowState}
use Rattle.px_tables.specs.declared.table.Table.{Table}
use Rattle.px_calls.specs.declared.query.BaseRow.{BaseRow}
use Rattle.px_tests_baserows.proofs.Ready.{rows_fit, table_right}
use Rattle.px_tests_baserows.proofs.worked.based.Goals as goal

pub owners_of-requires-clause-table : goal.owners_of-requires-clause-table
owners_of-requires-clause-table c = table_right c.args.case.now.table c.requires.table

pub owners_of-requires-clause-fits : goal.owners_of-requires-clause-fits
owners_of-requires-clause-fits c =
    subst (λ (t : Table). AllByRecursion (λ (x : BaseRow). FitsRowState t (Some x.row)) c.deref.result.now) (sym c.requires.table)
    (subst (λ (xs : List BaseRow). AllByRecursion (λ (x : BaseRow). FitsRowState Rattle.px_tests_baserows.specs.Worked.worked_table (Some x.row)) xs) (sym c.deref.ensures.value) (rows_fit c.args.case.now.rows.items c.requires.rows.each))

pub base_versions-requires-clause-table : goal.base_versions-requires-clause-table
base_versions-requires-clause-table c = table_right c.args.case.now.table c.requires.table

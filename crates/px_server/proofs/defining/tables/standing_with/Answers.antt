use Rattle.std.proofs.Common.{◌<◌, length, refl, sym, subst, ◌+◌, arith}
use Rattle.std.specs.List.{AllByRecursion}
use Rattle.px_tables.specs.declared.table.Table.{Table}
use Rattle.px_schema.specs.Stands.{table_draws}
use Rattle.px_server.proofs.TableRecord.{draws_short}
use Rattle.px_server.proofs.defining.tables.standing_with.Goals as goal

pub standing_after-requires : goal.standing_after-requires
standing_after-requires c = record {
  short = subst (λ (t : Table). AllByRecursion (λ k. k < 4294967295) (table_draws t)) (sym c.in_ok-table.ensures)
      (draws_short c.args.standing.now.next 4294967295 (record { 0 = c.args.standing.now.next + length c.args.what.now.least_keys }) c.args.what.now refl (omega arith));
}

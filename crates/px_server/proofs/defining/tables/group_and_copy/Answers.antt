use Rattle.std.proofs.Common.{ap, length, ◌∙◌, ◌+◌}
use Rattle.px_tables.specs.declared.table.Table.{Table}
use Rattle.px_defined.proofs.News.{one_region}
use Rattle.px_server.proofs.defining.tables.group_and_copy.Goals as goal

pub new_group-requires : goal.new_group-requires
new_group-requires c = record {
  one = (c.args.next, ap (λ (t : Table). t.regions) c.in_ok-table.ensures ∙ one_region c.args.next (record { 0 = c.args.next + length c.args.what.now.least_keys }) c.args.what.now c.requires.one);
}

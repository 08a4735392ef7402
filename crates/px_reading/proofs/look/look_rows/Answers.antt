use Rattle.std.specs.Option.{option_copied}
use Rattle.px_cellshapes.proofs.RowsRead.{rows_plain, rows_plain_at}
use Rattle.px_region.specs.Region.{read_of}
use Rattle.std.proofs.Common.{refl}
use Rattle.px_reading.proofs.Looked.{no_looks}
use Rattle.px_reading.proofs.Looks.{ok_map, rows_found}
use Rattle.px_reading.proofs.look.look_rows.Goals as goal

pub look_rows-requires-clause-region : goal.look_rows-requires-clause-region
look_rows-requires-clause-region g c = rows_plain c.args.group.now.table (read_of c.args.group.now.rows) c.requires.right.rows

pub look_rows-requires-clause-plain : goal.look_rows-requires-clause-plain
look_rows-requires-clause-plain g c = rows_plain_at c.args.group.now.table (read_of c.args.group.now.rows) c.requires.right.rows

pub returns-clause-rows : goal.returns-clause-rows
returns-clause-rows g c = ok_map _ _ (λ n h. rows_found c.args.group.now c.requires.right c.args.low.now (option_copied c.args.high) (option_copied c.args.after) c.args.point n.found n.next h) c.look_rows.result c.look_rows.ensures.next

pub returns-clause-looked : goal.returns-clause-looked
returns-clause-looked g c = record {
  table = refl;
  rows = record { alike = c.look_rows.ensures.alike; promised = c.look_rows.ensures.promised };
  indexes = no_looks c.args.group.now.indexes.items;
  batches = refl;
  points = refl;
  last = refl;
  horizon = refl;
}

use Rattle.px_groupworld.specs.Group.{table_form}
use Rattle.px_rows.specs.Spelled.{row_form}
use Rattle.px_built.proofs.Tables.{based_entry, built_based, built_bears, built_born, built_moved, built_opened, built_ready, built_stays}
use Rattle.px_built.proofs.law_built.Goals as goal

pub returns : goal.returns
returns c = record {
  opened = λ b index t. built_opened (table_form b t.id index (row_form t));
  born = λ b index t. built_born (table_form b t.id index (row_form t));
  entry = based_entry;
  stays = λ b index t. built_stays (table_form b t.id index (row_form t));
  based = λ b index t. built_based (table_form b t.id index (row_form t));
  moved = λ b index t. built_moved (table_form b t.id index (row_form t));
  bears = λ b index t es. built_bears (table_form b t.id index (row_form t)) es;
  ready = λ b index t. built_ready (table_form b t.id index (row_form t));
}

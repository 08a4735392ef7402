-- The base that a folder tells, and sound folders.
use Rattle.std.specs.Prelude.{◌≡◌, ℕ, false, Option, Some, None}
use Rattle.std.specs.List.{AllByRecursion}
use Rattle.px_outside.specs.Disk.{Image}
use Rattle.px_outside.specs.Parts.{AreDistinct}
use Rattle.px_tables.specs.declared.table.Table.{Table}
use Rattle.px_trail.specs.Trail.{Base}
use Rattle.px_rows.specs.Spelled.{row_form}
use Rattle.px_groupworld.specs.Group.{GroupData}
use Rattle.px_groupworld.specs.Sound.{IsSoundTable}
use Rattle.px_tablefolder.specs.Folder.{IsOpened, folder_changed, folder_high, folder_last, folder_state}
use Rattle.px_recovery.specs.Folder.{FolderData, StandsFor}
use Rattle.px_recovery.specs.Stands.{AreNumbered, opened_index}
use Rattle.px_recovery.specs.Tables.{AreInRegion, form_of_table, index_in, number_of_part, table_files, table_in}

-- what is told of a table, and what of one that doesn't stand
abbrev pub told_of_table : {A : Type 0} → (Table → A) → A → Option Table → A
told_of_table tells none None = none
told_of_table tells none (Some x) = tells x

-- What a run begins with that opens the folder: an index that was building is disabled, and the numbers of a table are the
-- greatest of its regions, of those of its indexes, whatever their states are, and of their births.
abbrev pub base_of : FolderData → Base
base_of f =
    record {
      tables = λ t. table_in f.standing.tables t;
      indexes = λ i. opened_index (index_in f.standing.indexes i);
      next = f.standing.next;
      last = λ t. told_of_table (λ x. folder_last (table_files f x)) 0 (table_in f.standing.tables t);
      horizon = λ t. told_of_table (λ x. folder_high (table_files f x)) 0 (table_in f.standing.tables t);
      data_horizon = λ t. told_of_table (λ x. (table_files f x).horizon) 0 (table_in f.standing.tables t);
      state = λ t r p. told_of_table (λ x. folder_state (row_form x) (table_files f x) r p) None (table_in f.standing.tables t);
      changed = λ t r s. told_of_table (λ x. folder_changed (row_form x) (table_files f x) r s) false (table_in f.standing.tables t);
    }

-- The table that is opened from its files is sound over the folder's base, has no index twice, and each cell of its rows is in the
-- region of its key.
pub record IsSoundPart (f : FolderData) (x : Table) (u : GroupData) : Type 0 where
  pub opened : IsOpened (table_files f x) u
  pub sound : IsSoundTable (form_of_table (base_of f) f.standing.indexes x) u
  pub placed : AllByRecursion (λ g. AreInRegion x g.number (f.regions g.number).cells) x.regions
  pub once : AreDistinct number_of_part u.indexes

-- numbers are drawn once, and each table that stands is sound
pub record IsSoundFolder (f : FolderData) : Type 0 where
  pub numbered : AreNumbered f.standing
  pub opens : ℕ → GroupData
  pub tables : (t : ℕ) (x : Table) → table_in f.standing.tables t ≡ Some x → IsSoundPart f x (opens t)

-- the image's files stand for a sound folder
pub record IsSound (image : Image) : Type 0 where
  pub folder : FolderData
  pub stands : StandsFor image folder
  pub sound : IsSoundFolder folder

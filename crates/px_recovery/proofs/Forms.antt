-- A table that goes on where other definitions stand.
use Rattle.std.proofs.Common.{◌≡◌, ◌<◌, ◌≤◌, ℕ, Some, List, length, get_or, map, refl, sym, ◌∙◌, ap, subst, arith}
use Rattle.px_tables.specs.declared.index.Index.{Index}
use Rattle.px_tables.specs.declared.table.Table.{Table}
use Rattle.px_trail.specs.declared.entry.Entry.{Entry}
use Rattle.px_trail.specs.Trail.{Base, last_of}
use Rattle.px_forms.specs.Indexes.{IndexForm}
use Rattle.px_indexed.specs.Worlds.{Indexed}
use Rattle.px_indexed.specs.Kept.{IndexKept}
use Rattle.px_groupworld.specs.Group.{GroupData, GroupKept, TableForm, indexed_at, no_part}
use Rattle.px_tablefolder.specs.Folder.{IsFolderOf}
use Rattle.px_schema.specs.declared.standing.Standing.{Standing}
use Rattle.px_recovery.specs.Folder.{FolderData, with_standing}
use Rattle.px_recovery.specs.Tables.{TellsTable, form_of_index, form_of_table, index_files, index_in, indexes_of, table_files}
use Rattle.px_recovery.proofs.Tables.{folder_next}

-- what is kept of a table asks for the forms of its own indexes alone
pub other_forms : (f : TableForm) (index : ℕ → IndexForm) (es : List Entry) (v : GroupData) → ((j : ℕ) → j < length v.indexes → index (get_or v.indexes j no_part).id ≡ f.index (get_or v.indexes j no_part).id)
    → GroupKept f es v → GroupKept (record f { index = index }) es v
other_forms f index es v same k = record {
  legal = k.legal;
  base = k.base;
  shape = k.shape;
  high = k.high;
  indexes = λ j l.
      let e : indexed_at f v j ≡ indexed_at (record f { index = index }) v j = λ i. record (indexed_at f v j) { form = sym (same j l) i } in
      subst (λ (y : Indexed). IndexKept f.rows.shape f.base es f.id.0 v.high y) e (k.indexes j l);
  told = k.told;
  low = k.low;
  own = k.own;
  begun = k.begun;
  apart = k.apart;
}

-- a table of which no index is defined or dropped
pub same_table : (b : Base) (es es' : List Entry) (f : FolderData) (s : Standing) (x : Table) (v : GroupData) → TellsTable b es f x v → GroupKept (form_of_table b f.standing.indexes x) es' v → last_of b x.id.0 es ≤ last_of b x.id.0 es'
    → ((n : ℕ) (i : Index) → index_in f.standing.indexes n ≡ Some i → i.table.0 ≡ x.id.0 → index_in s.indexes n ≡ Some i) → indexes_of x.id.0 s.indexes ≡ indexes_of x.id.0 f.standing.indexes → TellsTable b es' (with_standing s f) x v
same_table b es es' f s x v tells kept last stay indexes =
    let form = form_of_table b f.standing.indexes x in
    let files : IsFolderOf form es' v (table_files (with_standing s f) x) =
    folder_next form es es' v v (table_files f x) (table_files (with_standing s f) x) tells.files tells.files.horizon tells.files.cells (ap (λ (l : List Index). map (index_files f.regions) l) indexes) refl (omega arith) last in
    record {
      kept = other_forms form (λ i. form_of_index x (index_in s.indexes i)) es' v
          (λ j l. (let h = tells.stand j l in ap (form_of_index x) (stay (get_or v.indexes j no_part).id h.0 h.1.0 h.1.1 ∙ sym h.1.0))) kept;
      files = record { horizon = files.horizon; cells = files.cells; active = files.active; below = files.below; others = files.others };
      placed = tells.placed;
      once = tells.once;
      stand = λ j l. (let h = tells.stand j l in (h.0, (stay (get_or v.indexes j no_part).id h.0 h.1.0 h.1.1, h.1.1)));
    }

-- Steps after which base and entries tell of the folder what it has.
use Rattle.std.proofs.Common.{◌≡◌, ◌≢◌, ◌<◌, ◌≤◌, inl, inr, ℕ, Some, List, [], ◌∷◌, ◌++◌, length, get_or, refl, sym, ap, subst, ◌∙◌, arith}
use Rattle.std.specs.List.{AllByRecursion}
use Rattle.std.proofs.Math.ListN.{set, length-set}
use Rattle.std.proofs.lemmas.Bool.{cases_eq}
use Rattle.std.proofs.lemmas.List.{get_or-set_same}
use Rattle.px_outside.specs.Parts.{with_part}
use Rattle.px_outside.proofs.Parts.{with_part-here, with_part-other}
use Rattle.px_cells.specs.CellData.{CellData}
use Rattle.px_cells.specs.Contents.{Contents, over_contents, value_at}
use Rattle.px_cells.specs.Order.{ReadsSame}
use Rattle.px_cells.proofs.Among.{all_has, has_all, has_from_reads, reads_from_has}
use Rattle.px_cells.proofs.Contents.{same_values, values_put}
use Rattle.px_merge.specs.Kept.{IsKeptList}
use Rattle.px_tables.specs.declared.index.Index.{Index}
use Rattle.px_tables.specs.declared.table.Table.{Table}
use Rattle.px_tables.specs.declared.table.TableRegion.{TableRegion}
use Rattle.px_trail.specs.declared.entry.Entry.{Entry}
use Rattle.px_trail.specs.Legal.{MayCome}
use Rattle.px_trail.specs.Trail.{Base, Catalogue, catalogue_of, last_of}
use Rattle.px_trail.proofs.Growth.{last-snoc, legal-snoc}
use Rattle.px_indexed.specs.Idle.{IsElsewhere}
use Rattle.px_indexed.proofs.Idle.{act_idle}
use Rattle.px_groupworld.specs.Group.{GroupData, GroupKept, IndexPart, no_part}
use Rattle.px_groupworld.specs.Steps.{with_cells}
use Rattle.px_groupworld.proofs.Entries.{group_idle}
use Rattle.px_region.specs.Region.{RegionData, with_batch}
use Rattle.px_recovery.specs.Folder.{FolderData, with_region}
use Rattle.px_recovery.specs.Stands.{Explains, GoesOnBy, TellsCatalogue}
use Rattle.px_recovery.specs.Tables.{AreInRegion, IsRegionAmong, TellsTable, form_of_table, indexes_of, region_at, table_in}
use Rattle.px_recovery.proofs.Cells.{values_batch}
use Rattle.px_recovery.proofs.Notes.{last_step_up}
use Rattle.px_recovery.proofs.Numbered.{index_foreign, no_rows, one_found, only_index, rows_apart, rows_foreign}
use Rattle.px_recovery.proofs.Changed.{IsChanged, index_now, rows_now}
use Rattle.px_recovery.proofs.Tables.{IsForeign, noted_table, other_table, table_wrote}

-- ---- entries of one table

module _ (b : Base) (es : List Entry) (f : FolderData) (v : ℕ → GroupData) (told : Explains b es f v) (t : ℕ) where
  -- no entry
  pub by_none : GoesOnBy b es es f v t
  by_none = record { legal = told.legal; catalogue = refl; last = λ q. omega arith; others = λ q y other is. (told.tables q y is).kept }

  -- an entry of the table that leaves the catalogue
  pub by_entry : (e : Entry) → MayCome b es e → catalogue_of b (es ++ e ∷ []) ≡ catalogue_of b es → ((q : ℕ) (y : Table) → q ≢ t → table_in f.standing.tables q ≡ Some y → IsElsewhere y.id e.act) → GoesOnBy b es (es ++ e ∷ []) f v t
  by_entry e may same elsewhere = record {
    legal = legal-snoc b es e told.legal may;
    catalogue = same;
    last = λ q. (let up = last_step_up q (last_of b q es) e.act in let is = last-snoc b q es e in omega arith);
    others = λ q y other is. (group_idle (form_of_table b f.standing.indexes y) es (v q) (told.tables q y is).kept e may (act_idle y.id e (elsewhere q y other is))).kept;
  }

-- ---- a table goes on

module _ (b : Base) (es es' : List Entry) (f : FolderData) (v : ℕ → GroupData) (told : Explains b es f v) (t : ℕ) (by : GoesOnBy b es es' f v t) (x : Table) (found : table_in f.standing.tables t ≡ Some x) (v' : GroupData) where
  catalogue_now : TellsCatalogue f.standing (catalogue_of b es')
  catalogue_now = subst (λ (c : Catalogue). TellsCatalogue f.standing c) (sym by.catalogue) told.catalogue

  abbrev after : ℕ → GroupData
  after = with_part v t v'

  one_now : (f' : FolderData) (q : ℕ) (y : Table) → table_in f.standing.tables q ≡ Some y → TellsTable b es' f' x v' → (q ≢ t → TellsTable b es' f' y (v q)) → TellsTable b es' f' y (after q)
  one_now f' q y is own others = elim (cases_eq q t) [
    | inl e ↦
        let same : y ≡ x = one_found f.standing.tables t y x (subst (λ (k : ℕ). table_in f.standing.tables k ≡ Some y) e is) found in
        subst (λ (k : ℕ). TellsTable b es' f' y (after k)) (sym e) (subst (λ (w : GroupData). TellsTable b es' f' y w) (sym (with_part-here v t v')) (subst (λ (z : Table). TellsTable b es' f' z v') (sym same) own))
    | inr e ↦ subst (λ (w : GroupData). TellsTable b es' f' y w) (sym (with_part-other v t v' q e)) (others e)
  ]

  -- with no region changed
  pub noted : TellsTable b es' f x v' → Explains b es' f after
  noted own = record {
    legal = by.legal;
    catalogue = catalogue_now;
    numbered = told.numbered;
    tables = λ q y is. one_now f q y is own (λ other. noted_table b es es' f y (v q) (v q) (told.tables q y is) (by.others q y other is) (by.last y.id.0) (omega arith) refl refl refl);
  }

  -- with other contents of one of its regions
  moved : (n : ℕ) (s : RegionData) → TellsTable b es' (with_region n s f) x v' → ((q : ℕ) (y : Table) → q ≢ t → table_in f.standing.tables q ≡ Some y → IsForeign f y n) → Explains b es' (with_region n s f) after
  moved n s own foreign = record {
    legal = by.legal;
    catalogue = catalogue_now;
    numbered = told.numbered;
    tables = λ q y is. one_now (with_region n s f) q y is own (λ other. other_table f y n s b es es' (v q) (told.tables q y is) (foreign q y other is) (by.others q y other is) (by.last y.id.0));
  }

  module _ (kept : GroupKept (form_of_table b f.standing.indexes x) es' v') (high : (v t).high ≤ v'.high) (low : v'.low ≡ (v t).low) where
    -- its open batches and its horizon alone
    pub noted_kept : v'.cells ≡ (v t).cells → v'.indexes ≡ (v t).indexes → Explains b es' f after
    noted_kept cells indexes = noted (noted_table b es es' f x (v t) v' (told.tables t x found) kept (by.last x.id.0) high low cells indexes)

    module _ (n : ℕ) (batch : List CellData) where
      -- a batch in a region of its rows
      pub rows_batch : IsRegionAmong n x.regions → AreInRegion x n batch → ReadsSame v'.cells (batch ++ (v t).cells) → v'.indexes ≡ (v t).indexes → Explains b es' (with_region n (with_batch (f.regions n) batch) f) after
      rows_batch one mine reads indexes =
          moved n (with_batch (f.regions n) batch)
          (table_wrote b es es' f x (v t) v' (told.tables t x found) kept (by.last x.id.0) high low n batch one (told.numbered.each t x found) (rows_apart f told.numbered t x found n one) mine reads indexes)
          (rows_foreign f told.numbered t x found n one)

      -- a batch in the region of one of its indexes
      pub index_batch : (place : ℕ) (i : Index) → place < length (indexes_of x.id.0 f.standing.indexes) → get_or (indexes_of x.id.0 f.standing.indexes) place i ≡ i → i.region ≡ n → (j : ℕ) → j < length (v t).indexes → (get_or (v t).indexes j no_part).id ≡ i.id.0
          → value_at (get_or (v t).indexes j no_part).cells ≡ value_at (f.regions n).cells → (new : List CellData) → ReadsSame new (batch ++ (get_or (v t).indexes j no_part).cells) → v'.cells ≡ (v t).cells
          → v'.indexes ≡ set (v t).indexes j (with_cells new (get_or (v t).indexes j no_part)) → Explains b es' (with_region n (with_batch (f.regions n) batch) f) after
      index_batch place i there at region-is j lt id same new reads cells indexes =
          moved n (with_batch (f.regions n) batch)
          (index_now b es es' f x (v t) v' (told.tables t x found) kept (by.last x.id.0) high n (with_batch (f.regions n) batch) place i there at region-is (only_index f told.numbered t x found n place i there at region-is)
          (no_rows f told.numbered t x found n place i there at region-is t x found) j lt id (with_cells new (get_or (v t).indexes j no_part)) changed (λ h. omega (arith, h, high)) low cells indexes)
          (index_foreign f told.numbered t x found n place i there at region-is)
        where
          changed : IsChanged (get_or (v t).indexes j no_part) (with_cells new (get_or (v t).indexes j no_part)) (f.regions n) (with_batch (f.regions n) batch)
          changed = record {
            id = refl;
            birth = refl;
            built = refl;
            horizon = λ e. e;
            reads = values_put batch (get_or (v t).indexes j no_part).cells new reads ∙ (ap (λ (c : Contents). over_contents (value_at batch) c) same ∙ sym (values_batch (f.regions n) batch));
          }

-- ---- a region that forgot

abbrev forgot_part : IndexPart → ℕ → List CellData → IndexPart
forgot_part part h cells = record part { cells = cells; horizon = h }

-- what is true of all cells is true of those that a horizon keeps
all_kept : (P : CellData → Type 0) (cells kept : List CellData) (h : ℕ) → IsKeptList cells h kept → AllByRecursion P cells → AllByRecursion P kept
all_kept P cells kept h is all = has_all P kept (λ c there. all_has P cells c all (has_from_reads cells c ((is.exact c).0 (reads_from_has kept c is.list.ascending there)).0))

module _ (b : Base) (es es' : List Entry) (f : FolderData) (v : ℕ → GroupData) (told : Explains b es f v) (t : ℕ) (by : GoesOnBy b es es' f v t) (x : Table) (found : table_in f.standing.tables t ≡ Some x) (w : GroupData) (kept : GroupKept (form_of_table b f.standing.indexes x) es' w)
    (high : (v t).high ≤ w.high) where
  abbrev forgot : ℕ → List CellData → RegionData
  forgot h cells = record { cells = cells; horizon = h }

  -- the only region of its rows
  pub rows_forgot : (g : TableRegion) → x.regions ≡ g ∷ [] → (h : ℕ) (cells : List CellData) → IsKeptList (f.regions g.number).cells h cells → w.low ≡ h → ReadsSame w.cells cells → w.indexes ≡ (v t).indexes
      → Explains b es' (with_region g.number (forgot h cells) f) (with_part v t w)
  rows_forgot g only h cells keeps low reads indexes =
      let one : IsRegionAmong g.number x.regions = subst (λ (gs : List TableRegion). IsRegionAmong g.number gs) (sym only) (inl refl) in
      let placed : AreInRegion x g.number (f.regions g.number).cells = (subst (λ (gs : List TableRegion). AllByRecursion (λ g. AreInRegion x g.number (f.regions g.number).cells) gs) only (told.tables t x found).placed).0 in
      moved b es es' f v told t by x found w g.number (forgot h cells)
      (rows_now b es es' f x (v t) w (told.tables t x found) kept (by.last x.id.0) high g.number (forgot h cells) g only refl (rows_apart f told.numbered t x found g.number one)
      (all_kept (λ c. region_at x c.key ≡ g.number) (f.regions g.number).cells cells h keeps placed) low (same_values w.cells cells reads) indexes)
      (rows_foreign f told.numbered t x found g.number one)

  -- the region of one of its indexes
  pub index_forgot : (n place : ℕ) (i : Index) → place < length (indexes_of x.id.0 f.standing.indexes) → get_or (indexes_of x.id.0 f.standing.indexes) place i ≡ i → i.region ≡ n → (j : ℕ) → j < length (v t).indexes → (get_or (v t).indexes j no_part).id ≡ i.id.0
      → (h : ℕ) (cells new : List CellData) → ReadsSame new cells → w.low ≡ (v t).low → w.cells ≡ (v t).cells → w.indexes ≡ set (v t).indexes j (record (get_or (v t).indexes j no_part) { cells = new; horizon = h })
      → Explains b es' (with_region n (forgot h cells) f) (with_part v t w)
  index_forgot n place i there at region-is j lt id h cells new reads low same indexes =
      moved b es es' f v told t by x found w n (forgot h cells)
      (index_now b es es' f x (v t) w (told.tables t x found) kept (by.last x.id.0) high n (forgot h cells) place i there at region-is (only_index f told.numbered t x found n place i there at region-is)
      (no_rows f told.numbered t x found n place i there at region-is t x found) j lt id (forgot_part (get_or (v t).indexes j no_part) h new) changed (λ before. least) low same indexes)
      (index_foreign f told.numbered t x found n place i there at region-is)
    where
      changed : IsChanged (get_or (v t).indexes j no_part) (forgot_part (get_or (v t).indexes j no_part) h new) (f.regions n) (forgot h cells)
      changed = record { id = refl; birth = refl; built = refl; horizon = λ before. refl; reads = same_values new cells reads }

      -- the table's horizon is at least that of each of its indexes
      least : h ≤ w.high
      least =
          let inside : j < length w.indexes = subst (λ (l : List IndexPart). j < length l) (sym indexes) (let e = length-set (v t).indexes j (forgot_part (get_or (v t).indexes j no_part) h new) in omega arith) in
          subst (λ (k : ℕ). k ≤ w.high) (ap (λ (l : List IndexPart). (get_or l j no_part).horizon) indexes ∙ ap (λ (y : IndexPart). y.horizon) (get_or-set_same (v t).indexes j (forgot_part (get_or (v t).indexes j no_part) h new) no_part lt)) (kept.own j inside)

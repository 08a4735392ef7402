-- A table whose folder goes on, as it was or with a batch in one of its regions.
use Rattle.std.proofs.Common.{◌≡◌, ◌<◌, ◌≤◌, inl, inr, ℕ, zero, suc, true, false, List, [], ◌∷◌, ◌++◌, length, map, get_or, refl, sym, ap, subst, ◌∙◌, arith}
use Rattle.std.specs.List.{AllByRecursion}
use Rattle.std.proofs.Math.ListN.{set, length-set}
use Rattle.std.proofs.lemmas.Bool.{cases_eq}
use Rattle.std.proofs.lemmas.List.{get_or-set_same, get_or-set_other}
use Rattle.px_outside.specs.Parts.{AreDistinct, HasNone}
use Rattle.px_outside.proofs.Parts.{with_part-here, with_part-other}
use Rattle.px_cells.specs.CellData.{CellData}
use Rattle.px_cells.specs.Contents.{Contents, over_contents, value_at}
use Rattle.px_cells.specs.Order.{ReadsSame}
use Rattle.px_cells.proofs.Contents.{values_put}
use Rattle.px_tables.specs.declared.index.Index.{Index}
use Rattle.px_tables.specs.declared.table.Table.{Table}
use Rattle.px_tables.specs.declared.table.TableRegion.{TableRegion}
use Rattle.px_trail.specs.declared.entry.Entry.{Entry}
use Rattle.px_trail.specs.Trail.{Base, last_of}
use Rattle.px_groupworld.specs.Group.{GroupData, GroupKept, IndexPart, TableForm, no_part}
use Rattle.px_tablefolder.specs.Folder.{IndexFiles, IsFilesOf, IsFolderOf, TableFiles, last_cell, no_files}
use Rattle.px_region.specs.Region.{RegionData, with_batch}
use Rattle.px_recovery.specs.Folder.{FolderData, with_region}
use Rattle.px_recovery.specs.Tables.{AreInRegion, HasTableIndex, IsRegionAmong, TellsTable, form_of_table, indexes_of, number_of_part, number_of_region, region_at, region_of_index, table_files}
use Rattle.px_recovery.proofs.Cells.{all_batch, cells_else, cells_written, horizon_else, horizon_same, indexes_else, values_batch}

-- ---- places of lists

pub at_map : {A B : Type 0} (g : A → B) (l : List A) (q : ℕ) (none : B) (d : A) → q < length l → get_or (map g l) q none ≡ g (get_or l q d)
at_map g [] q none d lt = absurd (omega arith)
at_map g (y ∷ l) zero none d lt = refl
at_map g (y ∷ l) (suc q) none d lt = at_map g l q none d (omega arith)

pub none_place : {A : Type 0} (num : A → ℕ) (xs : List A) (k m : ℕ) (none : A) → HasNone num m xs → k < length xs → num (get_or xs k none) ≡ m → ⊥
none_place num [] k m none all lt is = omega arith
none_place num (y ∷ xs) zero m none all lt is = all.0 is
none_place num (y ∷ xs) (suc k) m none all lt is = none_place num xs k m none all.1 (omega arith) is

pub one_place : {A : Type 0} (num : A → ℕ) (xs : List A) (k j : ℕ) (none : A) → AreDistinct num xs → k < length xs → j < length xs → num (get_or xs k none) ≡ num (get_or xs j none) → k ≡ j
one_place num [] k j none once lk lj same = absurd (omega arith)
one_place num (y ∷ xs) zero zero none once lk lj same = refl
one_place num (y ∷ xs) zero (suc j) none once lk lj same = absurd (none_place num xs j (num y) none once.0 (omega arith) (sym same))
one_place num (y ∷ xs) (suc k) zero none once lk lj same = absurd (none_place num xs k (num y) none once.0 (omega arith) same)
one_place num (y ∷ xs) (suc k) (suc j) none once lk lj same = ap suc (one_place num xs k j none once.1 (omega arith) (omega arith) same)

none_set : (xs : List IndexPart) (j m : ℕ) (y none : IndexPart) → j < length xs → number_of_part y ≡ number_of_part (get_or xs j none) → HasNone number_of_part m xs → HasNone number_of_part m (set xs j y)
none_set [] j m y none lt same all = absurd (omega arith)
none_set (z ∷ xs) zero m y none lt same all = ((λ is. all.0 (sym same ∙ is)), all.1)
none_set (z ∷ xs) (suc j) m y none lt same all = (all.0, none_set xs j m y none (omega arith) same all.1)

pub distinct_set : (xs : List IndexPart) (j : ℕ) (y none : IndexPart) → j < length xs → number_of_part y ≡ number_of_part (get_or xs j none) → AreDistinct number_of_part xs → AreDistinct number_of_part (set xs j y)
distinct_set [] j y none lt same once = absurd (omega arith)
distinct_set (z ∷ xs) zero y none lt same once = (subst (λ (m : ℕ). HasNone number_of_part m xs) (sym same) once.0, once.1)
distinct_set (z ∷ xs) (suc j) y none lt same once = (none_set xs j (number_of_part z) y none (omega arith) same once.0, distinct_set xs j y none (omega arith) same once.1)

-- each index of these stands, and is of the table
abbrev pub AllStanding : List Index → ℕ → List IndexPart → Type 0
AllStanding indexes t xs = (j : ℕ) → j < length xs → HasTableIndex indexes t (get_or xs j no_part).id

pub standing_set : (indexes : List Index) (t : ℕ) (xs : List IndexPart) (k : ℕ) (y : IndexPart) → y.id ≡ (get_or xs k no_part).id → AllStanding indexes t xs → AllStanding indexes t (set xs k y)
standing_set indexes t xs k y same all j l =
    let e = length-set xs k y in
    let m : j < length xs = omega arith in
    subst (λ (n : ℕ). HasTableIndex indexes t n) (sym (elim (cases_eq j k) [
      | inl q ↦ ap (λ (z : ℕ). (get_or (set xs k y) z no_part).id) q ∙ (ap (λ (z : IndexPart). z.id) (get_or-set_same xs k y no_part (subst (λ (z : ℕ). z < length xs) q m)) ∙ (same ∙ ap (λ (z : ℕ). (get_or xs z no_part).id) (sym q)))
      | inr q ↦ ap (λ (z : IndexPart). z.id) (get_or-set_other xs k j y no_part q)
    ])) (all j m)

-- ---- a folder of a table that goes on

-- each active index of the files is one of these
abbrev AllActive : List IndexPart → List IndexFiles → Type 0
AllActive xs ys = (i : ℕ) → i < length ys → (get_or ys i no_files).is_active ≡ true → (j : ℕ) × ((j < length xs) × IsFilesOf (get_or xs j no_part) (get_or ys i no_files))

-- the same indexes, and numbers that may rise
pub folder_next : (f : TableForm) (es es' : List Entry) (v v' : GroupData) (n n' : TableFiles) → IsFolderOf f es v n → n'.horizon ≡ v'.low → value_at n'.cells ≡ value_at v'.cells → n'.indexes ≡ n.indexes → v'.indexes ≡ v.indexes
    → v.high ≤ v'.high → last_of f.base f.id.0 es ≤ last_of f.base f.id.0 es' → IsFolderOf f es' v' n'
folder_next f es es' v v' n n' old horizon cells files parts high last = record {
  horizon = horizon;
  cells = cells;
  active = subst (λ (xs : List IndexPart). AllActive xs n'.indexes) (sym parts) (subst (λ (ys : List IndexFiles). AllActive v.indexes ys) (sym files) old.active);
  below = subst (λ (ys : List IndexFiles). (i : ℕ) → i < length ys → (get_or ys i no_files).horizon ≤ v'.high) (sym files) (λ i l. (let a = old.below i l in omega arith));
  others = subst (λ (ys : List IndexFiles). (i : ℕ) → i < length ys → (get_or ys i no_files).is_active ≡ false → ((get_or ys i no_files).birth ≤ last_of f.base f.id.0 es') × (last_cell (get_or ys i no_files).cells ≤ last_of f.base f.id.0 es')) (sym files)
      (λ i l a. (let o = old.others i l a in let p = o.0 in let q = o.1 in (omega arith, omega arith)));
}

-- ---- a region of another table

-- it is neither one of the table's rows nor one of its indexes
pub record IsForeign (f : FolderData) (x : Table) (n : ℕ) : Type 0 where
  pub rows : HasNone number_of_region n x.regions
  pub indexes : HasNone region_of_index n (indexes_of x.id.0 f.standing.indexes)

module _ (f : FolderData) (x : Table) (n : ℕ) (s : RegionData) where
  pub placed_else : (gs : List TableRegion) → HasNone number_of_region n gs → AllByRecursion (λ g. AreInRegion x g.number (f.regions g.number).cells) gs → AllByRecursion (λ g. AreInRegion x g.number ((with_region n s f).regions g.number).cells) gs
  placed_else [] none all = tt
  placed_else (g ∷ gs) none all = (subst (λ (r : RegionData). AreInRegion x g.number r.cells) (sym (with_part-other f.regions n s g.number none.0)) all.0, placed_else gs none.1 all.1)

  files_else : IsForeign f x n → table_files (with_region n s f) x ≡ table_files f x
  files_else foreign = λ i. record { cells = cells_else f.regions n s x.regions foreign.rows i; horizon = horizon_else f.regions n s x.regions foreign.rows i; indexes = indexes_else f.regions n s (indexes_of x.id.0 f.standing.indexes) foreign.indexes i }

  -- the table goes on as it was
  pub other_table : (b : Base) (es es' : List Entry) (v : GroupData) → TellsTable b es f x v → IsForeign f x n → GroupKept (form_of_table b f.standing.indexes x) es' v → last_of b x.id.0 es ≤ last_of b x.id.0 es' → TellsTable b es' (with_region n s f) x v
  other_table b es es' v tells foreign kept last =
      let form = form_of_table b f.standing.indexes x in
      record {
        kept = kept;
        files = subst (λ (m : TableFiles). IsFolderOf form es' v m) (sym (files_else foreign))
            (folder_next form es es' v v (table_files f x) (table_files f x) tells.files tells.files.horizon tells.files.cells refl refl (omega arith) last);
        placed = placed_else x.regions foreign.rows tells.placed;
        once = tells.once;
        stand = tells.stand;
      }

-- the table goes on where no region changes: its horizon may have risen, and its open batches be others
pub noted_table : (b : Base) (es es' : List Entry) (f : FolderData) (x : Table) (v v' : GroupData) → TellsTable b es f x v → GroupKept (form_of_table b f.standing.indexes x) es' v' → last_of b x.id.0 es ≤ last_of b x.id.0 es' → v.high ≤ v'.high → v'.low ≡ v.low
    → v'.cells ≡ v.cells → v'.indexes ≡ v.indexes → TellsTable b es' f x v'
noted_table b es es' f x v v' tells kept last high low cells indexes =
    let form = form_of_table b f.standing.indexes x in
    record {
      kept = kept;
      files = folder_next form es es' v v' (table_files f x) (table_files f x) tells.files (tells.files.horizon ∙ sym low) (tells.files.cells ∙ ap value_at (sym cells)) refl indexes high last;
      placed = tells.placed;
      once = subst (λ (l : List IndexPart). AreDistinct number_of_part l) (sym indexes) tells.once;
      stand = subst (λ (l : List IndexPart). AllStanding f.standing.indexes x.id.0 l) (sym indexes) tells.stand;
    }

-- ---- a batch in a region of the table's rows

module _ (b : Base) (es es' : List Entry) (f : FolderData) (x : Table) (v v' : GroupData) (tells : TellsTable b es f x v) (kept : GroupKept (form_of_table b f.standing.indexes x) es' v') (last : last_of b x.id.0 es ≤ last_of b x.id.0 es')
    (high : v.high ≤ v'.high) (low : v'.low ≡ v.low) (n : ℕ) (batch : List CellData) where
  abbrev form : TableForm
  form = form_of_table b f.standing.indexes x

  abbrev s : RegionData
  s = with_batch (f.regions n) batch

  abbrev f' : FolderData
  f' = with_region n s f

  -- in a region of the table's rows
  module _ (one : IsRegionAmong n x.regions) (distinct : AreDistinct number_of_region x.regions) (apart : HasNone region_of_index n (indexes_of x.id.0 f.standing.indexes)) (mine : AreInRegion x n batch)
      (reads : ReadsSame v'.cells (batch ++ v.cells)) (indexes : v'.indexes ≡ v.indexes) where
    placed_more : (gs : List TableRegion) → AllByRecursion (λ g. AreInRegion x g.number (f.regions g.number).cells) gs → AllByRecursion (λ g. AreInRegion x g.number (f'.regions g.number).cells) gs
    placed_more [] all = tt
    placed_more (g ∷ gs) all = (
      elim (cases_eq g.number n) [
        | inl is ↦ subst (λ (m : ℕ). AreInRegion x m (f.regions m).cells → AreInRegion x m (f'.regions m).cells) (sym is)
            (λ there. subst (λ (r : RegionData). AreInRegion x n r.cells) (sym (with_part-here f.regions n s)) (all_batch (λ c. region_at x c.key ≡ n) (f.regions n) batch mine there)) all.0
        | inr not ↦ subst (λ (r : RegionData). AreInRegion x g.number r.cells) (sym (with_part-other f.regions n s g.number not)) all.0
      ],
      placed_more gs all.1,
    )

    pub table_wrote : TellsTable b es' f' x v'
    table_wrote = record {
      kept = kept;
      files = folder_next form es es' v v' (table_files f x) (table_files f' x) tells.files
          (horizon_same f.regions n s refl x.regions ∙ (tells.files.horizon ∙ sym low))
          (cells_written f.regions n s (region_at x) batch (values_batch (f.regions n) batch) mine x.regions one distinct tells.placed
          ∙ (ap (λ (c : Contents). over_contents (value_at batch) c) tells.files.cells ∙ sym (values_put batch v.cells v'.cells reads)))
          (indexes_else f.regions n s (indexes_of x.id.0 f.standing.indexes) apart) indexes high last;
      placed = placed_more x.regions tells.placed;
      once = subst (λ (l : List IndexPart). AreDistinct number_of_part l) (sym indexes) tells.once;
      stand = subst (λ (l : List IndexPart). AllStanding f.standing.indexes x.id.0 l) (sym indexes) tells.stand;
    }

-- A table of which one region has other contents: the only one of its rows, or that of one of its indexes.
use Rattle.std.proofs.Common.{◌≡◌, ◌≢◌, ◌<◌, ◌≤◌, inl, inr, ℕ, true, false, max, List, [], ◌∷◌, ◌++◌, length, get_or, sym, ap, subst, ◌∙◌, arith}
use Rattle.std.specs.List.{AllByRecursion}
use Rattle.std.proofs.Math.ListN.{set, length-set}
use Rattle.std.proofs.lemmas.Bool.{cases_eq}
use Rattle.std.proofs.lemmas.List.{append-nil, get_or-set_same, get_or-set_other, length-map}
use Rattle.px_outside.specs.Parts.{AreDistinct, HasNone}
use Rattle.px_outside.proofs.Parts.{with_part-here, with_part-other}
use Rattle.px_cells.specs.Contents.{Contents, value_at}
use Rattle.px_tables.specs.declared.index.Index.{Index}
use Rattle.px_tables.specs.declared.table.Table.{Table}
use Rattle.px_tables.specs.declared.table.TableRegion.{TableRegion}
use Rattle.px_trail.specs.declared.entry.Entry.{Entry}
use Rattle.px_trail.specs.Trail.{Base, last_of}
use Rattle.px_indexed.proofs.Regions.{none_above}
use Rattle.px_groupworld.specs.Group.{GroupData, GroupKept, IndexPart, TableForm, indexed_at, no_part}
use Rattle.px_tablefolder.specs.Folder.{IndexFiles, IsFilesOf, last_cell, no_files}
use Rattle.px_tablefolder.proofs.Stamped.{cells_within}
use Rattle.px_region.specs.Region.{RegionData}
use Rattle.px_recovery.specs.Folder.{FolderData, with_region}
use Rattle.px_recovery.specs.Tables.{AreInRegion, TellsTable, cells_of_regions, form_of_table, horizon_in, index_files, indexes_of, is_active, number_of_part, number_of_region, region_of_index, table_files}
use Rattle.px_recovery.proofs.Cells.{cells_else, horizon_else, indexes_else}
use Rattle.px_recovery.proofs.Tables.{AllStanding, at_map, distinct_set, folder_next, one_place, placed_else, standing_set}

-- the index has what is read of the region then, and its horizon, if it had it before
pub record IsChanged (old new : IndexPart) (before s : RegionData) : Type 0 where
  pub id : new.id ≡ old.id
  pub birth : new.birth ≡ old.birth
  pub built : new.is_built ≡ old.is_built
  pub horizon : old.horizon ≡ before.horizon → new.horizon ≡ s.horizon
  pub reads : value_at new.cells ≡ value_at s.cells

module _ (b : Base) (es es' : List Entry) (f : FolderData) (x : Table) (v v' : GroupData) (tells : TellsTable b es f x v) (kept : GroupKept (form_of_table b f.standing.indexes x) es' v') (last : last_of b x.id.0 es ≤ last_of b x.id.0 es')
    (high : v.high ≤ v'.high) (n : ℕ) (s : RegionData) where
  abbrev form : TableForm
  form = form_of_table b f.standing.indexes x

  abbrev f' : FolderData
  f' = with_region n s f

  -- the only region of the table's rows
  module _ (g : TableRegion) (only : x.regions ≡ g ∷ []) (is : g.number ≡ n) (apart : HasNone region_of_index n (indexes_of x.id.0 f.standing.indexes)) (mine : AreInRegion x n s.cells) (low : v'.low ≡ s.horizon)
      (reads : value_at v'.cells ≡ value_at s.cells) (indexes : v'.indexes ≡ v.indexes) where
    region_here : f'.regions g.number ≡ s
    region_here = subst (λ (m : ℕ). f'.regions m ≡ s) (sym is) (with_part-here f.regions n s)

    horizon_here : horizon_in f'.regions x.regions ≡ s.horizon
    unfolding horizon_in
    horizon_here = ap (horizon_in f'.regions) only ∙ (ap (λ (r : RegionData). max r.horizon 0) region_here ∙ omega arith)

    cells_here : cells_of_regions f'.regions x.regions ≡ s.cells
    unfolding cells_of_regions
    cells_here = ap (cells_of_regions f'.regions) only ∙ (ap (λ (r : RegionData). r.cells ++ []) region_here ∙ append-nil s.cells)

    placed_here : AllByRecursion (λ g. AreInRegion x g.number (f'.regions g.number).cells) x.regions
    placed_here = subst (λ (gs : List TableRegion). AllByRecursion (λ g. AreInRegion x g.number (f'.regions g.number).cells) gs) (sym only)
        (subst (λ (r : RegionData). AreInRegion x g.number r.cells) (sym region_here) (subst (λ (m : ℕ). AreInRegion x m s.cells) (sym is) mine), tt)

    pub rows_now : TellsTable b es' f' x v'
    rows_now = record {
      kept = kept;
      files = folder_next form es es' v v' (table_files f x) (table_files f' x) tells.files (horizon_here ∙ sym low) (ap value_at cells_here ∙ sym reads) (indexes_else f.regions n s (indexes_of x.id.0 f.standing.indexes) apart) indexes high last;
      placed = placed_here;
      once = subst (λ (l : List IndexPart). AreDistinct number_of_part l) (sym indexes) tells.once;
      stand = subst (λ (l : List IndexPart). AllStanding f.standing.indexes x.id.0 l) (sym indexes) tells.stand;
    }

  -- the region of an index
  abbrev stood : List Index
  stood = indexes_of x.id.0 f.standing.indexes

  module _ (place : ℕ) (i : Index) (there : place < length stood) (at : get_or stood place i ≡ i) (is : i.region ≡ n) (only : (q : ℕ) → q < length stood → q ≢ place → ((get_or stood q i).region ≢ n) × ((get_or stood q i).id.0 ≢ i.id.0))
      (rows : HasNone number_of_region n x.regions) (j : ℕ) (lt : j < length v.indexes) (id : (get_or v.indexes j no_part).id ≡ i.id.0) (new : IndexPart) (changed : IsChanged (get_or v.indexes j no_part) new (f.regions n) s)
      (least : (f.regions n).horizon ≤ v.high → s.horizon ≤ v'.high) (low : v'.low ≡ v.low) (cells : v'.cells ≡ v.cells) (indexes : v'.indexes ≡ set v.indexes j new) where
    abbrev part : IndexPart
    part = get_or v.indexes j no_part

    region_now : (m : ℕ) → m ≡ n → f'.regions m ≡ s
    region_now m same = subst (λ (k : ℕ). f'.regions k ≡ s) (sym same) (with_part-here f.regions n s)

    old_at : (q : ℕ) → q < length stood → get_or (table_files f x).indexes q no_files ≡ index_files f.regions (get_or stood q i)
    old_at q l = at_map (index_files f.regions) stood q no_files i l

    new_at : (q : ℕ) → q < length stood → get_or (table_files f' x).indexes q no_files ≡ index_files f'.regions (get_or stood q i)
    new_at q l = at_map (index_files f'.regions) stood q no_files i l

    old_inside : (q : ℕ) → q < length stood → q < length (table_files f x).indexes
    old_inside q l = let e = length-map stood (index_files f.regions) in omega arith

    inside : (q : ℕ) → q < length (table_files f' x).indexes → q < length stood
    inside q l = let e = length-map stood (index_files f'.regions) in omega arith

    inside_set : (k : ℕ) → k < length v.indexes → k < length (set v.indexes j new)
    inside_set k l = let e = length-set v.indexes j new in omega arith

    here_old : is_active i.state ≡ true → IsFilesOf part (index_files f.regions i)
    here_old a =
        let e : get_or (table_files f x).indexes place no_files ≡ index_files f.regions i = old_at place there ∙ ap (index_files f.regions) at in
        let o = tells.files.active place (old_inside place there) (ap (λ (y : IndexFiles). y.is_active) e ∙ a) in
        let m : IsFilesOf (get_or v.indexes o.0 no_part) (index_files f.regions i) = subst (λ (y : IndexFiles). IsFilesOf (get_or v.indexes o.0 no_part) y) e o.1.1 in
        let k : o.0 ≡ j = one_place number_of_part v.indexes o.0 j no_part tells.once o.1.0 lt (m.id ∙ sym id) in
        subst (λ (k : ℕ). IsFilesOf (get_or v.indexes k no_part) (index_files f.regions i)) k m

    here_new : is_active i.state ≡ true → IsFilesOf new (index_files f'.regions i)
    here_new a =
        let o = here_old a in
        let here = sym (region_now i.region is) in
        record {
          id = changed.id ∙ o.id;
          cells = changed.reads ∙ ap (λ (r : RegionData). value_at r.cells) here;
          birth = changed.birth ∙ o.birth;
          horizon = changed.horizon (o.horizon ∙ ap (λ (m : ℕ). (f.regions m).horizon) is) ∙ ap (λ (r : RegionData). r.horizon) here;
          built = changed.built ∙ o.built;
        }

    abbrev Active : List IndexPart → IndexFiles → Type 0
    Active xs y = (k : ℕ) × ((k < length xs) × IsFilesOf (get_or xs k no_part) y)

    else_files : (q : ℕ) → (get_or stood q i).region ≢ n → index_files f'.regions (get_or stood q i) ≡ index_files f.regions (get_or stood q i)
    else_files q not = λ k. (let e = with_part-other f.regions n s (get_or stood q i).region not in
        record { id = (get_or stood q i).id.0; cells = (e k).cells; birth = (get_or stood q i).birth; horizon = (e k).horizon; is_active = is_active (get_or stood q i).state })

    active_else : (q : ℕ) → q < length stood → q ≢ place → is_active (get_or stood q i).state ≡ true → Active (set v.indexes j new) (index_files f'.regions (get_or stood q i))
    active_else q l not a =
        let o = tells.files.active q (old_inside q l) (ap (λ (y : IndexFiles). y.is_active) (old_at q l) ∙ a) in
        let m : IsFilesOf (get_or v.indexes o.0 no_part) (index_files f.regions (get_or stood q i)) = subst (λ (y : IndexFiles). IsFilesOf (get_or v.indexes o.0 no_part) y) (old_at q l) o.1.1 in
        let apart : o.0 ≢ j = (λ e. (only q l not).1 (sym m.id ∙ (ap (λ (k : ℕ). (get_or v.indexes k no_part).id) e ∙ id))) in (
          o.0,
          (
            inside_set o.0 o.1.0,
            subst (λ (y : IndexFiles). IsFilesOf (get_or (set v.indexes j new) o.0 no_part) y) (sym (else_files q (only q l not).0))
                (subst (λ (z : IndexPart). IsFilesOf z (index_files f.regions (get_or stood q i))) (sym (get_or-set_other v.indexes j o.0 new no_part apart)) m),
          ),
        )

    active_here : is_active i.state ≡ true → Active (set v.indexes j new) (index_files f'.regions i)
    active_here a = (j, (inside_set j lt, subst (λ (z : IndexPart). IsFilesOf z (index_files f'.regions i)) (sym (get_or-set_same v.indexes j new no_part lt)) (here_new a)))

    active_at : (q : ℕ) → q < length stood → is_active (get_or stood q i).state ≡ true → Active (set v.indexes j new) (index_files f'.regions (get_or stood q i))
    active_at q l a = elim (cases_eq q place) [
      | inl e ↦
          let here : get_or stood q i ≡ i = ap (λ (k : ℕ). get_or stood k i) e ∙ at in
          subst (λ (y : Index). Active (set v.indexes j new) (index_files f'.regions y)) (sym here) (active_here (ap (λ (y : Index). is_active y.state) (sym here) ∙ a))
      | inr not ↦ active_else q l not a
    ]

    abbrev most : ℕ
    most = last_of b x.id.0 es'

    part_now : get_or v'.indexes j no_part ≡ new
    part_now = ap (λ (l : List IndexPart). get_or l j no_part) indexes ∙ get_or-set_same v.indexes j new no_part lt

    inside_now : j < length v'.indexes
    inside_now = subst (λ (l : List IndexPart). j < length l) (sym indexes) (inside_set j lt)

    -- no manifest has a horizon above the table's
    low_before : (q : ℕ) → q < length stood → (f.regions (get_or stood q i).region).horizon ≤ v.high
    low_before q l = subst (λ (y : IndexFiles). y.horizon ≤ v.high) (old_at q l) (tells.files.below q (old_inside q l))

    low_at : (q : ℕ) → q < length stood → (f'.regions (get_or stood q i).region).horizon ≤ v'.high
    low_at q l = elim (cases_eq (get_or stood q i).region n) [
      | inl same ↦
          let h : (f.regions n).horizon ≤ v.high = subst (λ (m : ℕ). (f.regions m).horizon ≤ v.high) same (low_before q l) in
          subst (λ (r : RegionData). r.horizon ≤ v'.high) (sym (region_now (get_or stood q i).region same)) (least h)
      | inr not ↦
          let h = low_before q l in
          subst (λ (r : RegionData). r.horizon ≤ v'.high) (sym (with_part-other f.regions n s (get_or stood q i).region not)) (omega (arith, h, high))
    ]

    within_here : last_cell s.cells ≤ most
    within_here =
        let k = kept.indexes j inside_now in
        cells_within s.cells most (λ key q u d above.
        ap (λ (c : Contents). c key q u d) (sym changed.reads ∙ ap (λ (y : IndexPart). value_at y.cells) (sym part_now))
        ∙ none_above (indexed_at form v' j).form most (get_or v'.indexes j no_part).cells k.cells key q u d above)

    others_at : (q : ℕ) → q < length stood → is_active (get_or stood q i).state ≡ false → ((get_or stood q i).birth ≤ most) × (last_cell (f'.regions (get_or stood q i).region).cells ≤ most)
    others_at q l a =
        let e = old_at q l in
        let o = tells.files.others q (old_inside q l) (ap (λ (y : IndexFiles). y.is_active) e ∙ a) in
        let birth : (get_or stood q i).birth ≤ last_of b x.id.0 es = subst (λ (y : IndexFiles). y.birth ≤ last_of b x.id.0 es) e o.0 in
        let below : last_cell (f.regions (get_or stood q i).region).cells ≤ last_of b x.id.0 es = subst (λ (y : IndexFiles). last_cell y.cells ≤ last_of b x.id.0 es) e o.1 in (
          omega (arith, birth, last),
          elim (cases_eq (get_or stood q i).region n) [
            | inl same ↦ subst (λ (r : RegionData). last_cell r.cells ≤ most) (sym (region_now (get_or stood q i).region same)) within_here
            | inr not ↦ subst (λ (r : RegionData). last_cell r.cells ≤ most) (sym (with_part-other f.regions n s (get_or stood q i).region not)) (omega (arith, below, last))
          ],
        )

    pub index_now : TellsTable b es' f' x v'
    index_now = record {
      kept = kept;
      files = record {
        horizon = horizon_else f.regions n s x.regions rows ∙ (tells.files.horizon ∙ sym low);
        cells = ap value_at (cells_else f.regions n s x.regions rows) ∙ (tells.files.cells ∙ ap value_at (sym cells));
        active = λ q l a. subst (λ (xs : List IndexPart). Active xs (get_or (table_files f' x).indexes q no_files)) (sym indexes)
            (subst (λ (y : IndexFiles). Active (set v.indexes j new) y) (sym (new_at q (inside q l))) (active_at q (inside q l) (ap (λ (y : IndexFiles). y.is_active) (sym (new_at q (inside q l))) ∙ a)));
        below = λ q l. subst (λ (y : IndexFiles). y.horizon ≤ v'.high) (sym (new_at q (inside q l))) (low_at q (inside q l));
        others = λ q l a. subst (λ (y : IndexFiles). (y.birth ≤ most) × (last_cell y.cells ≤ most)) (sym (new_at q (inside q l))) (others_at q (inside q l) (ap (λ (y : IndexFiles). y.is_active) (sym (new_at q (inside q l))) ∙ a));
      };
      placed = placed_else f x n s x.regions rows tells.placed;
      stand = subst (λ (l : List IndexPart). AllStanding f.standing.indexes x.id.0 l) (sym indexes) (standing_set f.standing.indexes x.id.0 v.indexes j new changed.id tells.stand);
      once = subst (λ (l : List IndexPart). AreDistinct number_of_part l) (sym indexes) (distinct_set v.indexes j new no_part lt changed.id tells.once);
    }

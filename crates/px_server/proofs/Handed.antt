-- A step hands cells to one region of one group: what is true of a server stays so.
--
-- The region is that of the group's rows or that of the index at a place (proofs/Regions). A step owes facts of its group alone:
-- what its data become whatever is read of the region then (`RowsGo`, `IndexGoes`; after a failed call nothing more), and where all calls
-- succeeded, that the group is right, tallied and shows these data. All the rest is the work of `rows_handed`, `index_handed` and so on:
-- `.._handed` where no entry is added, `.._told` with an entry that lasts, `.._shut` where a call failed with nothing under way,
-- and `.._late` where it failed with an entry under way.
use Rattle.std.proofs.Common.{◌≡◌, ◌≢◌, ◌<◌, ◌≤◌, ◌+◌, inl, inr, ℕ, true, false, Option, Some, None, List, [], ◌∷◌, ◌++◌, length, get_or, map, slice_get, refl, sym, ap, subst, ◌∙◌, arith}
use Rattle.std.specs.Prelude.{IsTrue}
use Rattle.std.specs.List.{slice_set}
use Rattle.std.proofs.Math.ListN.{set}
use Rattle.std.proofs.lemmas.List.{get_or-set_other, get_or-set_same}
use Rattle.px_outside.specs.OnDisk.{Rose}
use Rattle.px_outside.specs.Parts.{with_part}
use Rattle.px_outside.specs.declared.disk.Disk.{Ghosts}
use Rattle.px_cells.specs.CellData.{CellData}
use Rattle.px_cells.specs.Contents.{value_at}
use Rattle.px_cells.specs.Order.{ReadsSame}
use Rattle.px_merge.specs.Settle.{settle}
use Rattle.px_tables.specs.declared.index.Index.{Index}
use Rattle.px_tables.specs.declared.table.Table.{Table}
use Rattle.px_trail.specs.declared.entry.Entry.{Entry}
use Rattle.px_trail.specs.Lasting.{lasting}
use Rattle.px_trail.specs.Recorded.{Recorded}
use Rattle.px_trail.specs.Trail.{Base, catalogue_of}
use Rattle.px_region.specs.Region.{RegionHolds, read_of, with_batch}
use Rattle.px_region.specs.declared.region.Region.{Region}
use Rattle.px_region.proofs.Holding.{store_is_all}
use Rattle.px_forms.specs.Indexes.{IndexForm}
use Rattle.px_rows.specs.Spelled.{row_form}
use Rattle.px_groupworld.specs.Group.{GroupData, GroupKept, IndexPart, TableForm, no_part, table_form}
use Rattle.px_groupworld.specs.Steps.{with_cells}
use Rattle.px_openbatches.specs.Pending.{HeldBatch}
use Rattle.px_tablereads.specs.Told.{AreTold}
use Rattle.px_schema.specs.declared.standing.Standing.{Standing}
use Rattle.px_catalog.specs.declared.catalog.Catalog.{Catalog}
use Rattle.px_group.specs.Group.{AreStanding, AreTraced, IsRightGroup, IsRightPart, IsShownBy, IsTallied, form_of}
use Rattle.px_group.specs.Writing.{HasWritten, WritesTo}
use Rattle.px_group.specs.declared.group.Group.{Group}
use Rattle.px_group.specs.declared.group.IndexRegion.{IndexRegion}
use Rattle.px_batching.proofs.Handed.{reads_settled}
use Rattle.px_batching.proofs.Places.{set_cases, within}
use Rattle.px_defined.specs.Defined.{HasOnce}
use Rattle.px_reading.specs.Doubts.{IsToldBy}
use Rattle.px_recovery.specs.Folder.{FolderData, with_region}
use Rattle.px_recovery.specs.Stands.{AreNumbered, Explains, TellsCatalogue}
use Rattle.px_recovery.specs.Tables.{table_in}
use Rattle.px_recovery.proofs.Explains.{index_batch, rows_batch}
use Rattle.px_recovery.proofs.Numbered.{index_number, rows_number}
use Rattle.px_server.specs.Kept.{AreBuilt, HasPoints, HasShown, HasTallied, IsKept, IsOnDisk, IsShutAt, forms_in, number_in, owed, tells_fault}
use Rattle.px_server.specs.Others.{Beginning, IsRegion}
use Rattle.px_server.proofs.Beside.{own_shown}
use Rattle.px_server.proofs.Built.{built_table}
use Rattle.px_server.proofs.Elsewhere.{GoesOnIn, IsOfTable, no_entry, one_entry}
use Rattle.px_server.proofs.Framed.{rows_in_region}
use Rattle.px_server.proofs.Lists.{all_at}
use Rattle.px_server.proofs.Numbers.{HasPlace, IsStored, LacksNumber, has_place, lacks_index, lacks_rows, part_at, rows_one, same_once, set_once, stored_index, stored_table}
use Rattle.px_server.proofs.OpenBatches.{stamp_in}
use Rattle.px_server.proofs.Regions.{ToIndex, ToRows, index_on, rows_on}
use Rattle.px_server.proofs.Written.{MovesThen, ShowsThen, TellsThen, handed, handed_late, handed_noted, handed_shut, handed_told}

-- ---- 1. What becomes of its data

-- after these entries, where these are read of the region of its rows
pub record RowsThen (f : TableForm) (es' : List Entry) (v : GroupData) (new : List CellData) : Type 0 where
  pub table_data : GroupData
  pub kept : GroupKept f es' table_data
  pub high : v.high ≤ table_data.high
  pub low : table_data.low ≡ v.low
  pub cells : table_data.cells ≡ new
  pub indexes : table_data.indexes ≡ v.indexes

-- or of the region of the index at the place
pub record IndexThen (f : TableForm) (es' : List Entry) (v : GroupData) (i : ℕ) (new : List CellData) : Type 0 where
  pub table_data : GroupData
  pub kept : GroupKept f es' table_data
  pub high : v.high ≤ table_data.high
  pub low : table_data.low ≡ v.low
  pub cells : table_data.cells ≡ v.cells
  pub indexes : table_data.indexes ≡ set v.indexes i (with_cells new (get_or v.indexes i no_part))

-- whatever is read of the region then, as long as it reads as the cells before all that there were
abbrev pub RowsGo : Base → List Entry → List Entry → Group → List CellData → Type 0
RowsGo b es es' g cells =
    (index : ℕ → IndexForm) (v : GroupData) (hs : List HeldBatch) → IsTallied b es g hs → IsShownBy b index es g v hs → IsToldBy b index es g v → (new : List CellData) → ReadsSame new (cells ++ read_of g.rows) → RowsThen (form_of b index g) es' v new

abbrev pub IndexGoes : Base → List Entry → List Entry → Group → ℕ → IndexRegion → List CellData → Type 0
IndexGoes b es es' g i x cells =
    (index : ℕ → IndexForm) (v : GroupData) (hs : List HeldBatch) → IsTallied b es g hs → IsShownBy b index es g v hs → IsToldBy b index es g v → (new : List CellData) → ReadsSame new (cells ++ read_of x.region) → IndexThen (form_of b index g) es' v i new

-- ---- 2. What the group shows where all calls succeeded

-- these data, of these open batches, and what a repair rests on but the horizon of a manifest
pub record RowsShown (b : Base) (index : ℕ → IndexForm) (es' : List Entry) (g g' : Group) (v : GroupData) (hs' : List HeldBatch) (new : Region) : Type 0 where
  pub then : RowsThen (form_of b index g) es' v (read_of new)
  pub shown : IsShownBy b index es' g' then.table_data hs'
  pub told : AreTold (form_of b index g) es' then.table_data
  pub built : AreBuilt (form_of b index g) es' then.table_data

pub record IndexShown (b : Base) (index : ℕ → IndexForm) (es' : List Entry) (g g' : Group) (v : GroupData) (hs' : List HeldBatch) (i : ℕ) (new : Region) : Type 0 where
  pub then : IndexThen (form_of b index g) es' v i (read_of new)
  pub shown : IsShownBy b index es' g' then.table_data hs'
  pub told : AreTold (form_of b index g) es' then.table_data
  pub built : AreBuilt (form_of b index g) es' then.table_data

abbrev pub RowsShow : Base → List Entry → List Entry → Group → Group → (List HeldBatch → List HeldBatch) → Region → Type 0
RowsShow b es es' g g' next new = (index : ℕ → IndexForm) (v : GroupData) (hs : List HeldBatch) → IsTallied b es g hs → IsShownBy b index es g v hs → IsToldBy b index es g v → AreBuilt (form_of b index g) es v → RowsShown b index es' g g' v (next hs) new

abbrev pub IndexShows : Base → List Entry → List Entry → Group → Group → (List HeldBatch → List HeldBatch) → ℕ → Region → Type 0
IndexShows b es es' g g' next i new = (index : ℕ → IndexForm) (v : GroupData) (hs : List HeldBatch) → IsTallied b es g hs → IsShownBy b index es g v hs → IsToldBy b index es g v → AreBuilt (form_of b index g) es v → IndexShown b index es' g g' v (next hs) i new

-- the manifest's horizon stays
abbrev pub IsSameHorizon : Region → Region → Type 0
IsSameHorizon old new = new.horizon ≡ old.horizon

-- ---- 3. The work

-- what is shown of the group then, as the server keeps it
has_shown : (b : Base) (es' : List Entry) (g g' : Group) → g'.table ≡ g.table → (indexes : List Index) (v : ℕ → GroupData) (w : GroupData) (hs' : List HeldBatch) → IsTallied b es' g' hs' → IsShownBy b (forms_in indexes g.table) es' g' w hs'
    → AreTold (form_of b (forms_in indexes g.table) g) es' w → AreBuilt (form_of b (forms_in indexes g.table) g) es' w → ((i : ℕ) (x : IndexRegion) → slice_get g'.indexes.items i ≡ Some x → (get_or w.indexes i no_part).horizon ≡ x.region.horizon) → HasShown b es' indexes (with_part v (number_in g) w) g'
has_shown b es' g g' table indexes v w hs' tallied shown told built own =
    own_shown b es' indexes v w g.table g' table hs' tallied shown
    (record { told = subst (λ (x : Table). AreTold (table_form b x.id (forms_in indexes g.table) (row_form x)) es' w) (sym table) told; own = own })
    (built_table b (forms_in indexes g.table) es' w g.table g'.table (sym table) built)

module _ {D : Type 0} (d : Ghosts D) (tells_left : (x : D) (moment file : ℕ) (bytes : List ℕ) → d.left x moment file bytes → IsTrue d.tells)
    (up_to_now : (x : D) (moment file : ℕ) (bytes : List ℕ) → d.left x moment file bytes → moment ≤ d.calls x) (b : Base) (sound premise : Type 0) (began : Beginning)
    (disk : D) (catalog : Catalog) (standing : Standing) (groups : List Group) (trail : Recorded) (late : Option Entry) (closed : Option ℕ) (k : IsKept d b sound premise began disk catalog standing groups trail late closed)
    (running : closed ≡ None) (place : ℕ) (g g' : Group) (l : place < length groups) (is : get_or groups place g ≡ g) (disk' : D) where
  abbrev es : List Entry
  es = trail.entries

  abbrev t : ℕ
  t = number_in g

  abbrev then : List Group
  then = slice_set groups place g'

  right_here : IsRightGroup g
  right_here = all_at IsRightGroup groups place g l is (k.each.right running)

  standing_here : AreStanding b es g
  standing_here = (all_at (HasTallied b es) groups place g l is (k.each.tallied running)).tallied.standing

  once_here : HasOnce g
  once_here = all_at HasOnce groups place g l is (k.each.once running)

  found : (s : Standing) → TellsCatalogue s (catalogue_of b es) → table_in s.tables t ≡ Some g.table
  found s tells = stored_table b es s tells g standing_here

  -- ---- the region of the rows

  module _ (new : Region) (cells : List CellData) (to : ToRows g g' new) (writes : WritesTo d g.rows new disk disk' cells) where
    rows_lacks : (s : Standing) → TellsCatalogue s (catalogue_of b es) → AreNumbered s → (h : Group) → IsRightGroup h → AreStanding b es h → number_in h ≢ number_in g → LacksNumber g.rows.number h
    rows_lacks s tells numbered h r a other = lacks_rows b es s tells numbered g right_here standing_here h r a other

    rows_drawn : (s : Standing) → TellsCatalogue s (catalogue_of b es) → AreNumbered s → (1 ≤ g.rows.number) × (g.rows.number < s.next)
    rows_drawn s tells numbered = rows_number s numbered t g.rows.number g.table (found s tells) (rows_one g right_here)

    rows_holds : (f : FolderData) → IsOnDisk d disk f g → RegionHolds d g.rows disk (f.regions g.rows.number)
    rows_holds f on = on.rows

    rows_stand : IsRegion (catalogue_of b es) g.rows.number
    rows_stand = inl (record { number = t; table = g.table; stands = standing_here.table; own = rows_one g right_here })

    abbrev rows_changed : FolderData → FolderData
    rows_changed f = with_region g.rows.number (with_batch (f.regions g.rows.number) cells) f

    rows_on_disk : HasWritten d g.rows new disk disk' cells → (f : FolderData) → TellsCatalogue f.standing (catalogue_of b es) → AreNumbered f.standing → IsOnDisk d disk f g → IsOnDisk d disk' (rows_changed f) g'
    rows_on_disk written f tells numbered on =
        rows_on d disk disk' b es f tells numbered g g' right_here standing_here (with_batch (f.regions g.rows.number) cells) on new to writes.number (writes.touches (f.regions g.rows.number) on.rows) (written.holds (f.regions g.rows.number) on.rows)

    rows_explain : (es' : List Entry) → GoesOnIn b es es' t → (f : FolderData) (v : ℕ → GroupData) → Explains b es f v → (hs : List HeldBatch) → IsShownBy b (forms_in f.standing.indexes g.table) es g (v t) hs → (read : List CellData) → ReadsSame read (cells ++ read_of g.rows)
        → (w : RowsThen (form_of b (forms_in f.standing.indexes g.table) g) es' (v t) read) → Explains b es' (rows_changed f) (with_part v t w.table_data)
    rows_explain es' by f v told hs shown read reads w =
        rows_batch b es es' f v told t (by.explains f v told) g.table (found f.standing told.catalogue) w.table_data w.kept w.high w.low g.rows.number cells (rows_one g right_here) (rows_in_region g right_here cells)
        (subst (λ (ys : List CellData). ReadsSame ys (cells ++ (v t).cells)) (sym w.cells) (subst (λ (ys : List CellData). ReadsSame read (cells ++ ys)) (sym shown.rows) reads)) w.indexes

    -- a failed call leaves the folder, or it with the cells
    rows_tells : (es' : List Entry) → GoesOnIn b es es' t → RowsGo b es es' g cells → (f : FolderData) (v : ℕ → GroupData) → Explains b es f v → IsOnDisk d disk f g → HasShown b es f.standing.indexes v g → TellsThen b es' (rows_changed f) v t
    rows_tells es' by go f v told on has = (let
        read = settle (cells ++ read_of g.rows)
        in let
        reads = reads_settled cells (read_of g.rows) read refl
        in let
        w = go (forms_in f.standing.indexes g.table) (v t) has.held has.tallied has.shown has.told read reads
        in record { table_data = w.table_data; explains = rows_explain es' by f v told has.held has.shown read reads w })

    module _ (written : HasWritten d g.rows new disk disk' cells) (horizons : IsSameHorizon g.rows new) (es' : List Entry) (by : GoesOnIn b es es' t) (next : List HeldBatch → List HeldBatch) (tallied : (hs : List HeldBatch) → IsTallied b es g hs → IsTallied b es' g' (next hs))
        (show : RowsShow b es es' g g' next new) where
      rows_has : (indexes : List Index) (v : ℕ → GroupData) (has : HasShown b es indexes v g) → (w : RowsShown b (forms_in indexes g.table) es' g g' (v t) (next has.held) new) → HasShown b es' indexes (with_part v t w.then.table_data) g'
      rows_has indexes v has w =
          has_shown b es' g g' to.table indexes v w.then.table_data (next has.held) (tallied has.held has.tallied) w.shown w.told w.built
          (λ i x at. ap (λ (xs : List IndexPart). (get_or xs i no_part).horizon) w.then.indexes ∙ has.told.own i x (ap (λ (xs : List IndexRegion). slice_get xs i) (sym to.indexes) ∙ at))

      rows_shows : (indexes : List Index) (v : ℕ → GroupData) → HasShown b es indexes v g → ShowsThen b es' indexes v t g'
      rows_shows indexes v has = (let
          w = show (forms_in indexes g.table) (v t) has.held has.tallied has.shown has.told has.built
          in record { table_data = w.then.table_data; has = rows_has indexes v has w })

      rows_moves : (f : FolderData) (v : ℕ → GroupData) → Explains b es f v → IsOnDisk d disk f g → HasShown b es f.standing.indexes v g → MovesThen b es' f.standing.indexes (rows_changed f) v t g'
      rows_moves f v told on has = (let
          w = show (forms_in f.standing.indexes g.table) (v t) has.held has.tallied has.shown has.told has.built
          in record { table_data = w.then.table_data; explains = rows_explain es' by f v told has.held has.shown (read_of new) written.reads w.then; has = rows_has f.standing.indexes v has w })

    -- all calls succeeded, and no entry is added
    pub rows_handed : HasWritten d g.rows new disk disk' cells → IsSameHorizon g.rows new → IsRightGroup g' → (next : List HeldBatch → List HeldBatch) → ((hs : List HeldBatch) → IsTallied b es g hs → IsTallied b es g' (next hs)) → RowsShow b es es g g' next new → owed g' ≤ owed g
        → IsKept d b sound premise began disk' catalog standing then trail late closed
    rows_handed written horizons right next tallied show room =
        handed d tells_left up_to_now b sound premise began disk catalog standing groups trail late closed k running place g g' l is to.table to.points disk' g.rows new (λ s. with_batch s cells) writes.number writes.touches writes.counts rows_lacks rows_drawn rows_holds rows_stand
        right next (same_once g g' to.indexes) written.holds (rows_on_disk written) writes.leaves tallied
        (λ given. rows_shows written horizons es (no_entry b es k.told.legal t) next tallied show) (λ given. rows_moves written horizons es (no_entry b es k.told.legal t) next tallied show) room

    -- with an entry that lasts
    pub rows_told : HasWritten d g.rows new disk disk' cells → IsSameHorizon g.rows new → IsRightGroup g' → (e : Entry) → lasting e ≡ true → e.calls ≡ d.calls disk' → IsOfTable b es t e → tells_fault e.act ≡ false → (next : List HeldBatch → List HeldBatch)
        → ((hs : List HeldBatch) → IsTallied b es g hs → IsTallied b (es ++ e ∷ []) g' (next hs)) → HasPoints (es ++ e ∷ []) g' → RowsShow b es (es ++ e ∷ []) g g' next new → (trail' : Recorded) → trail'.entries ≡ es ++ e ∷ [] → owed g' + trail.room ≤ owed g + trail'.room
        → IsKept d b sound premise began disk' catalog standing then trail' late closed
    rows_told written horizons right e lasts at of quiet next tallied points' show trail' entries room =
        handed_told d tells_left up_to_now b sound premise began disk catalog standing groups trail late closed k running place g g' l is to.table to.points disk' g.rows new (λ s. with_batch s cells) writes.number writes.touches writes.counts rows_lacks rows_drawn rows_holds rows_stand
        right next (same_once g g' to.indexes) written.holds (rows_on_disk written) e lasts at of quiet writes.leaves tallied points'
        (λ given. rows_shows written horizons (es ++ e ∷ []) (one_entry b es k.told.legal t e of) next tallied show) (λ given. rows_moves written horizons (es ++ e ∷ []) (one_entry b es k.told.legal t e of) next tallied show) trail' entries room

    -- a call failed: nothing was under way, or an entry
    pub rows_shut : (shut : Entry) (call : ℕ) → IsShutAt shut call → call ≡ d.calls disk' → Rose d disk disk' → (AreTraced es g → AreTraced es g') → map stamp_in g'.batches.items ≡ map stamp_in g.batches.items → RowsGo b es es g cells → (trail' : Recorded) → trail'.entries ≡ es ++ shut ∷ [] → owed g' + trail.room ≤ owed g + trail'.room + 1
        → IsKept d b sound premise began disk' catalog standing then trail' None (Some call)
    rows_shut shut call shut-is shut_at rose traced stamps go trail' entries room =
        handed_shut d tells_left up_to_now b sound premise began disk catalog standing groups trail late closed k running place g g' l is to.table to.points disk' g.rows new (λ s. with_batch s cells) writes.number writes.touches writes.counts rows_lacks rows_drawn rows_holds rows_stand
        shut call shut-is shut_at rose traced stamps trail' entries room writes.leaves (λ given. rows_tells es (no_entry b es k.told.legal t) go)

    pub rows_late : (shut : Entry) (call : ℕ) → IsShutAt shut call → call ≡ d.calls disk' → Rose d disk disk' → (AreTraced es g → AreTraced es g') → map stamp_in g'.batches.items ≡ map stamp_in g.batches.items → (u : Entry) → lasting u ≡ true → u.calls ≡ d.calls disk' → IsOfTable b es t u → RowsGo b es (es ++ u ∷ []) g cells
        → (trail' : Recorded) → trail'.entries ≡ es ++ shut ∷ [] → owed g' + trail.room ≤ owed g + trail'.room + 1 → IsKept d b sound premise began disk' catalog standing then trail' (Some u) (Some call)
    rows_late shut call shut-is shut_at rose traced stamps u lasts at of go trail' entries room =
        handed_late d tells_left up_to_now b sound premise began disk catalog standing groups trail late closed k running place g g' l is to.table to.points disk' g.rows new (λ s. with_batch s cells) writes.number writes.touches writes.counts rows_lacks rows_drawn rows_holds rows_stand
        shut call shut-is shut_at rose traced stamps trail' entries room writes.leaves u lasts at of.may (rows_tells (es ++ u ∷ []) (one_entry b es k.told.legal t u of) go)

  -- ---- the region of an index

  module _ (i : ℕ) (x : IndexRegion) (new : Region) (cells : List CellData) (to : ToIndex g g' i x new) (writes : WritesTo d x.region new disk disk' cells) where
    abbrev n : ℕ
    n = x.region.number

    part : IsRightPart g.table x
    part = part_at g right_here i x to.index

    index_lacks : (s : Standing) → TellsCatalogue s (catalogue_of b es) → AreNumbered s → (h : Group) → IsRightGroup h → AreStanding b es h → number_in h ≢ number_in g → LacksNumber n h
    index_lacks s tells numbered h r a other = lacks_index b es s tells numbered g right_here standing_here h r a other i x to.index

    stored : (s : Standing) → TellsCatalogue s (catalogue_of b es) → IsStored s x.index
    stored s tells = stored_index b es s tells g standing_here i x to.index

    placed : (s : Standing) (tells : TellsCatalogue s (catalogue_of b es)) → HasPlace g.table.id.0 s.indexes (stored s tells).index
    placed s tells = (let y = stored s tells in has_place g.table.id.0 s.indexes x.index.id.0 y.index y.is (ap (λ q. q.0) (y.table ∙ part.table)))

    region-is : (s : Standing) (tells : TellsCatalogue s (catalogue_of b es)) → (stored s tells).index.region ≡ n
    region-is s tells = (stored s tells).region ∙ part.number

    index_drawn : (s : Standing) → TellsCatalogue s (catalogue_of b es) → AreNumbered s → (1 ≤ n) × (n < s.next)
    index_drawn s tells numbered = (let
        p = placed s tells
        in subst (λ (m : ℕ). (1 ≤ m) × (m < s.next)) (region-is s tells) (index_number s numbered g.table.id.0 p.place (stored s tells).index p.inside p.is))

    index_holds : (f : FolderData) → IsOnDisk d disk f g → RegionHolds d x.region disk (f.regions n)
    index_holds f on = on.indexes i x to.index

    index_stands : IsRegion (catalogue_of b es) n
    index_stands = inr (record { number = x.index.id.0; index = x.index; stands = standing_here.index i x to.index; own = part.number })

    abbrev index_changed : FolderData → FolderData
    index_changed f = with_region n (with_batch (f.regions n) cells) f

    index_on_disk : HasWritten d x.region new disk disk' cells → (f : FolderData) → TellsCatalogue f.standing (catalogue_of b es) → AreNumbered f.standing → IsOnDisk d disk f g → IsOnDisk d disk' (index_changed f) g'
    index_on_disk written f tells numbered on =
        index_on d disk disk' b es f tells numbered g g' right_here standing_here (with_batch (f.regions n) cells) on once_here i x new to writes.number (writes.touches (f.regions n) (index_holds f on)) (written.holds (f.regions n) (index_holds f on))

    index_explain : (es' : List Entry) → GoesOnIn b es es' t → (f : FolderData) (v : ℕ → GroupData) → Explains b es f v → IsOnDisk d disk f g → (hs : List HeldBatch) → IsShownBy b (forms_in f.standing.indexes g.table) es g (v t) hs → (read : List CellData) → ReadsSame read (cells ++ read_of x.region)
        → (w : IndexThen (form_of b (forms_in f.standing.indexes g.table) g) es' (v t) i read) → Explains b es' (index_changed f) (with_part v t w.table_data)
    index_explain es' by f v told on hs shown read reads w = (let
        y = stored f.standing told.catalogue
        in let
        p = placed f.standing told.catalogue
        in let
        mine = shown.parts i x to.index
        in let
        inside : i < length (v t).indexes = (let c = shown.count in let lt = within g.indexes.items i x to.index in omega (arith, c, lt))
        in index_batch b es es' f v told t (by.explains f v told) g.table (found f.standing told.catalogue) w.table_data w.kept w.high w.low n cells p.place y.index p.inside p.is (region-is f.standing told.catalogue) i inside
        (mine.id ∙ ap (λ q. q.0) (sym y.id)) (ap value_at (mine.cells ∙ store_is_all d x.region disk (f.regions n) (index_holds f on))) read (subst (λ (ys : List CellData). ReadsSame read (cells ++ ys)) (sym mine.cells) reads) w.cells w.indexes)

    index_tells : (es' : List Entry) → GoesOnIn b es es' t → IndexGoes b es es' g i x cells → (f : FolderData) (v : ℕ → GroupData) → Explains b es f v → IsOnDisk d disk f g → HasShown b es f.standing.indexes v g → TellsThen b es' (index_changed f) v t
    index_tells es' by go f v told on has = (let
        read = settle (cells ++ read_of x.region)
        in let
        reads = reads_settled cells (read_of x.region) read refl
        in let
        w = go (forms_in f.standing.indexes g.table) (v t) has.held has.tallied has.shown has.told read reads
        in record { table_data = w.table_data; explains = index_explain es' by f v told on has.held has.shown read reads w })

    module _ (written : HasWritten d x.region new disk disk' cells) (horizons : IsSameHorizon x.region new) (es' : List Entry) (by : GoesOnIn b es es' t) (next : List HeldBatch → List HeldBatch) (tallied : (hs : List HeldBatch) → IsTallied b es g hs → IsTallied b es' g' (next hs))
        (show : IndexShows b es es' g g' next i new) where
      index_has : (indexes : List Index) (v : ℕ → GroupData) (has : HasShown b es indexes v g) → (w : IndexShown b (forms_in indexes g.table) es' g g' (v t) (next has.held) i new) → HasShown b es' indexes (with_part v t w.then.table_data) g'
      index_has indexes v has w = (let
          inside : i < length (v t).indexes = (let c = has.shown.count in let lt = within g.indexes.items i x to.index in omega (arith, c, lt))
          in let
          part_then = with_cells (read_of new) (get_or (v t).indexes i no_part)
          in has_shown b es' g g' to.table indexes v w.then.table_data (next has.held) (tallied has.held has.tallied) w.shown w.told w.built
          (λ j z at. ap (λ (xs : List IndexPart). (get_or xs j no_part).horizon) w.then.indexes ∙ elim (set_cases g.indexes.items i j (record x { region = new }) z (ap (λ (xs : List IndexRegion). slice_get xs j) (sym to.indexes) ∙ at)) [
            | inl q ↦
                ap (λ (m : ℕ). (get_or (set (v t).indexes i part_then) m no_part).horizon) q.0
                ∙ (ap (λ (y : IndexPart). y.horizon) (get_or-set_same (v t).indexes i part_then no_part inside) ∙ (has.told.own i x to.index ∙ (sym horizons ∙ ap (λ (w : IndexRegion). w.region.horizon) (sym q.1))))
            | inr q ↦ ap (λ (y : IndexPart). y.horizon) (get_or-set_other (v t).indexes i j part_then no_part q.0) ∙ has.told.own j z q.1
          ]))

      index_show : (indexes : List Index) (v : ℕ → GroupData) → HasShown b es indexes v g → ShowsThen b es' indexes v t g'
      index_show indexes v has = (let
          w = show (forms_in indexes g.table) (v t) has.held has.tallied has.shown has.told has.built
          in record { table_data = w.then.table_data; has = index_has indexes v has w })

      index_moves : (f : FolderData) (v : ℕ → GroupData) → Explains b es f v → IsOnDisk d disk f g → HasShown b es f.standing.indexes v g → MovesThen b es' f.standing.indexes (index_changed f) v t g'
      index_moves f v told on has = (let
          w = show (forms_in f.standing.indexes g.table) (v t) has.held has.tallied has.shown has.told has.built
          in record { table_data = w.then.table_data; explains = index_explain es' by f v told on has.held has.shown (read_of new) written.reads w.then; has = index_has f.standing.indexes v has w })

    -- all calls succeeded, and no entry is added
    pub index_handed : HasWritten d x.region new disk disk' cells → IsSameHorizon x.region new → IsRightGroup g' → (next : List HeldBatch → List HeldBatch) → ((hs : List HeldBatch) → IsTallied b es g hs → IsTallied b es g' (next hs)) → IndexShows b es es g g' next i new → owed g' ≤ owed g
        → IsKept d b sound premise began disk' catalog standing then trail late closed
    index_handed written horizons right next tallied show room =
        handed d tells_left up_to_now b sound premise began disk catalog standing groups trail late closed k running place g g' l is to.table to.points disk' x.region new (λ s. with_batch s cells) writes.number writes.touches writes.counts index_lacks index_drawn index_holds index_stands
        right next (set_once g g' i x new to.index to.indexes) written.holds (index_on_disk written) writes.leaves tallied
        (λ given. index_show written horizons es (no_entry b es k.told.legal t) next tallied show) (λ given. index_moves written horizons es (no_entry b es k.told.legal t) next tallied show) room

    -- with an entry that doesn't last, which tells of them where what was opened is sound
    pub index_noted : HasWritten d x.region new disk disk' cells → IsSameHorizon x.region new → IsRightGroup g' → (e : Entry) → lasting e ≡ false → e.calls ≡ d.calls disk' → IsOfTable b es t e → tells_fault e.act ≡ false → (next : List HeldBatch → List HeldBatch)
        → ((hs : List HeldBatch) → IsTallied b es g hs → IsTallied b (es ++ e ∷ []) g' (next hs)) → HasPoints (es ++ e ∷ []) g' → (sound → IndexGoes b es es g i x cells) → (sound → IndexShows b es (es ++ e ∷ []) g g' next i new)
        → (trail' : Recorded) → trail'.entries ≡ es ++ e ∷ [] → owed g' + trail.room ≤ owed g + trail'.room → IsKept d b sound premise began disk' catalog standing then trail' late closed
    index_noted written horizons right e quiet at of calm next tallied points' go show trail' entries room =
        handed_noted d tells_left up_to_now b sound premise began disk catalog standing groups trail late closed k running place g g' l is to.table to.points disk' x.region new (λ s. with_batch s cells) writes.number writes.touches writes.counts index_lacks index_drawn index_holds index_stands
        right next (set_once g g' i x new to.index to.indexes) written.holds (index_on_disk written) e quiet at of calm writes.leaves tallied points'
        (λ given. index_show written horizons (es ++ e ∷ []) (one_entry b es k.told.legal t e of) next tallied (show given)) (λ given. index_tells es (no_entry b es k.told.legal t) (go given))
        (λ given. index_moves written horizons (es ++ e ∷ []) (one_entry b es k.told.legal t e of) next tallied (show given)) trail' entries room

    -- a call failed with nothing under way
    pub index_shut : (shut : Entry) (call : ℕ) → IsShutAt shut call → call ≡ d.calls disk' → Rose d disk disk' → (AreTraced es g → AreTraced es g') → map stamp_in g'.batches.items ≡ map stamp_in g.batches.items → (sound → IndexGoes b es es g i x cells) → (trail' : Recorded) → trail'.entries ≡ es ++ shut ∷ [] → owed g' + trail.room ≤ owed g + trail'.room + 1
        → IsKept d b sound premise began disk' catalog standing then trail' None (Some call)
    index_shut shut call shut-is shut_at rose traced stamps go trail' entries room =
        handed_shut d tells_left up_to_now b sound premise began disk catalog standing groups trail late closed k running place g g' l is to.table to.points disk' x.region new (λ s. with_batch s cells) writes.number writes.touches writes.counts index_lacks index_drawn index_holds index_stands
        shut call shut-is shut_at rose traced stamps trail' entries room writes.leaves (λ given. index_tells es (no_entry b es k.told.legal t) (go given))

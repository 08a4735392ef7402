-- A step of upkeep: what is true of a server stays so, and what its call answers.
use Rattle.std.proofs.Common.{◌≡◌, ◌≢◌, ◌<◌, ◌≤◌, ◌⊎◌, ◌+◌, inl, inr, ℕ, zero, suc, Option, None, Some, List, [], ◌∷◌, ◌++◌, length, get_or, map, refl, sym, ap, subst, ◌∙◌, arith}
use Rattle.std.specs.Prelude.{IsTrue}
use Rattle.std.specs.List.{slice_set}
use Rattle.px_outside.specs.Disk.{Image, IsLeftBy}
use Rattle.px_outside.specs.OnDisk.{Rose}
use Rattle.px_outside.specs.Parts.{with_part}
use Rattle.px_outside.specs.declared.disk.Disk.{Ghosts}
use Rattle.px_cells.specs.CellData.{CellData}
use Rattle.px_merge.specs.Kept.{IsKeptList}
use Rattle.px_trail.specs.declared.entry.Act.TheVariants.{Raised, Shut}
use Rattle.px_trail.specs.declared.entry.Entry.{Entry}
use Rattle.px_trail.specs.Recorded.{Recorded}
use Rattle.px_trail.specs.Trail.{Base, catalogue_of, closing_call}
use Rattle.px_region.specs.Region.{RegionData, RegionHolds, RegionStands, data_of, read_of}
use Rattle.px_region.specs.declared.region.Region.{Region}
use Rattle.px_groupworld.specs.Group.{GroupData}
use Rattle.px_groupworld.specs.Steps.{forgot_data, own_forgot_data}
use Rattle.px_openbatches.specs.Pending.{HeldBatch}
use Rattle.px_schema.specs.declared.standing.Standing.{Standing}
use Rattle.px_catalog.specs.declared.catalog.Catalog.{Catalog}
use Rattle.px_tables.specs.declared.index.Index.{Index}
use Rattle.px_values.specs.declared.name.TableId.{TableId}
use Rattle.px_group.specs.Group.{AreStanding, AreTraced, IsRightGroup, IsRightPart, IsShownBy, IsTallied, form_of}
use Rattle.px_group.specs.declared.group.Group.{Group}
use Rattle.px_defined.specs.Defined.{HasOnce}
use Rattle.px_forgotten.specs.Forgotten.{ForgetsOn, ForgotIndex, ForgotRows}
use Rattle.px_forgotten.proofs.Indexes as forgot_index
use Rattle.px_forgotten.proofs.Rows as forgot_rows
use Rattle.px_reading.specs.Doubts.{IsToldBy}
use Rattle.px_recovery.specs.Folder.{FolderData, StandsFor, with_region}
use Rattle.px_recovery.specs.Kept.{FolderGoesOn}
use Rattle.px_recovery.specs.Stands.{AreNumbered, Explains, StandsAfter, TellsCatalogue}
use Rattle.px_recovery.proofs.Numbered.{index_number, rows_number}
use Rattle.px_recovery.proofs.Steps.{folder_stands}
use Rattle.px_calls.specs.Calls.{DidWork}
use Rattle.px_calls.specs.Causes.{Refuses, upkeep_cause}
use Rattle.px_calls.specs.Known.{Known}
use Rattle.px_calls.specs.declared.fault.StepFault.TheVariants.{Memory, WriteFault}
use Rattle.px_calls.specs.declared.status.Work.{Work}
use Rattle.px_calls.specs.declared.status.Work.TheVariants.{Did, Idle}
use Rattle.px_trail.specs.Legal.{IsLegal}
use Rattle.px_server.specs.Kept.{AreBuilt, HasServerParts, HasShown, HasTallied, IsKept, IsOnDisk, IsShutAt, forms_in, number_in, owed}
use Rattle.px_server.specs.Others.{Beginning, IsRegion}
use Rattle.px_server.specs.Upkeep.{StaysOn, SteppedTable, StepsFiles, StepsIndex, StepsRows, StepsTable}
use Rattle.px_server.proofs.Beside.{own_shown}
use Rattle.px_server.proofs.Lists.{all_at}
use Rattle.px_server.proofs.OpenBatches.{stamp_in}
use Rattle.px_server.proofs.Numbers.{LacksNumber, has_place, lacks_index, lacks_rows, part_at, rows_one, same_once, set_once, stored_index, stored_table}
use Rattle.px_server.proofs.Prepared.{index_right, index_shown, index_tallied, index_told, index_traced, rows_right, rows_shown, rows_tallied, rows_told, rows_traced, same_folder, same_groups, to_index, to_rows}
use Rattle.px_server.proofs.Regions.{image_at, index_on, rows_on}
use Rattle.px_server.proofs.Seen.{one_more, stays}
use Rattle.px_server.proofs.Written.{MovesThen, ShowsThen, kept_each, shut_each}

pub put_back : {A : Type 0} (xs : List A) (i : ℕ) (x : A) → get_or xs i x ≡ x → slice_set xs i x ≡ xs
put_back [] i x is = refl
put_back (y ∷ xs) zero x is = ap (λ z. z ∷ xs) (sym is)
put_back (y ∷ xs) (suc i) x is = ap (λ zs. y ∷ zs) (put_back xs i x is)

-- the folder and data are told with other contents of the region
pub record ToldWith (b : Base) (es : List Entry) (f : FolderData) (n : ℕ) (s : RegionData) (v : ℕ → GroupData) (t : ℕ) : Type 0 where
  pub table_data : GroupData
  pub explains : Explains b es (with_region n s f) (with_part v t table_data)

module _ {D : Type 0} (d : Ghosts D) (tells_left : (x : D) (moment file : ℕ) (bytes : List ℕ) → d.left x moment file bytes → IsTrue d.tells)
    (up_to_now : (x : D) (moment file : ℕ) (bytes : List ℕ) → d.left x moment file bytes → moment ≤ d.calls x) (b : Base) (sound premise : Type 0) (began : Beginning)
    (disk : D) (catalog : Catalog) (standing : Standing) (groups : List Group) (trail : Recorded) (late : Option Entry) (closed : Option ℕ) (k : IsKept d b sound premise began disk catalog standing groups trail late closed)
    (running : closed ≡ None) (place : ℕ) (g g' : Group) (l : place < length groups) (is : get_or groups place g ≡ g) (disk' : D) where
  abbrev es : List Entry
  es = trail.entries

  abbrev t : ℕ
  t = number_in g

  abbrev then : List Group
  then = slice_set groups place g'

  right_here : IsRightGroup g
  right_here = all_at IsRightGroup groups place g l is (k.each.right running)

  standing_here : AreStanding b es g
  standing_here = (all_at (HasTallied b es) groups place g l is (k.each.tallied running)).tallied.standing

  once_here : HasOnce g
  once_here = all_at HasOnce groups place g l is (k.each.once running)

  -- what the group shows then, as the server keeps it
  has_then : g'.table ≡ g.table → (indexes : List Index) (v : ℕ → GroupData) (w : GroupData) (hs : List HeldBatch) → IsTallied b es g' hs → IsShownBy b (forms_in indexes g.table) es g' w hs → IsToldBy b (forms_in indexes g.table) es g' w → AreBuilt (form_of b (forms_in indexes g.table) g') es w
      → HasShown b es indexes (with_part v t w) g'
  has_then table indexes v w hs tallied shown told built = own_shown b es indexes v w g.table g' table hs tallied shown told built

  -- ---- the files of one region

  module _ (old new : Region) (steps : StepsFiles d old new disk disk' g.horizon) (table : g'.table ≡ g.table) (points : g'.points ≡ g.points) (same_owed : owed g' ≡ owed g)
      (lacks : (s : Standing) → TellsCatalogue s (catalogue_of b es) → AreNumbered s → (h : Group) → IsRightGroup h → AreStanding b es h → number_in h ≢ number_in g → LacksNumber old.number h)
      (drawn : (s : Standing) → TellsCatalogue s (catalogue_of b es) → AreNumbered s → (1 ≤ old.number) × (old.number < s.next))
      (holds : (f : FolderData) → IsOnDisk d disk f g → RegionHolds d old disk (f.regions old.number)) (stands : IsRegion (catalogue_of b es) old.number)
      (kept_told : (f : FolderData) (v : ℕ → GroupData) → Explains b es f v → HasShown b es f.standing.indexes v g → (f.regions old.number).cells ≡ read_of old → (kept : List CellData) → IsKeptList (read_of old) g.horizon kept → ToldWith b es f old.number (record { cells = kept; horizon = g.horizon }) v t) where
    -- each image that a stop may leave of the step is told
    module _ (goes : FolderGoesOn d b (HasServerParts d b sound catalog groups) disk es) (moment : ℕ) (image : Image) (since : d.calls disk ≤ moment) (left : IsLeftBy d.left disk' moment image) where
      abbrev there : FolderData
      there = goes.folder

      abbrev before : RegionData
      before = goes.folder.regions old.number

      on_now : IsOnDisk d disk goes.folder g
      on_now = all_at (IsOnDisk d disk goes.folder) groups place g l is goes.has.regions

      held_now : RegionHolds d old disk (goes.folder.regions old.number)
      held_now = holds goes.folder on_now

      in_image : (x : RegionData) → RegionStands old.number image x → StandsFor image (with_region old.number x goes.folder)
      in_image x here =
          (let below = drawn goes.folder.standing goes.explains.catalogue goes.explains.numbered in
          image_at d disk disk' goes.folder goes.stands old.number below.0 below.1 x (steps.touches before held_now) moment image since left here)

      image_told : StandsAfter b es image
      image_told = elim ((steps.leaves before held_now).each moment image since left) [
        | inl same ↦ folder_stands b es there goes.groups image goes.explains (subst (StandsFor image) (same_folder there old.number before refl) (in_image before same))
        | inr kept ↦
            (let list = subst (λ (cells : List CellData). IsKeptList cells g.horizon kept.kept.cells) held_now.cells kept.forgets.kept in
            let told = kept_told there goes.groups goes.explains (all_at (HasShown b es there.standing.indexes goes.groups) groups place g l is goes.has.shown) held_now.cells kept.kept.cells list in
            let named : kept.kept ≡ record { cells = kept.kept.cells; horizon = g.horizon } = (λ i. record { cells = kept.kept.cells; horizon = kept.forgets.horizon_is i }) in
            folder_stands b es (with_region old.number (record { cells = kept.kept.cells; horizon = g.horizon }) there) (with_part goes.groups t told.table_data) image told.explains
            (subst (λ (x : RegionData). StandsFor image (with_region old.number x there)) named (in_image kept.kept kept.stands)))
      ]

    region_kept : (next : RegionData → RegionData) → ((s : RegionData) → RegionHolds d old disk s → RegionHolds d new disk' (next s)) → IsRightGroup g' → (HasOnce g → HasOnce g')
        → ((f : FolderData) → TellsCatalogue f.standing (catalogue_of b es) → AreNumbered f.standing → IsOnDisk d disk f g → IsOnDisk d disk' (with_region old.number (next (f.regions old.number)) f) g') → ((hs : List HeldBatch) → IsTallied b es g hs → IsTallied b es g' hs)
        → (sound → (indexes : List Index) (v : ℕ → GroupData) → HasShown b es indexes v g → ShowsThen b es indexes v t g')
        → (sound → (f : FolderData) (v : ℕ → GroupData) → Explains b es f v → IsOnDisk d disk f g → HasShown b es f.standing.indexes v g → MovesThen b es f.standing.indexes (with_region old.number (next (f.regions old.number)) f) v t g')
        → IsKept d b sound premise began disk' catalog standing then trail late closed
    region_kept next goes_on right only on_disk tallied shows moves =
        kept_each d tells_left up_to_now b sound premise began disk catalog standing groups trail late closed k running place g g' l is table points disk' old new next steps.number steps.touches steps.counts lacks drawn holds stands
        right (λ hs. hs) only goes_on on_disk image_told tallied shows moves (let o = same_owed in omega (arith, o))

    region_stopped : (AreTraced es g → AreTraced es g') → map stamp_in g'.batches.items ≡ map stamp_in g.batches.items → (shut : Entry) (call : ℕ) → IsShutAt shut call → call ≡ d.calls disk' → Rose d disk disk' → (trail' : Recorded) → trail'.entries ≡ es ++ shut ∷ [] → trail'.room + 1 ≡ trail.room
        → IsKept d b sound premise began disk' catalog standing then trail' None (Some call)
    region_stopped traced stamps shut call shut-is shut_at rose trail' entries room =
        shut_each d tells_left up_to_now b sound premise began disk catalog standing groups trail late closed k running place g g' l is table points disk' old new (λ s. s) steps.number steps.touches steps.counts lacks drawn holds stands
        shut call shut-is shut_at rose traced stamps trail' entries (let o = same_owed in omega (arith, o, room)) image_told

  -- ---- of the rows' region

  module _ (s : StepsRows d g g' disk disk') where
    abbrev n : ℕ
    n = g.rows.number

    rows_lacks : (c : Standing) → TellsCatalogue c (catalogue_of b es) → AreNumbered c → (h : Group) → IsRightGroup h → AreStanding b es h → number_in h ≢ number_in g → LacksNumber g.rows.number h
    rows_lacks c tells numbered h r a other = lacks_rows b es c tells numbered g right_here standing_here h r a other

    rows_drawn : (c : Standing) → TellsCatalogue c (catalogue_of b es) → AreNumbered c → (1 ≤ g.rows.number) × (g.rows.number < c.next)
    rows_drawn c tells numbered = rows_number c numbered t g.rows.number g.table (stored_table b es c tells g standing_here) (rows_one g right_here)

    rows_stand : IsRegion (catalogue_of b es) g.rows.number
    rows_stand = inl (record { number = t; table = g.table; stands = standing_here.table; own = rows_one g right_here })

    rows_kept_told : (f : FolderData) (v : ℕ → GroupData) → Explains b es f v → HasShown b es f.standing.indexes v g → (f.regions g.rows.number).cells ≡ read_of g.rows → (kept : List CellData) → IsKeptList (read_of g.rows) g.horizon kept → ToldWith b es f g.rows.number (record { cells = kept; horizon = g.horizon }) v t
    rows_kept_told f v told has cells kept keeps = record {
      table_data = forgot_data kept (v t);
      explains = forgot_rows.rows_folder b es f v told g has.held right_here has.tallied has.shown kept keeps cells;
    }

    rows_table : g'.table ≡ g.table
    rows_table = ap (λ (h : Group). h.table) s.same

    rows_points : g'.points ≡ g.points
    rows_points = ap (λ (h : Group). h.points) s.same

    pub rows_stopped : (shut : Entry) (call : ℕ) → IsShutAt shut call → call ≡ d.calls disk' → Rose d disk disk' → (trail' : Recorded) → trail'.entries ≡ es ++ shut ∷ [] → trail'.room + 1 ≡ trail.room → IsKept d b sound premise began disk' catalog standing then trail' None (Some call)
    rows_stopped = region_stopped g.rows g'.rows s.steps rows_table rows_points (ap owed s.same) rows_lacks rows_drawn (λ f on. on.rows) rows_stand rows_kept_told
        (rows_traced d g g' disk disk' s es) (ap (λ (h : Group). map stamp_in h.batches.items) s.same)

    -- it goes on as it was
    pub rows_stay : StaysOn d g.rows g'.rows disk disk' → IsKept d b sound premise began disk' catalog standing then trail late closed
    rows_stay st =
        region_kept g.rows g'.rows s.steps rows_table rows_points (ap owed s.same) rows_lacks rows_drawn (λ f on. on.rows) rows_stand rows_kept_told
        (λ x. x) st.holds (rows_right d g g' disk disk' s st right_here) (same_once g g' (ap (λ (h : Group). h.indexes.items) s.same))
        (λ f tells numbered on. rows_on d disk disk' b es f tells numbered g g' right_here standing_here (f.regions n) on g'.rows (to_rows d g g' disk disk' s) s.steps.number (s.steps.touches (f.regions n) on.rows) (st.holds (f.regions n) on.rows))
        (rows_tallied d g g' disk disk' s st b es)
        (λ given indexes v has. record { table_data = v t; has = shown_as indexes v has })
        (λ given f v told on has. record { table_data = v t; explains = unchanged f v told; has = shown_as f.standing.indexes v has })
      where
        shown_as : (indexes : List Index) (v : ℕ → GroupData) → HasShown b es indexes v g → HasShown b es indexes (with_part v t (v t)) g'
        shown_as indexes v has = (let index = forms_in indexes g.table in
            has_then rows_table indexes v (v t) has.held (rows_tallied d g g' disk disk' s st b es has.held has.tallied) (rows_shown d g g' disk disk' s st b es index (v t) has.held has.shown) (rows_told d g g' disk disk' s st b es index (v t) has.told)
            (subst (λ (h : Group). AreBuilt (form_of b index h) es (v t)) (sym s.same) has.built))

        unchanged : (f : FolderData) (v : ℕ → GroupData) → Explains b es f v → Explains b es (with_region n (f.regions n) f) (with_part v t (v t))
        unchanged f v told = subst (λ (x : FolderData). Explains b es x (with_part v t (v t))) (sym (same_folder f n (f.regions n) refl)) (subst (Explains b es f) (sym (same_groups v t)) told)

    -- or as what the horizon keeps
    pub rows_forget : ForgetsOn d g.rows g'.rows disk disk' g.horizon → IsKept d b sound premise began disk' catalog standing then trail late closed
    rows_forget fo =
        region_kept g.rows g'.rows s.steps rows_table rows_points (ap owed s.same) rows_lacks rows_drawn (λ f on. on.rows) rows_stand rows_kept_told
        (λ x. data_of g'.rows) fo.holds (forgot_rows.rows_right g g' forgot right_here) (same_once g g' (ap (λ (h : Group). h.indexes.items) s.same))
        (λ f tells numbered on. rows_on d disk disk' b es f tells numbered g g' right_here standing_here (data_of g'.rows) on g'.rows (to_rows d g g' disk disk' s) s.steps.number (s.steps.touches (f.regions n) on.rows) (fo.holds (f.regions n) on.rows))
        (forgot_rows.rows_tallied g g' forgot b es)
        (λ given indexes v has. record { table_data = forgot_data (read_of g'.rows) (v t); has = shown_as indexes v has })
        (λ given f v told on has. record { table_data = forgot_data (read_of g'.rows) (v t); explains = forgets f v told on has; has = shown_as f.standing.indexes v has })
      where
        forgot : ForgotRows g g'
        forgot = record { same = s.same; region = fo.forgotten }

        shown_as : (indexes : List Index) (v : ℕ → GroupData) → HasShown b es indexes v g → HasShown b es indexes (with_part v t (forgot_data (read_of g'.rows) (v t))) g'
        shown_as indexes v has = (let index = forms_in indexes g.table in
            has_then rows_table indexes v (forgot_data (read_of g'.rows) (v t)) has.held (forgot_rows.rows_tallied g g' forgot b es has.held has.tallied) (forgot_rows.rows_shown b index es g has.held right_here has.tallied (v t) has.shown g' forgot)
            (forgot_rows.rows_told b index es g has.held right_here has.tallied (v t) has.shown g' forgot has.told)
            (subst (λ (h : Group). AreBuilt (form_of b index h) es (forgot_data (read_of g'.rows) (v t))) (sym s.same)
            (record { each = forgot_rows.rows_built b index es g has.held right_here has.tallied (v t) has.shown (read_of g'.rows) fo.forgotten.kept has.built.each })))

        forgets : (f : FolderData) (v : ℕ → GroupData) → Explains b es f v → IsOnDisk d disk f g → HasShown b es f.standing.indexes v g → Explains b es (with_region n (data_of g'.rows) f) (with_part v t (forgot_data (read_of g'.rows) (v t)))
        forgets f v told on has =
            subst (λ (h : ℕ). Explains b es (with_region n (record { cells = read_of g'.rows; horizon = h }) f) (with_part v t (forgot_data (read_of g'.rows) (v t)))) (sym fo.forgotten.horizon)
            (forgot_rows.rows_folder b es f v told g has.held right_here has.tallied has.shown (read_of g'.rows) fo.forgotten.kept on.rows.cells)

  -- ---- of an index's region

  module _ (s : StepsIndex d g g' disk disk') where
    abbrev m : ℕ
    m = s.index.region.number

    part : IsRightPart g.table s.index
    part = part_at g right_here s.place s.index s.is

    index_lacks : (c : Standing) → TellsCatalogue c (catalogue_of b es) → AreNumbered c → (h : Group) → IsRightGroup h → AreStanding b es h → number_in h ≢ number_in g → LacksNumber s.index.region.number h
    index_lacks c tells numbered h r a other = lacks_index b es c tells numbered g right_here standing_here h r a other s.place s.index s.is

    index_drawn : (c : Standing) → TellsCatalogue c (catalogue_of b es) → AreNumbered c → (1 ≤ s.index.region.number) × (s.index.region.number < c.next)
    index_drawn c tells numbered = (let
        y = stored_index b es c tells g standing_here s.place s.index s.is
        in let
        p = has_place g.table.id.0 c.indexes s.index.index.id.0 y.index y.is (ap (λ q. q.0) (y.table ∙ part.table))
        in subst (λ (q : ℕ). (1 ≤ q) × (q < c.next)) (y.region ∙ part.number) (index_number c numbered g.table.id.0 p.place y.index p.inside p.is))

    index_stand : IsRegion (catalogue_of b es) s.index.region.number
    index_stand = inr (record { number = s.index.index.id.0; index = s.index.index; stands = standing_here.index s.place s.index s.is; own = part.number })

    index_kept_told : (f : FolderData) (v : ℕ → GroupData) → Explains b es f v → HasShown b es f.standing.indexes v g → (f.regions s.index.region.number).cells ≡ read_of s.index.region → (kept : List CellData) → IsKeptList (read_of s.index.region) g.horizon kept
        → ToldWith b es f s.index.region.number (record { cells = kept; horizon = g.horizon }) v t
    index_kept_told f v told has cells kept keeps = (let
        y = stored_index b es f.standing told.catalogue g standing_here s.place s.index s.is
        in let
        p = has_place g.table.id.0 f.standing.indexes s.index.index.id.0 y.index y.is (ap (λ q. q.0) (y.table ∙ part.table))
        in record {
          table_data = own_forgot_data s.place kept (v t);
          explains = forgot_index.index_folder b es f v told g has.held right_here has.tallied has.shown s.place s.index s.is kept keeps p.place y.index p.inside p.is (y.region ∙ part.number) (ap (λ q. q.0) y.id);
        })

    index_table : g'.table ≡ g.table
    index_table = ap (λ (h : Group). h.table) s.same

    index_points : g'.points ≡ g.points
    index_points = ap (λ (h : Group). h.points) s.same

    index_holds : (f : FolderData) → IsOnDisk d disk f g → RegionHolds d s.index.region disk (f.regions s.index.region.number)
    index_holds f on = on.indexes s.place s.index s.is

    pub index_stopped : (shut : Entry) (call : ℕ) → IsShutAt shut call → call ≡ d.calls disk' → Rose d disk disk' → (trail' : Recorded) → trail'.entries ≡ es ++ shut ∷ [] → trail'.room + 1 ≡ trail.room → IsKept d b sound premise began disk' catalog standing then trail' None (Some call)
    index_stopped = region_stopped s.index.region s.region s.steps index_table index_points (ap owed s.same) index_lacks index_drawn index_holds index_stand index_kept_told
        (index_traced d g g' disk disk' s es) (ap (λ (h : Group). map stamp_in h.batches.items) s.same)

    pub index_stay : StaysOn d s.index.region s.region disk disk' → IsKept d b sound premise began disk' catalog standing then trail late closed
    index_stay st =
        region_kept s.index.region s.region s.steps index_table index_points (ap owed s.same) index_lacks index_drawn index_holds index_stand index_kept_told
        (λ z. z) st.holds (index_right d g g' disk disk' s st right_here) (set_once g g' s.place s.index s.region s.is s.indexes)
        (λ f tells numbered on. index_on d disk disk' b es f tells numbered g g' right_here standing_here (f.regions m) on once_here s.place s.index s.region (to_index d g g' disk disk' s) s.steps.number (s.steps.touches (f.regions m) (index_holds f on)) (st.holds (f.regions m) (index_holds f on)))
        (index_tallied d g g' disk disk' s st b es)
        (λ given indexes v has. record { table_data = v t; has = shown_as indexes v has })
        (λ given f v told on has. record { table_data = v t; explains = unchanged f v told; has = shown_as f.standing.indexes v has })
      where
        shown_as : (indexes : List Index) (v : ℕ → GroupData) → HasShown b es indexes v g → HasShown b es indexes (with_part v t (v t)) g'
        shown_as indexes v has = (let index = forms_in indexes g.table in
            has_then index_table indexes v (v t) has.held (index_tallied d g g' disk disk' s st b es has.held has.tallied) (index_shown d g g' disk disk' s st b es index (v t) has.held has.shown) (index_told d g g' disk disk' s st b es index (v t) has.told)
            (subst (λ (h : Group). AreBuilt (form_of b index h) es (v t)) (sym s.same) has.built))

        unchanged : (f : FolderData) (v : ℕ → GroupData) → Explains b es f v → Explains b es (with_region m (f.regions m) f) (with_part v t (v t))
        unchanged f v told = subst (λ (z : FolderData). Explains b es z (with_part v t (v t))) (sym (same_folder f m (f.regions m) refl)) (subst (Explains b es f) (sym (same_groups v t)) told)

    pub index_forget : ForgetsOn d s.index.region s.region disk disk' g.horizon → IsKept d b sound premise began disk' catalog standing then trail late closed
    index_forget fo =
        region_kept s.index.region s.region s.steps index_table index_points (ap owed s.same) index_lacks index_drawn index_holds index_stand index_kept_told
        (λ z. data_of s.region) fo.holds (forgot_index.index_right g g' s.place s.index s.region forgot right_here) (set_once g g' s.place s.index s.region s.is s.indexes)
        (λ f tells numbered on. index_on d disk disk' b es f tells numbered g g' right_here standing_here (data_of s.region) on once_here s.place s.index s.region (to_index d g g' disk disk' s) s.steps.number (s.steps.touches (f.regions m) (index_holds f on)) (fo.holds (f.regions m) (index_holds f on)))
        (forgot_index.index_tallied g g' s.place s.index s.region forgot b es)
        (λ given indexes v has. record { table_data = own_forgot_data s.place (read_of s.region) (v t); has = shown_as indexes v has })
        (λ given f v told on has. record { table_data = own_forgot_data s.place (read_of s.region) (v t); explains = forgets f v told on has; has = shown_as f.standing.indexes v has })
      where
        forgot : ForgotIndex g g' s.place s.index s.region
        forgot = record { is = s.is; same = s.same; indexes = s.indexes; region = fo.forgotten }

        shown_as : (indexes : List Index) (v : ℕ → GroupData) → HasShown b es indexes v g → HasShown b es indexes (with_part v t (own_forgot_data s.place (read_of s.region) (v t))) g'
        shown_as indexes v has = (let index = forms_in indexes g.table in
            has_then index_table indexes v (own_forgot_data s.place (read_of s.region) (v t)) has.held (forgot_index.index_tallied g g' s.place s.index s.region forgot b es has.held has.tallied)
            (forgot_index.index_shown b index es g has.held right_here has.tallied (v t) has.shown g' s.place s.index s.region forgot)
            (forgot_index.index_told b index es g has.held right_here has.tallied (v t) has.shown g' s.place s.index s.region forgot has.told)
            (subst (λ (h : Group). AreBuilt (form_of b index h) es (own_forgot_data s.place (read_of s.region) (v t))) (sym s.same)
            (record { each = forgot_index.index_built b index es g has.held right_here has.tallied (v t) has.shown s.place s.index s.is (read_of s.region) fo.forgotten.kept has.built.each })))

        forgets : (f : FolderData) (v : ℕ → GroupData) → Explains b es f v → IsOnDisk d disk f g → HasShown b es f.standing.indexes v g → Explains b es (with_region m (data_of s.region) f) (with_part v t (own_forgot_data s.place (read_of s.region) (v t)))
        forgets f v told on has = (let
            y = stored_index b es f.standing told.catalogue g standing_here s.place s.index s.is
            in let
            p = has_place g.table.id.0 f.standing.indexes s.index.index.id.0 y.index y.is (ap (λ q. q.0) (y.table ∙ part.table))
            in subst (λ (h : ℕ). Explains b es (with_region m (record { cells = read_of s.region; horizon = h }) f) (with_part v t (own_forgot_data s.place (read_of s.region) (v t)))) (sym fo.forgotten.horizon)
            (forgot_index.index_folder b es f v told g has.held right_here has.tallied has.shown s.place s.index s.is (read_of s.region) fo.forgotten.kept p.place y.index p.inside p.is (y.region ∙ part.number) (ap (λ q. q.0) y.id)))

  -- ---- of either

  pub stepped : SteppedTable d g g' disk disk' → IsKept d b sound premise began disk' catalog standing then trail late closed
  stepped (inl s) = by_rows s.stepped
    where
      by_rows : StaysOn d g.rows g'.rows disk disk' ⊎ ForgetsOn d g.rows g'.rows disk disk' g.horizon → IsKept d b sound premise began disk' catalog standing then trail late closed
      by_rows (inl st) = rows_stay s.rows st
      by_rows (inr fo) = rows_forget s.rows fo
  stepped (inr s) = by_index s.stepped
    where
      by_index : StaysOn d s.index.index.region s.index.region disk disk' ⊎ ForgetsOn d s.index.index.region s.index.region disk disk' g.horizon → IsKept d b sound premise began disk' catalog standing then trail late closed
      by_index (inl st) = index_stay s.index st
      by_index (inr fo) = index_forget s.index fo

  pub stopped : StepsTable d g g' disk disk' → (calls seat : ℕ) → calls ≡ d.calls disk' → Rose d disk disk' → (trail' : Recorded) → trail'.entries ≡ es ++ record { seat = seat; calls = calls; act = Shut calls } ∷ [] → trail'.room + 1 ≡ trail.room
      → IsKept d b sound premise began disk' catalog standing then trail' late (Some calls)
  stopped steps calls seat at rose trail' entries room = subst (λ (o : Option Entry). IsKept d b sound premise began disk' catalog standing then trail' o (Some calls)) (sym (k.server.unlate running)) (by steps)
    where
      by : StepsTable d g g' disk disk' → IsKept d b sound premise began disk' catalog standing then trail' None (Some calls)
      by (inl s) = rows_stopped s (record { seat = seat; calls = calls; act = Shut calls }) calls refl at rose trail' entries room
      by (inr s) = index_stopped s (record { seat = seat; calls = calls; act = Shut calls }) calls refl at rose trail' entries room

-- ---- what the call answers

module _ (k : Known) (legal : IsLegal k.base k.seen) where
  pub did_work : closing_call k.seen ≡ None → (work : Work) → DidWork k k work
  did_work open_ Did = inl (record { sees = stays k legal; running = open_ })
  did_work open_ Idle = record { sees = stays k legal; running = open_ }

  -- a horizon rose
  pub did_raise : (es' : List Entry) (calls : ℕ) (t : TableId) (h : ℕ) → es' ≡ k.seen ++ record { seat = k.seat; calls = calls; act = Raised t h } ∷ [] → IsLegal k.base es' → DidWork k (record k { seen = es' }) Did
  did_raise es' calls t h then legal' = inr (t, h, one_more k es' calls (Raised t h) legal then legal')

  pub work_no_memory : (sound : Type 0) → closing_call k.seen ≡ None → Refuses (upkeep_cause sound) k k Memory
  work_no_memory sound open_ = (tt, stays k legal, open_)

  pub work_failed : (sound : Type 0) (es' : List Entry) (calls call : ℕ) → es' ≡ k.seen ++ record { seat = k.seat; calls = calls; act = Shut call } ∷ [] → IsLegal k.base es' → Refuses (upkeep_cause sound) k (record k { seen = es' }) WriteFault
  work_failed sound es' calls call then legal' = (tt, (call, one_more k es' calls (Shut call) legal then legal'))

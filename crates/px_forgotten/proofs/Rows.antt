-- The region of a table's rows has forgotten at the table's horizon.
use Rattle.std.proofs.Common.{◌≡◌, inl, ℕ, false, Some, List, [], ◌∷◌, refl, sym, ap, subst, ◌∙◌, arith}
use Rattle.px_outside.specs.Parts.{with_part}
use Rattle.px_cells.specs.CellData.{CellData}
use Rattle.px_world.specs.Events.{Forget}
use Rattle.px_forms.specs.Indexes.{IndexForm}
use Rattle.px_indexed.specs.Kept.{IsCompacted}
use Rattle.px_merge.specs.Kept.{IsKeptList}
use Rattle.px_trail.specs.Trail.{Base}
use Rattle.px_trail.specs.declared.entry.Entry.{Entry}
use Rattle.px_groupworld.specs.Group.{GroupData, TableForm}
use Rattle.px_groupworld.specs.Steps.{forgot_data}
use Rattle.px_groupworld.proofs.Upkeep.{group_forgot}
use Rattle.px_openbatches.specs.Pending.{HeldBatch}
use Rattle.px_tablesteps.specs.Kept.{TableSteps}
use Rattle.px_tablesteps.proofs.Steps.{table_regions}
use Rattle.px_tablereads.proofs.Tells.{told_forgot}
use Rattle.px_built.proofs.Tables.{built_stays}
use Rattle.px_region.specs.Region.{read_of}
use Rattle.px_group.specs.Group.{AreTraced, IsRightBatch, IsRightGroup, IsShownBy, IsTallied, form_of, region_of}
use Rattle.px_group.specs.declared.group.Group.{Group}
use Rattle.px_batching.proofs.Places.{all_more}
use Rattle.px_batching.proofs.Right.{SameIndexes, right_moves}
use Rattle.px_reading.specs.Doubts.{IsToldBy}
use Rattle.px_recovery.specs.Folder.{FolderData, with_region}
use Rattle.px_recovery.specs.Stands.{Explains}
use Rattle.px_recovery.specs.Tables.{form_of_index, index_in, table_in}
use Rattle.px_recovery.proofs.Explains.{by_none, rows_forgot}
use Rattle.px_forgotten.specs.Forgotten.{AreBuiltBy, ForgotRows}
use Rattle.px_forgotten.proofs.Kept.{high_is, promised_on, rows_compacted, rows_kept}

-- ---- the group

module _ (g g' : Group) (s : ForgotRows g g') where
  abbrev then_rows : Group
  then_rows = record g { rows = g'.rows }

  same_rows : SameIndexes g then_rows
  same_rows = record { table = refl; count = refl; each = λ j z at. (z, (at, refl)) }

  pub rows_right : IsRightGroup g → IsRightGroup g'
  rows_right r = subst IsRightGroup (sym s.same) (record {
    table = r.table;
    region = r.region ∙ ap (λ (n : ℕ). record { number = n; least_key = [] } ∷ []) (sym s.region.number);
    rows = rows_kept g.table (read_of g.rows) r.rows g.horizon (read_of g'.rows) s.region.kept;
    parts = r.parts;
    batches = all_more (IsRightBatch g) (IsRightBatch then_rows) (right_moves g then_rows same_rows) g.batches.items r.batches;
    rooms = record { rows = promised_on g.rows g'.rows _ _ s.region.promised r.rooms.rows; indexes = r.rooms.indexes; light = r.rooms.light };
  })

  pub rows_tallied : (b : Base) (es : List Entry) (hs : List HeldBatch) → IsTallied b es g hs → IsTallied b es g' hs
  rows_tallied b es hs k = subst (λ (h : Group). IsTallied b es h hs) (sym s.same) (record {
    standing = record { table = k.standing.table; index = k.standing.index; all = k.standing.all };
    last = k.last;
    horizon = k.horizon;
    held = k.held;
    batches = k.batches;
    phases = k.phases;
    points = k.points;
  })

  pub rows_traced : (es : List Entry) → AreTraced es g → AreTraced es g'
  rows_traced es t = subst (AreTraced es) (sym s.same) (record { each = t.each; once = t.once })

-- ---- its data, where the horizon keeps these of the cells

module _ (b : Base) (index : ℕ → IndexForm) (es : List Entry) (g : Group) (hs : List HeldBatch) (right : IsRightGroup g) (k : IsTallied b es g hs) (v : GroupData) (shown : IsShownBy b index es g v hs) (kept : List CellData) (keeps : IsKeptList (read_of g.rows) g.horizon kept) where
  abbrev f : TableForm
  f = form_of b index g

  compacted : IsCompacted v.cells kept v.high
  compacted = subst (λ (h : ℕ). IsCompacted v.cells kept h) (sym (high_is b index es g hs k v shown))
      (subst (λ (cells : List CellData). IsCompacted cells kept g.horizon) (sym shown.rows) (rows_compacted g.table (read_of g.rows) right.rows g.horizon kept keeps))

  pub rows_steps : TableSteps f (λ i r. Some (Forget false)) es v es (forgot_data kept v) hs
  rows_steps = table_regions f es v hs shown.kept (λ i r. Some (Forget false)) (forgot_data kept v) (group_forgot f es v shown.kept.group kept compacted) (λ i r. tt) refl (λ i l. refl) (λ i l. refl)

  pub rows_built : AreBuiltBy f es v → AreBuiltBy f es (forgot_data kept v)
  rows_built built i l = built_stays f es v shown.kept.group (λ i r. Some (Forget false)) es (forgot_data kept v) rows_steps.does i l (λ r. tt) refl (λ r h. inl h) (built i l)

-- ---- what it shows

module _ (b : Base) (index : ℕ → IndexForm) (es : List Entry) (g : Group) (hs : List HeldBatch) (right : IsRightGroup g) (k : IsTallied b es g hs) (v : GroupData) (shown : IsShownBy b index es g v hs) (g' : Group) (s : ForgotRows g g') where
  abbrev then : GroupData
  then = forgot_data (read_of g'.rows) v

  pub rows_shown : IsShownBy b index es g' then hs
  rows_shown = subst (λ (h : Group). IsShownBy b index es h then hs) (sym s.same)
      (record { kept = (rows_steps b index es g hs right k v shown (read_of g'.rows) s.region.kept).kept; rows = refl; count = shown.count; parts = shown.parts; forms = shown.forms })

  pub rows_told : IsToldBy b index es g v → IsToldBy b index es g' then
  rows_told told = subst (λ (h : Group). IsToldBy b index es h then) (sym s.same)
      (record { told = told_forgot (form_of b index g) es v shown.kept.group told.told (read_of g'.rows) (compacted b index es g hs right k v shown (read_of g'.rows) s.region.kept); own = told.own })

-- ---- the folder

pub rows_folder : (b : Base) (es : List Entry) (f : FolderData) (v : ℕ → GroupData) → Explains b es f v → (g : Group) (hs : List HeldBatch) → IsRightGroup g → IsTallied b es g hs → IsShownBy b (λ n. form_of_index g.table (index_in f.standing.indexes n)) es g (v g.table.id.0) hs
    → (kept : List CellData) → IsKeptList (read_of g.rows) g.horizon kept → (f.regions g.rows.number).cells ≡ read_of g.rows
    → Explains b es (with_region g.rows.number (record { cells = kept; horizon = g.horizon }) f) (with_part v g.table.id.0 (forgot_data kept (v g.table.id.0)))
rows_folder b es f v told g hs right k shown kept keeps cells =
    let t = g.table.id.0 in
    let index = λ (n : ℕ). form_of_index g.table (index_in f.standing.indexes n) in
    let high : (v t).high ≡ g.horizon = high_is b index es g hs k (v t) shown in
    let found : table_in f.standing.tables t ≡ Some g.table = told.catalogue.tables t ∙ k.standing.table in
    let steps = rows_steps b index es g hs right k (v t) shown kept keeps in
    rows_forgot b es es f v told t (by_none b es f v told t) g.table found (forgot_data kept (v t)) steps.kept.group (omega arith) (region_of g.rows) right.region g.horizon kept
    (subst (λ (l : List CellData). IsKeptList l g.horizon kept) (sym cells) keeps) high (λ c. (λ r. r, λ r. r)) refl

-- What repairs rest on, where an entry is no event of the table.
use Rattle.std.proofs.Common.{◌≡◌, ℕ, Some, List, [], ◌∷◌, ◌++◌, get_or, ap, sym, subst, ◌∙◌}
use Rattle.std.specs.Prelude.{slice_get}
use Rattle.px_trail.specs.declared.entry.Entry.{Entry}
use Rattle.px_trail.specs.Trail.{Base}
use Rattle.px_trail.proofs.Orders.{WritesNone}
use Rattle.px_tables.specs.declared.table.Table.{Table}
use Rattle.px_rows.specs.Spelled.{row_form}
use Rattle.px_values.specs.States.{RowState}
use Rattle.px_world.specs.World.{is_written}
use Rattle.px_history.specs.History.{History}
use Rattle.px_forms.specs.Indexes.{IndexForm}
use Rattle.px_indexed.specs.Idle.{IsElsewhere}
use Rattle.px_indexed.proofs.Idle.{act_idle, history_idle}
use Rattle.px_groupworld.specs.Group.{GroupData, GroupKept, TableForm, no_part, table_form}
use Rattle.px_openbatches.specs.Pending.{HeldBatch}
use Rattle.px_group.specs.Group.{IsShownBy, form_of}
use Rattle.px_group.specs.declared.group.Group.{Group}
use Rattle.px_group.specs.declared.group.IndexRegion.{IndexRegion}
use Rattle.px_reading.specs.Doubts.{IsToldBy}
use Rattle.px_tablereads.specs.Told.{AreTold}
use Rattle.px_tablereads.proofs.Tells.{quiet_written, told_same}

pub cells_elsewhere : (f : TableForm) (es : List Entry) (v : GroupData) → AreTold f es v → (e : Entry) → IsElsewhere f.id e.act → AreTold f (es ++ e ∷ []) v
cells_elsewhere f es v told e n = record {
  each = λ r s l w. told.each r s l (ap (λ (h : History RowState). is_written (h.fate s)) (sym (history_idle f.rows.shape f.base es f.id 0 e (act_idle f.id e n).still r)) ∙ w);
}

pub told_elsewhere : (b : Base) (index : ℕ → IndexForm) (es : List Entry) (g : Group) (v : GroupData) → IsToldBy b index es g v → (e : Entry) → IsElsewhere g.table.id e.act → IsToldBy b index (es ++ e ∷ []) g v
told_elsewhere b index es g v k e n = record { told = cells_elsewhere (form_of b index g) es v k.told e n; own = k.own }

-- the table's own entry that writes no row, after which it has the same cells: the manifests are to be the same too
pub told_own : (b : Base) (index : ℕ → IndexForm) (es : List Entry) (g g' : Group) (v w : GroupData) (hs hs' : List HeldBatch) → IsShownBy b index es g v hs → IsToldBy b index es g v → (e : Entry) → WritesNone e.act → g'.table ≡ g.table → IsShownBy b index (es ++ e ∷ []) g' w hs' → w.low ≡ v.low → w.cells ≡ v.cells
    → ((i : ℕ) (x : IndexRegion) → slice_get g'.indexes.items i ≡ Some x → (get_or w.indexes i no_part).horizon ≡ x.region.horizon) → IsToldBy b index (es ++ e ∷ []) g' w
told_own b index es g g' v w hs hs' shown told e none table shown' low cells own =
    let f = form_of b index g in
    let kept : GroupKept f (es ++ e ∷ []) w = subst (λ (t : Table). GroupKept (table_form b t.id index (row_form t)) (es ++ e ∷ []) w) table shown'.kept.group in
    let told' : AreTold f (es ++ e ∷ []) w = told_same f es v shown.kept.group (es ++ e ∷ []) w kept told.told low cells (quiet_written f es v shown.kept.group e none) in
    record {
      told = subst (λ (t : Table). AreTold (table_form b t.id index (row_form t)) (es ++ e ∷ []) w) (sym table) told';
      own = own;
    }

-- What groups show of their tables' data, where other indexes stand.
use Rattle.std.proofs.Common.{◌≡◌, ℕ, List, Some, sym, subst}
use Rattle.std.specs.Prelude.{slice_get}
use Rattle.px_tables.specs.declared.index.Index.{Index}
use Rattle.px_tables.specs.declared.table.Table.{Table}
use Rattle.px_trail.specs.declared.entry.Entry.{Entry}
use Rattle.px_trail.specs.Trail.{Base}
use Rattle.px_forms.specs.Indexes.{IndexForm}
use Rattle.px_groupworld.specs.Group.{GroupData}
use Rattle.px_openbatches.specs.Pending.{HeldBatch}
use Rattle.px_group.specs.Group.{IsShownBy, IsTallied, form_of}
use Rattle.px_group.specs.declared.group.Group.{Group}
use Rattle.px_group.specs.declared.group.IndexRegion.{IndexRegion}
use Rattle.px_reading.specs.Doubts.{IsToldBy}
use Rattle.px_server.specs.Kept.{AreBuilt, HasShown, forms_in}

-- the forms of the group's indexes are the same
abbrev pub HasSameForms : Group → (ℕ → IndexForm) → (ℕ → IndexForm) → Type 0
HasSameForms g index index' = (i : ℕ) (x : IndexRegion) → slice_get g.indexes.items i ≡ Some x → index' x.index.id.0 ≡ index x.index.id.0

-- of its own table, which these are the data of
pub shown_at : (b : Base) (es : List Entry) (indexes : List Index) (v : ℕ → GroupData) (g : Group) (x : Table) (d : GroupData) (hs : List HeldBatch) → g.table ≡ x → v g.table.id.0 ≡ d → IsTallied b es g hs → IsShownBy b (forms_in indexes x) es g d hs → IsToldBy b (forms_in indexes x) es g d → AreBuilt (form_of b (forms_in indexes x) g) es d → HasShown b es indexes v g
shown_at b es indexes v g x d hs table own tallied shown told built = record {
  held = hs;
  tallied = tallied;
  shown = subst (λ (w : GroupData). IsShownBy b (forms_in indexes g.table) es g w hs) (sym own) (subst (λ (u : Table). IsShownBy b (forms_in indexes u) es g d hs) (sym table) shown);
  told = subst (λ (w : GroupData). IsToldBy b (forms_in indexes g.table) es g w) (sym own) (subst (λ (u : Table). IsToldBy b (forms_in indexes u) es g d) (sym table) told);
  built = subst (λ (w : GroupData). AreBuilt (form_of b (forms_in indexes g.table) g) es w) (sym own) (subst (λ (u : Table). AreBuilt (form_of b (forms_in indexes u) g) es d) (sym table) built);
}
